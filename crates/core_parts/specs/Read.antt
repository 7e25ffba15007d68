-- The parts of a core that a caller reads, as words.
use Rattle.std.specs.Prelude.{if◌then◌else◌, List, [], ◌∷◌, ℕ, Option, Some, None, ◌^◌, nat_lt}
use Rattle.word.specs.Bits.{flag}
use Rattle.sysreg.specs.Regs.{reg_at}
use Rattle.sysreg.specs.Encoding.{register_at}
use Rattle.sysreg.specs.declared.regs.Register.{Register}
use Rattle.tlb.specs.declared.{entry.Entry.Entry, hint.Hint.Hint, hint.FetchHint.FetchHint, Inval.Inval}
use Rattle.tlb.specs.declared.Inval.TheVariants.{All, Page, Asid}
use Rattle.cpu.specs.declared.Core.{Core}

-- what a register holds, where there is one
abbrev pub held_by : Core → Option Register → Option ℕ
held_by c (Some r) = Some (reg_at c.control c.sys r)
held_by c None = None

-- the register that a key names; a key that no 32 bits hold names none
unfoldable pub register_of : Core → ℕ → Option ℕ
register_of c key = if nat_lt key (2 ^ 32) then held_by c (register_at key) else None

-- 0 and the value; 6, the check's number, where there is none, and the word stays
abbrev pub number_found : Option ℕ → ℕ
number_found (Some v) = 0
number_found None = 6

abbrev pub value_found : Option ℕ → ℕ → ℕ
value_found (Some v) old = v
value_found None old = old

-- what other cores are to drop: 0 nothing, 1 all, 2 a page, 3 an ASID; and the page or the ASID
abbrev pub pending_words : Option Inval → List ℕ
pending_words None = 0 ∷ 0 ∷ []
pending_words (Some All) = 1 ∷ 0 ∷ []
pending_words (Some (Page p)) = 2 ∷ p ∷ []
pending_words (Some (Asid n)) = 3 ∷ n ∷ []

-- an entry: tag, generation, permissions, level, whether it is for every ASID, ASID, physical page
abbrev pub entry_words : Entry → List ℕ
entry_words e = e.tag ∷ e.generation ∷ e.perms ∷ e.level ∷ flag e.global 1 ∷ e.asid ∷ e.pa ∷ []

-- a data hint: key, physical page
abbrev pub hint_words : Hint → List ℕ
hint_words h = h.key ∷ h.pa ∷ []

-- the fetch hint: whether there is one, page, level, physical page; zeros where there is none
abbrev pub fetch_words : Option FetchHint → List ℕ
fetch_words None = 0 ∷ 0 ∷ 0 ∷ 0 ∷ []
fetch_words (Some f) = 1 ∷ f.page ∷ f.level ∷ f.pa ∷ []
