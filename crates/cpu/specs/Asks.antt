-- The translations that an access makes, from its call and the registers, and what their answers say of its place.
use Rattle.std.specs.Prelude.{ℕ, Bool, true, false, List, [], ◌∷◌, Option, Err}
use Rattle.fault.specs.First.{first}
use Rattle.walk.specs.Regime.{stage1_on}
use Rattle.sysreg.specs.Regs.{regime_of}
use Rattle.walk.specs.declared.regime.Bank.{Bank}
use Rattle.tlb.specs.Model.{Access}
use Rattle.tlb.specs.Translate.{access_of}
use Rattle.tlb.specs.Asks.{Ask, translates, Given}
use Rattle.tlb.specs.declared.{access.Kind.Kind, access.Privilege.Privilege}
use Rattle.tlb.specs.Answers.{Answer}
use Rattle.cpu.specs.Bytes.{Placed, fault_at, next_page, crosses, placed_one, placed_both}
use Rattle.cpu.specs.Core.{bank_now}
use Rattle.word.specs.Ram.{word_at}
use Rattle.tlb.specs.declared.access.Kind.{Kind}
use Rattle.cpu.specs.declared.Core.{Core}

-- An access of n bytes: its own address, and where it crosses a page with stage 1 on the next page's first. The second
-- is made only where the first does not fault (`answers`, `tlb_asks`): that is not said here, and so nothing here
-- depends on an answer.
abbrev pub asks_by : Bool → ℕ → Kind → List Ask
asks_by true va kind = translates kind va ∷ translates kind (next_page va) ∷ []
asks_by false va kind = translates kind va ∷ []

abbrev pub access_asks : Bool → ℕ → ℕ → Kind → List Ask
access_asks on va n kind = asks_by (crosses on va n) va kind

-- the answer of a call of one translation
abbrev pub first_of : List Given → Answer
first_of [] = Err (first 0)
first_of (g ∷ l) = g.answer

-- what the answers of an access say of its place: it has one, or two where it is split and the first is an address
abbrev pub placed_from : ℕ → List Given → Placed
placed_from va [] = Err (fault_at va (first 0))
placed_from va (g ∷ []) = placed_one va g.answer
placed_from va (g ∷ h ∷ l) = placed_both va g.answer h.answer

-- the access of a kind at an address, under registers and a level
abbrev pub access_at : Bank → Privilege → (ℕ → Option ℕ) → Kind → ℕ → Access
access_at s privilege memory kind va = access_of s privilege va kind memory

-- on a core: whether stage 1 is on, and the access of a kind at an address, as the core makes it
abbrev pub on_now : Core → Bool
on_now c = stage1_on (bank_now c) (regime_of c.privilege.level)

abbrev pub asked_now : Core → (ℕ → Option ℕ) → Kind → ℕ → Access
asked_now c memory = access_at (bank_now c) c.privilege memory

abbrev pub access_now : Core → ℕ → List ℕ → Kind → ℕ → Access
access_now c base ram = asked_now c (word_at base ram 8)
