-- What is set is read, and what one core asks of the others reaches them.
use Rattle.std.specs.Prelude.{◌≡◌, ◌≢◌, ℕ, ◌<◌, ◌≤◌, ◌^◌, length, slice_index, Some}
use Rattle.tlb.specs.declared.Inval.{Inval}
use Rattle.tlb.specs.declared.Inval.TheVariants.{All, Page, Asid}
use Rattle.cpu.specs.Core.{reg_of, set_reg}
use Rattle.cpu.specs.declared.Core.{Core}
use Rattle.core_parts.specs.Read.{pending_words}
use Rattle.core_parts.specs.Put.{inval_named}

-- general registers 0 to 30 are read as they were set, each alone; 31 and above take nothing and read as zero
abbrev pub general_set : Type 0
general_set = (c : Core) (n v : ℕ) → length c.x ≡ 31 → n < 31 → reg_of (set_reg c n v) n ≡ v

abbrev pub general_alone : Type 0
general_alone = (c : Core) (n m v : ℕ) → m ≢ n → reg_of (set_reg c n v) m ≡ reg_of c m

abbrev pub general_none : Type 0
general_none = (c : Core) (n v : ℕ) → 31 ≤ n → (set_reg c n v ≡ c) × (reg_of c n ≡ 0)

-- an ASID has 16 bits
abbrev pub InRange : Inval → Type 0
InRange All = Unit {0}
InRange (Page p) = Unit {0}
InRange (Asid n) = n < 2 ^ 16

-- the two words that one core gives are the broadcast that another receives
abbrev pub broadcast_arrives : Type 0
broadcast_arrives =
    (what : Inval) → InRange what
    → inval_named (slice_index (pending_words (Some what)) 0) (slice_index (pending_words (Some what)) 1) ≡ Some what
