-- The first descriptor of a walk, by which alone what is found can be told: where it lies, and what its level allows.
use Rattle.std.specs.Prelude.{if◌then◌else◌, ◌≡◌, ℕ, ◌&&◌, Bool, List, nat_le, nat_lt, Option, Some, None}
use Rattle.word.specs.Ram.{word_at}
use Rattle.walk.specs.Regime.{stage1_on, untagged}
use Rattle.walk.specs.Table.{firstblocklevel, entered, Lookup, first_lookup, range_of, descaddr}
use Rattle.walk.specs.Order.{params_at}
use Rattle.flip.specs.Flip.{first_flip}
use Rattle.flip.specs.declared.{FlippedBit.FlippedBit, Question.Question}

-- the address that is walked
abbrev pub address_of : Question → ℕ
address_of q = untagged q.bank.tcr q.regime q.va

-- the first table; none where stage 1 is off, the range has not the address, it is disabled, or its base is too large
unfoldable pub first_table : Question → Option Lookup
first_table q =
    if stage1_on q.bank q.regime
    then entered (params_at q.bank q.regime (address_of q)).outputsize (range_of q.bank q.regime (address_of q)) (address_of q) (λ f. None)
    (Some (first_lookup (range_of q.bank q.regime (address_of q))))
    else None

-- where the descriptor that is read in a table lies
abbrev pub descriptor_in : Question → Lookup → ℕ
descriptor_in q l = descaddr (params_at q.bank q.regime (address_of q)) (address_of q) l

-- whether a block may stand at a level: at a level before 3, and not before the first that has them
abbrev pub has_blocks : Bool → ℕ → Bool
has_blocks largegrain level = nat_le (firstblocklevel largegrain) level && nat_lt level 3

-- a fact of each first descriptor that lies wholly in RAM: whether a block may stand at its level, its word, its bits as they are told, and
-- what is found
abbrev pub EachFirst : (Bool → ℕ → (ℕ → FlippedBit) → Option FlippedBit → Type 0) → Type 0
EachFirst P =
    (q : Question) (base : ℕ) (ram : List ℕ) (l : Lookup) (desc : ℕ) → first_table q ≡ Some l → word_at base ram 8 (descriptor_in q l) ≡ Some desc
    → P (has_blocks (params_at q.bank q.regime (address_of q)).largegrain l.level) desc (λ b. record { pa = descriptor_in q l; bit = b })
    (first_flip q base ram)
