-- The bits of a descriptor that say what it is, by number and by the manual's names.
use Rattle.std.specs.Prelude.{if◌then◌else◌, ◌≡◌, ℕ, ◌==◌, Bool, Option, Some, None, IfSome}
use Rattle.word.specs.Bits.{bit_on}
use Rattle.walk.specs.Descriptor.{valid, table_or_page}
use Rattle.walk_report.specs.declared.fields.KindBit.{KindBit}
use Rattle.walk_report.specs.declared.fields.KindBit.TheVariants.{Valid, TableOrPage}

abbrev pub kind_bit : ℕ → Option KindBit
kind_bit n = if n == 0 then Some Valid else if n == 1 then Some TableOrPage else None

-- what the walk reads at it
abbrev pub read_at : KindBit → ℕ → Bool
read_at Valid desc = valid desc
read_at TableOrPage desc = table_or_page desc

-- a bit that is named is the one that the walk reads under the name
abbrev pub named_as_read : Type 0
named_as_read = (n desc : ℕ) → IfSome (kind_bit n) (λ b. read_at b desc ≡ bit_on desc n)
