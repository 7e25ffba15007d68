-- Bits 0 and 1 of a little-endian word are those of its first byte.
use Rattle.std.specs.Prelude.{◌≡◌, ℕ, ◌+◌, ◌*◌, List}
use Rattle.std.proofs.Common.{arith}
use Rattle.word.specs.Ram.{little_endian}
use Rattle.walk.specs.Descriptor.{valid, table_or_page}
use Rattle.flip.specs.Bits.{ram_bit}

pub valid-is : (ram : List ℕ) (at : ℕ) → valid (little_endian ram 8 at) ≡ ram_bit ram (8 * at + 0)
unfolding little_endian
valid-is ram at = grind arith

pub table-is : (ram : List ℕ) (at : ℕ) → table_or_page (little_endian ram 8 at) ≡ ram_bit ram (8 * at + 1)
unfolding little_endian
table-is ram at = grind arith
