-- The bits of RAM and of a word in it, one by one, for what a flip does to them. The laws are the contract of `theorems::flips`.
use Rattle.std.specs.Prelude.{◌≡◌, ℕ, ◌+◌, ◌/◌, ◌%◌, ◌<◌, ◌≤◌, ◌⊎◌, Bool, List, length, Some, slice_index}
use Rattle.word.specs.Bits.{bit_on}
use Rattle.word.specs.Ram.{word_at}
use Rattle.flip.specs.Flip.{with_bit}
use Rattle.flip.specs.declared.FlippedBit.{FlippedBit}

-- bit n of RAM, which is bit n mod 8 of byte n / 8
abbrev pub ram_bit : List ℕ → ℕ → Bool
ram_bit ram n = bit_on (slice_index ram (n / 8)) (n % 8)

-- RAM as a list of bytes
abbrev pub IsBytes : List ℕ → Type 0
IsBytes ram = (i : ℕ) → slice_index ram i < 256

-- a fact of each bit of a word that lies in RAM: which bit, the word, and the word where that bit is flipped
abbrev pub EachWord : (ℕ → ℕ → ℕ → Type 0) → Type 0
EachWord P =
    (base : ℕ) (ram : List ℕ) (f : FlippedBit) (word after : ℕ) → IsBytes ram → f.bit < 64 → word_at base ram 8 f.pa ≡ Some word
    → word_at base (with_bit base ram f) 8 f.pa ≡ Some after → P f.bit word after

-- a bit that there is not: of a word with a byte outside RAM, or above 63
abbrev pub IsNone : ℕ → List ℕ → FlippedBit → Type 0
IsNone base ram f = (64 ≤ f.bit) ⊎ ((f.pa < base) ⊎ (base + length ram < f.pa + 8))
