-- A bit of a byte is flipped in place, and taken back; what that does to RAM, bit by bit.
use Rattle.std.specs.Prelude.{◌≡◌, ◌≢◌, ℕ, ◌+◌, ◌*◌, ◌/◌, ◌%◌, ◌^◌, ◌<◌, not, List, length, bit_xor, slice_index, slice_set}
use Rattle.std.specs.Int.Bits.{xor_assoc, xor_self, xor_zero_r}
use Rattle.std.proofs.Common.{◌∙◌, arith}
use Rattle.std.proofs.lemmas.Grind.{common_steps}
use Rattle.std.proofs.lemmas.List.{set-set, set-get_or, length-set, get_or-set_other}
use Rattle.std.proofs.lemmas.Nat.{one_shl, pow_below, xor_of_8}
use Rattle.std.proofs.lemmas.Nat.Bits.{bit_at_xor, bit_at-pow_same, bit_at-pow_other}
use Rattle.word.specs.Bits.{bit_on}
use Rattle.flip.specs.Flip.{flipped}
use Rattle.flip.specs.Bits.{ram_bit, IsBytes}

-- what was kept, put back
pub taken-back : (ram : List ℕ) (i v : ℕ) → slice_set (slice_set ram i v) i (slice_index ram i) ≡ ram
taken-back ram i v = set-set ram i v (slice_index ram i) ∙ set-get_or ram i 0

-- bit b of the eight bytes from at is bit b mod 8 of byte b / 8 of them
pub byte-flipped : (ram : List ℕ) (at b : ℕ) → b < 64
    → slice_set ram (at + b / 8) (bit_xor (slice_index ram (at + b / 8)) (1 * 2 ^ (b % 8) % 256)) ≡ flipped ram (8 * at + b)
unfolding flipped
byte-flipped ram at b h = grind (arith, one_shl (b % 8) 8)

pub ruleset flipping = (taken-back, byte-flipped)

-- OF A NUMBER, the bit itself is the other way, and every other as it was
bit-turned : (x b : ℕ) → bit_on (bit_xor x (2 ^ b)) b ≡ not (bit_on x b)
bit-turned x b = grind (arith, bit_at_xor x (2 ^ b) b, bit_at-pow_same b)

bit-kept : (x b i : ℕ) → i ≢ b → bit_on (bit_xor x (2 ^ b)) i ≡ bit_on x i
bit-kept x b i h = grind (arith, bit_at_xor x (2 ^ b) i, bit_at-pow_other b i h)

-- OF RAM

module _ (ram : List ℕ) (n : ℕ) where
  pub length-flipped : length (flipped ram n) ≡ length ram
  unfolding flipped
  length-flipped = length-set ram _ _

  -- every other byte is as it was
  pub other-byte : (i : ℕ) → i ≢ n / 8 → slice_index (flipped ram n) i ≡ slice_index ram i
  unfolding flipped
  other-byte i h = get_or-set_other ram (n / 8) i _ 0 h

  pub flip-bytes : IsBytes ram → IsBytes (flipped ram n)
  unfolding flipped
  flip-bytes h i = grind (arith, common_steps, xor_of_8, pow_below, h)

  pub flip-turned : n < 8 * length ram → ram_bit (flipped ram n) n ≡ not (ram_bit ram n)
  unfolding flipped
  flip-turned l = grind (arith, common_steps, bit-turned)

  pub flip-kept : (i : ℕ) → i ≢ n → ram_bit (flipped ram n) i ≡ ram_bit ram i
  unfolding flipped
  flip-kept i h = grind (arith, common_steps, bit-kept)

  pub flip-twice : flipped (flipped ram n) n ≡ ram
  unfolding flipped
  flip-twice = grind (arith, common_steps, set-set, set-get_or, xor_assoc, xor_self, xor_zero_r)
