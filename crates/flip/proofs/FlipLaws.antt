-- A bit of a word that lies in RAM is one of RAM, the lowest byte first.
use Rattle.std.specs.Prelude.{◌≡◌, ◌≢◌, refl, ℕ, zero, suc, ◌+◌, ◌-◌, ◌*◌, ◌/◌, ◌%◌, ◌^◌, ◌<◌, ◌≤◌, true, not, ◌==◌, List, length, Some}
use Rattle.std.proofs.Common.{sym, ap, ◌∙◌, arith, pow-suc}
use Rattle.std.proofs.lemmas.Bool.{lt-ltb}
use Rattle.std.proofs.lemmas.Nat.{pow-add, shr-shr}
use Rattle.word.specs.Bits.{bit_on}
use Rattle.word.specs.Ram.{within, word_at, little_endian}
use Rattle.word.proofs.RamLaws.{cut_field, cut-cut, byte_of}
use Rattle.flip.specs.Flip.{flipped, with_bit, number_of_bit}
use Rattle.flip.specs.Bits.{ram_bit, IsBytes, EachWord, IsNone}
use Rattle.flip.specs.declared.FlippedBit.{FlippedBit}
use Rattle.flip.proofs.Flipping.{flip-bytes, flip-turned, flip-kept}

low-bits : (y k : ℕ) → k < 8 → y % 256 / 2 ^ k % 2 ≡ y / 2 ^ k % 2
low-bits y k l =
    let a : k ≤ 8 = omega arith in
    let b : 1 ≤ 8 - k = omega arith in
    ap (λ (z : ℕ). z % 2) (cut_field y {lo = k} {hi = 8} a) ∙ cut-cut (y / 2 ^ k) {lo = 1} {hi = 8 - k} b

pow-256 : (j : ℕ) → 256 ^ j ≡ 2 ^ (8 * j)
pow-256 zero = refl
pow-256 (suc j) =
    let e : 8 * suc j ≡ 8 * j + 8 = omega arith in
    rw (e, pow-add 2 (8 * j) 8, pow-suc 256 j, pow-256 j) refl

word-bit : (ram : List ℕ) (at i : ℕ) → IsBytes ram → i < 64 → bit_on (little_endian ram 8 at) i ≡ ram_bit ram (8 * at + i)
word-bit ram at i small l =
    let e : (8 * at + i) / 8 ≡ at + i / 8 = omega arith in
    let m : (8 * at + i) % 8 ≡ i % 8 = omega arith in
    let parts : 8 * (i / 8) + i % 8 ≡ i = omega arith in
    let b = byte_of ram 8 at (i / 8) small (omega arith) in
    let w = little_endian ram 8 at in
    rw (e, m, ← b)
    (ap (λ (z : ℕ). z == 1)
    (ap (λ (z : ℕ). w / 2 ^ z % 2) (sym parts)
    ∙ ap (λ (z : ℕ). z % 2) (sym (shr-shr w (8 * (i / 8)) (i % 8)))
    ∙ ap (λ (z : ℕ). w / z / 2 ^ (i % 8) % 2) (sym (pow-256 (i / 8)))
    ∙ sym (low-bits (w / 256 ^ (i / 8)) (i % 8) (omega arith))))

pub word-inside : (base : ℕ) (ram : List ℕ) (pa w : ℕ) → word_at base ram 8 pa ≡ Some w
    → (within base (length ram) 8 pa ≡ true) × (little_endian ram 8 (pa - base) ≡ w)
unfolding word_at
word-inside base ram pa w e = grind arith

word-is : (base : ℕ) (ram : List ℕ) (pa w i : ℕ) → IsBytes ram → i < 64 → word_at base ram 8 pa ≡ Some w → bit_on w i ≡ ram_bit ram (8 * (pa - base) + i)
word-is base ram pa w i small l e = grind (arith, word-inside base ram pa w e, word-bit ram (pa - base) i small l)

-- the words before and after, and where the bit lies
module _ (base : ℕ) (ram : List ℕ) (f : FlippedBit) (word after : ℕ) (small : IsBytes ram) (bit : f.bit < 64) (e : word_at base ram 8 f.pa ≡ Some word)
    (e' : word_at base (with_bit base ram f) 8 f.pa ≡ Some after) where
  after-bit : (i : ℕ) → i < 64 → bit_on after i ≡ ram_bit (flipped ram (number_of_bit base f)) (8 * (f.pa - base) + i)
  after-bit i l =
      word-is base (flipped ram (number_of_bit base f)) f.pa after i (flip-bytes ram (number_of_bit base f) small) l
      (rw (lt-ltb f.bit 64 bit, (word-inside base ram f.pa word e).0) at e')

  in-ram : number_of_bit base f < 8 * length ram
  in-ram = let w = word-inside base ram f.pa word e in grind arith

pub word-turned : EachWord (λ bit word after. bit_on after bit ≡ not (bit_on word bit))
word-turned base ram f word after small l e e' =
    grind (arith, after-bit base ram f word after small l e e' f.bit l, flip-turned ram _ (in-ram base ram f word after small l e e'), word-is base ram f.pa word f.bit small l e)

pub word-kept : EachWord (λ bit word after. (i : ℕ) → i < 64 → i ≢ bit → bit_on after i ≡ bit_on word i)
word-kept base ram f word after small l e e' i m h =
    grind (arith, after-bit base ram f word after small l e e' i m, flip-kept ram (number_of_bit base f) (8 * (f.pa - base) + i), word-is base ram f.pa word i small m e)

pub bit-placed : (base : ℕ) (ram : List ℕ) (f : FlippedBit) → f.bit < 64 → base ≤ f.pa → f.pa + 8 ≤ base + length ram
    → with_bit base ram f ≡ flipped ram (8 * (f.pa - base) + f.bit)
bit-placed base ram f l low high = grind arith

pub nothing-flipped : (base : ℕ) (ram : List ℕ) (f : FlippedBit) → IsNone base ram f → with_bit base ram f ≡ ram
nothing-flipped base ram f h = grind arith
