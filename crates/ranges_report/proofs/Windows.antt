-- A block by its ends, and a range by its ends.
use Rattle.std.specs.Prelude.{◌≡◌, Bool, true, false, not, ◌||◌, ltb, ℕ, ◌+◌, ◌-◌, ◌*◌, ◌/◌, ◌%◌, ◌^◌, ◌≤◌, ◌<◌, max, min}
use Rattle.std.proofs.Common.{ap, ◌∙◌, arith, pow_pos, ltb-true, ltb-false, le-ltb, pow_mono, pow-add}
use Rattle.word.specs.Bits.{align_down}
use Rattle.word.proofs.RamLaws.{join-small}
use Rattle.walk.specs.Table.{in_range, inputsize}
use Rattle.walk.proofs.SizeLaws.{in_lower, in_upper}
use Rattle.walk.proofs.Levels.{ones_shifted}
use Rattle.walk.specs.declared.range.Range.{Range}

-- the last address of a block has 64 bits
pub block-fits : (va n : ℕ) → va < 2 ^ 64 → n ≤ 55 → align_down va n + (2 ^ n - 1) < 2 ^ 64
block-fits va n h k =
    let p = pow_pos n in
    let r : 2 ^ n - 1 < 2 ^ n = omega arith in
    join-small {x = va} {r = 2 ^ n - 1} {k = n} {n = 64} (omega arith) h r

-- what is not above the last is below the one after it
below-next : (va n : ℕ) → 0 < n → ltb va n ≡ not (ltb (n - 1) va)
below-next va n p = grind (arith, ltb-true, ltb-false)

or-false : (b : Bool) → not b ≡ not (b || false)
or-false b = grind arith

module _ (g : Range) (va : ℕ) where
  -- the code's number of high bits that are no input
  abbrev high : ℕ
  high = max 16 (min g.txsz 39)

  last : (2 ^ 64 - 1) / 2 ^ high ≡ 2 ^ inputsize g - 1
  last =
      let e : 64 - high ≡ inputsize g = omega arith in
      ones_shifted high (omega arith) ∙ ap (λ (n : ℕ). 2 ^ n - 1) e

  pub lower-window : g.upper ≡ false → in_range g va ≡ not (ltb va 0 || ltb ((2 ^ 64 - 1) / 2 ^ high) va)
  lower-window e =
      let z : ltb va 0 ≡ false = le-ltb va 0 (omega arith) in
      in_lower g va e ∙ below-next va (2 ^ inputsize g) (pow_pos (inputsize g)) ∙ rw (last, z)

  pub upper-window : va < 2 ^ 64 → g.upper ≡ true → in_range g va ≡ not (ltb va (2 ^ 64 - 1 - (2 ^ 64 - 1) / 2 ^ high) || ltb (2 ^ 64 - 1) va)
  upper-window h e =
      let z : ltb (2 ^ 64 - 1) va ≡ false = le-ltb (2 ^ 64 - 1) va (omega arith) in
      let p = pow_pos (inputsize g) in
      let f : 2 ^ 64 - 1 - (2 ^ 64 - 1) / 2 ^ high ≡ 2 ^ 64 - 2 ^ inputsize g = omega (arith, last) in
      in_upper g va h e ∙ or-false (ltb va (2 ^ 64 - 2 ^ inputsize g)) ∙ rw (f, z)

-- one shifted up
pub one-shift : (n : ℕ) → n ≤ 55 → 1 * 2 ^ n % 2 ^ 64 ≡ 2 ^ n
one-shift n h =
    let k : 2 ^ n ≤ 2 ^ 55 = pow_mono h in
    omega arith

-- PAGES: blocks and ranges are of whole pages of 2^12

record Pages (x : ℕ) : Type 0 where
  count : ℕ
  some : 0 < count
  is : x ≡ count * 2 ^ 12

pages : (n : ℕ) → 12 ≤ n → Pages (2 ^ n)
pages n h =
    let e : n ≡ n - 12 + 12 = omega arith in
    record { count = 2 ^ (n - 12); some = pow_pos (n - 12); is = ap (λ (k : ℕ). 2 ^ k) e ∙ pow-add 2 (n - 12) 12 }

ends-page : (q x : ℕ) → Pages x → (q * x + (x - 1)) % 2 ^ 12 ≡ 2 ^ 12 - 1
ends-page q x p =
    let s = p.some in
    rw p.is (omega arith)

pub block-page : (va n : ℕ) → 12 ≤ n → (align_down va n + (2 ^ n - 1)) % 2 ^ 12 ≡ 2 ^ 12 - 1
block-page va n h = ends-page (va / 2 ^ n) (2 ^ n) (pages n h)

pub lower-page : (g : Range) → (2 ^ 64 - 1) / 2 ^ max 16 (min g.txsz 39) % 2 ^ 12 ≡ 2 ^ 12 - 1
lower-page g =
    let p = pages (inputsize g) (omega arith) in
    let s = p.some in
    let e = p.is in
    rw (last g 0) (omega arith)

pub upper-page : (g : Range) → (2 ^ 64 - 1 - (2 ^ 64 - 1) / 2 ^ max 16 (min g.txsz 39)) % 2 ^ 12 ≡ 0
upper-page g =
    let p = pages (inputsize g) (omega arith) in
    let s = p.some in
    let e = p.is in
    rw (last g 0) (omega arith)
