-- Laws of the output address size and of the first level: all that proofs above the definitions know of these.
use Rattle.std.specs.Prelude.{Bool, ℕ, ◌≡◌, ◌-◌, ◌≤◌, true, false, not, ltb, eqb, ◌+◌, ◌*◌, ◌/◌, ◌^◌, ◌<◌, zero, suc, ◌%◌}
use Rattle.std.proofs.Common.{arith, sym, ap, ◌∙◌, pow_pos, pow-add, eq-eqb, ltb-true, ltb-false, shr-shr}
use Rattle.std.proofs.Math.Nat.{div-lt_iff_lt-mul, div-eq_of_lt, zero-div}
use Rattle.word.specs.Bits.{bit_on, wrap}
use Rattle.sysreg.specs.declared.regs.Regime.{Regime}
use Rattle.walk.specs.Regime.{pa_size, size_formula, sign_extend56, untagged}
use Rattle.walk.specs.Table.{firstblocklevel, levels_of, inputsize, startlevel, addrselectbottom, in_range}
use Rattle.walk.specs.declared.range.Range.{Range}
use borrow.Author.Tests.{ne_eqb}
use Rattle.std.proofs.lemmas.Nat.Bits.{bit_at_ones}
use lib.Pow.{high_ones}

-- an output address has at least 32 bits
pub pa-size-low : (code : ℕ) → 32 ≤ pa_size code
unfolding pa_size
pa-size-low code = grind arith

-- and at most 44
pub pa-size-high : (code : ℕ) → pa_size code ≤ 44
unfolding pa_size
pa-size-high code = omega arith

-- the formula gives the size of every code, not only of eight
pub formula_is : (code : ℕ) → size_formula code ≡ pa_size code
unfolding pa_size
formula_is code = grind arith

pub start-level : (g : Range) → startlevel g ≤ 3
start-level g = grind arith

-- a block maps at most 2^30 bytes, at level 1 at the earliest
pub block-level : (g : Bool) (n : ℕ) → firstblocklevel g ≤ n → 1 ≤ n
block-level g n h = grind arith

pub block_size : (g : Bool) (n : ℕ) → firstblocklevel g ≤ n → addrselectbottom g n ≤ 30
block_size g n h = grind arith

-- and every table's index lies above the page's offset
pub index-above-page : (g : Bool) (n : ℕ) → 12 ≤ addrselectbottom g n
index-above-page g n = grind arith

-- a walk goes through at most the levels that its granule has
pub level-count : (g : Range) → 4 - startlevel g ≤ levels_of g.largegrain
level-count g = grind arith

-- A range by the numbers of its ends.
above : (va n : ℕ) → n ≤ 64 → va < 2 ^ 64 → eqb (va / 2 ^ n) (2 ^ (64 - n) - 1) ≡ not (ltb va (2 ^ 64 - 2 ^ n))
above va n h small =
    let size : 64 - n + n ≡ 64 = omega arith in
    let last : 2 ^ 64 - 2 ^ n ≡ (2 ^ (64 - n) - 1) * 2 ^ n = ap (λ (k : ℕ). 2 ^ k - 2 ^ n) (sym size) ∙ high_ones (64 - n) n in
    let whole : 2 ^ 64 ≡ 2 ^ (64 - n) * 2 ^ n = ap (λ (k : ℕ). 2 ^ k) (sym size) ∙ pow-add 2 (64 - n) n in
    grind (arith, eq-eqb, ne_eqb, div-lt_iff_lt-mul, pow_pos, ltb-true, ltb-false)

pub in_lower : (g : Range) (va : ℕ) → g.upper ≡ false → in_range g va ≡ ltb va (2 ^ inputsize g)
in_lower g va e = grind (arith, eq-eqb, div-eq_of_lt, ltb-true, ne_eqb, div-lt_iff_lt-mul, pow_pos, ltb-false)

pub in_upper : (g : Range) (va : ℕ) → va < 2 ^ 64 → g.upper ≡ true → in_range g va ≡ not (ltb va (2 ^ 64 - 2 ^ inputsize g))
in_upper g va h e = grind (arith, above)

-- Laws of untagged addresses: what the tag's removal leaves, and that it goes by pages. Nothing else unfolds `untagged`.

-- a byte of ones has eight bits set, and a byte of zeros none
byte-bit : (b i : ℕ) → b < 2 → i < 8 → b * 255 / 2 ^ i % 2 ≡ b
byte-bit zero i h k = rw zero-div
byte-bit (suc zero) i h k = bit_at_ones 8 i k
byte-bit (suc (suc b)) i h k = absurd (omega arith)

-- the top byte of a sign-extended address
top_byte : (va : ℕ) → sign_extend56 va / 2 ^ 56 ≡ va / 2 ^ 55 % 2 * 255
top_byte va = omega arith

-- bits 63 to 56 of a sign-extended address are copies of bit 55
pub sign_copies : (va i : ℕ) → 56 ≤ i → i < 64 → bit_on (sign_extend56 va) i ≡ bit_on va 55
sign_copies va i h k =
    let e : 56 + (i - 56) ≡ i = omega arith in
    let down : sign_extend56 va / 2 ^ i ≡ va / 2 ^ 55 % 2 * 255 / 2 ^ (i - 56) =
    ap (λ (n : ℕ). sign_extend56 va / 2 ^ n) (sym e) ∙ sym (shr-shr (sign_extend56 va) 56 (i - 56)) ∙ ap (λ (x : ℕ). x / 2 ^ (i - 56)) (top_byte va) in
    rw (down, byte-bit (va / 2 ^ 55 % 2) (i - 56) (omega arith) (omega arith))

-- an untagged address has the address's offset in the page
pub untagged-offset : (tcr : ℕ) (r : Regime) (va : ℕ) → untagged tcr r va % 2 ^ 12 ≡ va % 2 ^ 12
unfolding untagged
untagged-offset tcr r va = grind arith

-- addresses of one page are untagged to addresses of one page
pub untagged-page : (tcr : ℕ) (r : Regime) (va vb : ℕ) → va / 2 ^ 12 ≡ vb / 2 ^ 12 → untagged tcr r va / 2 ^ 12 ≡ untagged tcr r vb / 2 ^ 12
unfolding untagged
untagged-page tcr r va vb e = grind arith

-- BYTES: where the untagged address and i below it fit in 44 bits, i counts in the address itself

pub untagged-plus : (tcr : ℕ) (r : Regime) (va i : ℕ) → va < 2 ^ 64 → untagged tcr r va + i < 2 ^ 44
    → untagged tcr r (wrap (va + i)) ≡ untagged tcr r va + i
unfolding untagged
untagged-plus tcr r va i h = grind arith
