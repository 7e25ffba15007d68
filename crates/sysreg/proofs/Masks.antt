-- The masks of the registers that keep some bits only.
use Rattle.std.proofs.lemmas.Grind.{common_steps}
use Rattle.std.proofs.Common.{◌≡◌, refl, sym, ap, ap₂, ◌∙◌, ℕ, ◌+◌, ◌-◌, ◌*◌, ◌/◌, ◌%◌, ◌^◌, ◌<◌, arith, lit≤, add_assoc, mod-eq_of_lt, mod-lt, pow_pos}
use native.Mathlib.Nat.{lt_of_le_of_lt}
use lib.Bits.{bit_and, and_mask, and_shr, and_mod, and_le_r}
use lib.Pow.{split}
use Rattle.std.proofs.lemmas.Nat.Bits.{and_high_mask}
use Rattle.word.specs.Bits.{align_down}
use Rattle.sysreg.specs.declared.regs.Register.{Register}
use Rattle.sysreg.specs.Write.{in_place, spsr_kept, kept}

-- a mask in two parts, from bit k up and below it
cut : (v m k : ℕ) → bit_and v m ≡ bit_and (v / 2 ^ k) (m / 2 ^ k) * 2 ^ k + bit_and (v % 2 ^ k) (m % 2 ^ k)
cut v m k = sym (split (bit_and v m) k) ∙ ap₂ (λ (a b : ℕ). a * 2 ^ k + b) (and_shr v m k) (and_mod v m k)

-- what stands below bit k takes no more than the bits below it
below : (v m k : ℕ) → bit_and (v % 2 ^ k) (m % 2 ^ k) ≡ bit_and v (m % 2 ^ k)
below v m k =
    let e = and_mod v (m % 2 ^ k) k in
    let h : m % 2 ^ k % 2 ^ k ≡ m % 2 ^ k = mod-eq_of_lt (mod-lt m (pow_pos k)) in
    let l : bit_and v (m % 2 ^ k) < 2 ^ k = lt_of_le_of_lt (and_le_r v (m % 2 ^ k)) (mod-lt m (pow_pos k)) in
    sym (sym (mod-eq_of_lt l) ∙ e ∙ ap (bit_and (v % 2 ^ k)) h)

-- a mask whose top is a run of n ones from bit lo up
pub run : (v m lo n : ℕ) → m / 2 ^ lo ≡ 2 ^ n - 1 → bit_and v m ≡ in_place v lo n + bit_and v (m % 2 ^ lo)
run v m lo n e =
    cut v m lo
    ∙ ap₂ (λ (a b : ℕ). a * 2 ^ lo + b) (ap (bit_and (v / 2 ^ lo)) e ∙ and_mask (v / 2 ^ lo) n) (below v m lo)

pub spsr_mask : (v : ℕ) → bit_and v 0xF03F_03DF ≡ spsr_kept v
unfolding spsr_kept
spsr_mask v =
    rw (run v 0xF03F_03DF 28 4 refl, run v 0x3F_03DF 21 1 refl, run v 0x1F_03DF 20 1 refl, run v 0xF_03DF 16 4 refl, run v 0x3DF 6 4 refl, and_mask v 5)
    (simp add_assoc)

pub vbar_mask : (v : ℕ) → v < 2 ^ 64 → bit_and v 0xFFFF_FFFF_FFFF_F800 ≡ align_down v 11
vbar_mask v h = and_high_mask 64 11 (lit≤ tt) v h

pub low_mask : (v : ℕ) → bit_and v 0xFFFF_FFFF ≡ v % 2 ^ 32
low_mask v = and_mask v 32

pub ruleset masks = (spsr_mask, vbar_mask, low_mask)

-- what a register keeps is a mask of the value
pub kept-masked : (r : Register) (v : ℕ) → v < 2 ^ 64 → kept r v ≡ bit_and v (kept r 0xFFFF_FFFF_FFFF_FFFF)
unfolding spsr_kept
kept-masked r v h = grind (arith, common_steps, vbar_mask, spsr_mask, low_mask)
