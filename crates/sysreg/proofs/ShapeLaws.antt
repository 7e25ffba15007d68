-- Laws of the shape and of the ASID, for the cache and its history.
use Rattle.std.proofs.Common.{rules, arith, eqb-true, eq-eqb, ◌∙◌}
use Rattle.std.specs.Prelude.{◌≡◌, refl, Bool, true, false, ◌&&◌, List, [], ◌∷◌, ℕ, Some}
use Rattle.std.proofs.lemmas.Bool.{false≢true}
use Rattle.word.proofs.RamLaws.{both}
use Rattle.sysreg.specs.declared.{regs.Control.Control, regs.SysRegs.SysRegs, regs.Register.Register}
use Rattle.sysreg.specs.declared.regs.Regime.TheVariants.{El1, El2, El3}
use Rattle.sysreg.specs.Regs.{in_control, control_at}
use Rattle.sysreg.specs.Encoding.{register_at}
use Rattle.sysreg.proofs.EncodingLaws.{by_level}
use Rattle.sysreg.specs.Write.{control_with, write_reg}
use Rattle.sysreg.proofs.WriteLaws.{control-after, control-written, write-sys}
use Rattle.sysreg.specs.Shape.{SameShape, shape, member, outside_shape, agree_on, same_shape}
use Rattle.sysreg.specs.declared.regs.Register.TheVariants.{Sctlr, Tcr, Ttbr0, Ttbr1, Scr, Hcr}

module _ (a b : Control) where
  pub shape-agrees : same_shape a b ≡ true → SameShape a b
  unfolding same_shape
  shape-agrees e = grind (arith, by_level, both, eqb-true)

  pub agrees-shape : SameShape a b → same_shape a b ≡ true
  unfolding same_shape
  agrees-shape h = search (rules, h.sctlr, h.tcr, eq-eqb)

pub shape-self : (c : Control) → same_shape c c ≡ true
unfolding same_shape
shape-self c = search rules

-- each register of a list is one of `Control`
abbrev all_control : List Register → Bool
all_control [] = true
all_control (r ∷ rs) = in_control r && all_control rs

-- registers of `Control` that a write does not name hold what they held
kept_on : (c : Control) (r : Register) (v : ℕ) (l : List Register) → all_control l ≡ true → member l r ≡ false → agree_on l c (control_with c r v) ≡ true
kept_on c r v [] i e = refl
kept_on c r v (q ∷ qs) i e =
    grind (arith, eq-eqb (control_at c q) (control_at (control_with c r v) q), control-after c r v q, kept_on c r v qs)

pub shape-kept : (c : Control) (r : Register) (v : ℕ) → member shape r ≡ false → same_shape c (control_with c r v) ≡ true
unfolding same_shape
shape-kept c r v e = search (rules, kept_on)

-- a write outside the shape, refused or not, leaves the shape
pub write-keeps-shape : (c : Control) (s : SysRegs) (level k v : ℕ) →
    outside_shape (register_at k) ≡ true → same_shape c (write_reg c s level k v).control ≡ true
unfolding write_reg
write-keeps-shape c s level k v e = grind (arith, shape-kept, shape-self)

-- A control register that counts in the shape: a write of another value changes the shape.
not_so : (b : Bool) → (b ≡ true → ⊥) → b ≡ false
not_so b h = grind arith

-- settings of one shape hold the same in the register
same : (c : Control) (r : Register) (v : ℕ) → in_control r ≡ true → (r ≡ Ttbr0 El1 → ⊥) → (r ≡ Ttbr1 → ⊥) → SameShape c (control_with c r v) → control_at c r ≡ v
same c (Sctlr el) v i a b s = s.sctlr el ∙ control-written c (Sctlr el) v refl
same c (Tcr el) v i a b s = s.tcr el ∙ control-written c (Tcr el) v refl
same c (Ttbr0 El1) v i a b s = absurd (a refl)
same c (Ttbr0 El2) v i a b s = s.ttbr0-el2 ∙ control-written c (Ttbr0 El2) v refl
same c (Ttbr0 El3) v i a b s = s.ttbr0-el3 ∙ control-written c (Ttbr0 El3) v refl
same c Ttbr1 v i a b s = absurd (b refl)
same c Scr v i a b s = s.scr ∙ control-written c Scr v refl
same c Hcr v i a b s = s.hcr ∙ control-written c Hcr v refl
same c r v i a b s = absurd (false≢true i)

pub shape-changed : (c : Control) (r : Register) (v : ℕ) → in_control r ≡ true → (r ≡ Ttbr0 El1 → ⊥) → (r ≡ Ttbr1 → ⊥) → (control_at c r ≡ v → ⊥)
    → same_shape c (control_with c r v) ≡ false
shape-changed c r v i a b n = grind (arith, not_so, same, shape-agrees)

-- the two that do not count
pub keeps-ttbr0 : (c : Control) (v : ℕ) → same_shape c (control_with c (Ttbr0 El1) v) ≡ true
keeps-ttbr0 c v = shape-kept c (Ttbr0 El1) v refl

pub keeps-ttbr1 : (c : Control) (v : ℕ) → same_shape c (control_with c Ttbr1 v) ≡ true
keeps-ttbr1 c v = shape-kept c Ttbr1 v refl

pub keeps-system : (c : Control) (s : SysRegs) (level k v : ℕ) (r : Register) → register_at k ≡ Some r → in_control r ≡ false
    → same_shape c (write_reg c s level k v).control ≡ true
keeps-system c s level k v r e i = rw (write-sys c s level k v r e i) (shape-self c)
