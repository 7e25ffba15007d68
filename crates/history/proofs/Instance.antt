-- The real registers and walk keep the laws.
use Rattle.std.specs.Prelude.{◌≡◌, refl, ℕ, ◌+◌, ◌*◌, ◌/◌, ◌%◌}
use Rattle.std.proofs.Common.{arith}
use Rattle.sysreg.specs.Regs.{fresh_control}
use Rattle.sysreg.specs.Shape.{asid_base, asid_of, SameShape}
use Rattle.sysreg.proofs.ShapeLaws.{shape-agrees}
use Rattle.sysreg.specs.declared.regs.Control.{Control}
use Rattle.walk.specs.Regime.{bank_of, stage1_on}
use Rattle.walk.proofs.SizeLaws.{untagged-page, untagged-offset}
use Rattle.walk.proofs.WalkBounds.{leaf-bounds, leaf-of-page}
use Rattle.walk.specs.WalkBounds.{leaf_at}
use Rattle.sysreg.specs.declared.regs.Regime.{Regime}
use Rattle.history.specs.World.{Laws}
use Rattle.history.specs.Instance.{memory_of, real}

shape_on : (R S : Control) → SameShape R S → (r : Regime) → stage1_on (bank_of R r) r ≡ stage1_on (bank_of S r) r
shape_on R S h1 r = grind arith

same-page : (x v : ℕ) → x / 4096 ≡ (x / 4096 * 4096 + v % 4096) / 4096
same-page x v = omega arith

pub real-laws : Laws real
real-laws =
    record {
      shape_on = λ R S e r. shape_on R S (shape-agrees R S e) r;
      shape-untag = λ R S e r va. rw ((shape-agrees R S e).tcr r);
      untag-page = λ R r va vb e. untagged-page (bank_of R r).tcr r va vb e;
      untag-offset = λ R r va. untagged-offset (bank_of R r).tcr r va;
      leaf-level = λ R m r va ℓ e. (leaf-bounds (bank_of R r) r va (memory_of m) ℓ e).level-high;
      walk-page = λ R m r va vb p ℓ e. (
        leaf_at ℓ vb,
        leaf-of-page (bank_of R r) r va vb (memory_of m) p ℓ e,
        record { pages = same-page ℓ.oa vb; perms = refl; levels = refl },
        refl,
      );
    }

pub fresh-asid : asid_of fresh_control ≡ 0
unfolding asid_of asid_base fresh_control
fresh-asid = refl
