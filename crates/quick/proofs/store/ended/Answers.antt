use Rattle.std.specs.Prelude.{length}
use Rattle.std.proofs.Common.{refl, ap, ◌∙◌}
use Rattle.word.specs.Ram.{within, stored, bytes_in}
use Rattle.word.specs.declared.ram.Width.{Width}
use Rattle.cpu.specs.Step.{after_store}
use Rattle.quick.proofs.ByHint.{tells}
use Rattle.quick.proofs.OneStore.{end-made, end-outside, end-fault, put-whole, put-fault}
use Rattle.quick.proofs.store.ended.Goals as goal

pub returns-then-write : goal.returns-then-write
returns-then-write g c =
    let made = c.write.ensures.made ∙ ap (λ (x : Width). within c.args.base (length c.args.ram.now) (bytes_in x) c.in-Ok.pa) c.WIDTH.ensures in
    let after = c.write.ensures.after ∙ ap (λ (x : Width). stored c.args.base c.args.ram.now (bytes_in x) c.in-Ok.pa c.args.value) c.WIDTH.ensures in
    record {
      tells = tells _ _ _ _ _ _ _ _ (ap after_store (end-made _ _ _ _ _ _ c.in-Ok.pa c.in-Ok.is _ made c.if-write.true)) refl refl refl refl;
      ram = put-whole c.args.core.now _ _ _ _ _ c.in-Ok.pa c.in-Ok.is _ _ after;
    }

pub returns-else-write : goal.returns-else-write
returns-else-write g c =
    let made = c.write.ensures.made ∙ ap (λ (x : Width). within c.args.base (length c.args.ram.now) (bytes_in x) c.in-Ok.pa) c.WIDTH.ensures in
    let after = c.write.ensures.after ∙ ap (λ (x : Width). stored c.args.base c.args.ram.now (bytes_in x) c.in-Ok.pa c.args.value) c.WIDTH.ensures in
    record {
      tells = tells _ _ _ _ _ _ _ _ (ap after_store (end-outside _ _ _ _ _ _ c.in-Ok.pa c.in-Ok.is _ made c.if-write.false c.ranges.va.fits)) refl refl refl refl;
      ram = put-whole c.args.core.now _ _ _ _ _ c.in-Ok.pa c.in-Ok.is _ _ after;
    }

pub returns-in-Err : goal.returns-in-Err
returns-in-Err g c =
    record {
      tells = tells _ _ _ _ _ _ _ _ (ap after_store (end-fault _ _ _ _ _ c.in-Err.fault _ c.in-Err.is)) refl refl refl refl;
      ram = put-fault c.args.core.now _ _ _ _ c.in-Err.fault _ c.in-Err.is _;
    }
