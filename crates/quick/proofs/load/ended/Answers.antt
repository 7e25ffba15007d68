use Rattle.std.proofs.Common.{refl, ap, ◌∙◌}
use Rattle.word.specs.Ram.{word_at, bytes_in}
use Rattle.word.specs.declared.ram.Width.{Width}
use Rattle.cpu.specs.Step.{after_load}
use Rattle.quick.proofs.ByHint.{tells}
use Rattle.quick.proofs.OnePage.{end-value, end-outside, end-fault}
use Rattle.quick.proofs.load.ended.Goals as goal

pub returns-in-Some : goal.returns-in-Some
returns-in-Some g c =
    let w = c.read.ensures ∙ ap (λ (x : Width). word_at c.args.base c.args.ram.now (bytes_in x) c.in-Ok.pa) c.WIDTH.ensures in
    tells _ _ _ _ _ _ _ _ (ap after_load (end-value _ _ _ _ _ _ c.in-Ok.pa c.in-Ok.is _ w _ c.in-Some.is)) refl refl refl refl

pub returns-in-None : goal.returns-in-None
returns-in-None g c =
    let w = c.read.ensures ∙ ap (λ (x : Width). word_at c.args.base c.args.ram.now (bytes_in x) c.in-Ok.pa) c.WIDTH.ensures in
    tells _ _ _ _ _ _ _ _ (ap after_load (end-outside _ _ _ _ _ _ c.in-Ok.pa c.in-Ok.is _ w c.in-None.is c.ranges.va.fits)) refl refl refl refl

pub returns-in-Err : goal.returns-in-Err
returns-in-Err g c = tells _ _ _ _ _ _ _ _ (ap after_load (end-fault _ _ _ _ _ c.in-Err.fault _ c.in-Err.is)) refl refl refl refl
