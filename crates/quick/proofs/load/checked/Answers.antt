use Rattle.std.proofs.Common.{sym, ap, ◌∙◌}
use Rattle.cpu.specs.Check.{number_missed}
use Rattle.quick.proofs.Checks.{refused, load-rows, loaded}
use Rattle.quick.proofs.load.checked.Goals as goal

pub returns-in-Ok : goal.returns-in-Ok
returns-in-Ok c =
    loaded _ _ _ _ _ _ (c.sized.ensures.width c.in-Ok.width c.in-Ok.is) (ap number_missed (sym c.in-Ok.is) ∙ c.sized.ensures.number) _ _ _ _ c.own.ensures

pub returns-in-Err : goal.returns-in-Err
returns-in-Err c =
    refused _ _ _ _ c.in-Err.missed (load-rows c.args.core.now _ _ _ _ _ (ap number_missed (sym c.in-Err.is) ∙ c.sized.ensures.number)) _ _ c.number.ensures
