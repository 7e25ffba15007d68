use Rattle.std.proofs.Common.{sym, ap, ◌∙◌}
use Rattle.cpu.specs.Check.{number_missed}
use Rattle.quick.proofs.Checks.{refused, refused-ram, store-rows, stored, stored-ram}
use Rattle.quick.proofs.store.checked.Goals as goal

pub returns-in-Ok : goal.returns-in-Ok
returns-in-Ok c =
    let sized = c.sized.ensures.width c.in-Ok.width c.in-Ok.is in
    let passed = ap number_missed (sym c.in-Ok.is) ∙ c.sized.ensures.number in
    record {
      tells = stored _ _ _ _ _ _ sized passed _ _ _ _ _ c.own.ensures.tells;
      ram = stored-ram _ _ _ _ _ _ sized passed _ _ c.own.ensures.ram;
    }

pub returns-in-Err : goal.returns-in-Err
returns-in-Err c =
    let missed = store-rows c.args.core.now _ _ _ _ c.args.value _ (ap number_missed (sym c.in-Err.is) ∙ c.sized.ensures.number) in
    record {
      tells = refused _ _ _ _ c.in-Err.missed missed _ _ c.number.ensures;
      ram = refused-ram _ _ _ _ c.in-Err.missed missed;
    }
