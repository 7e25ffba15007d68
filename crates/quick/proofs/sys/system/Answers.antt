use Rattle.std.proofs.Common.{sym, ap, ◌∙◌}
use Rattle.cpu.specs.Check.{number_missed}
use Rattle.quick.proofs.Checks.{refused, refused-ram, system-told, system-ram}
use Rattle.quick.proofs.sys.system.Goals as goal

pub returns-in-Ok : goal.returns-in-Ok
returns-in-Ok c =
    let passed = ap number_missed (sym c.in-Ok.is) ∙ c.system.ensures in
    record {
      tells = system-told _ _ _ _ passed _ _ _ _ c.operate.ensures.tells;
      ram = system-ram _ _ _ _ passed _ c.operate.ensures.ram;
    }

pub returns-in-Err : goal.returns-in-Err
returns-in-Err c =
    let missed = ap number_missed (sym c.in-Err.is) ∙ c.system.ensures in
    record {
      tells = refused _ _ _ _ c.in-Err.missed missed _ _ c.number.ensures;
      ram = refused-ram _ _ _ _ c.in-Err.missed missed;
    }
