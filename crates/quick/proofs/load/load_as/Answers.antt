use Rattle.std.proofs.Common.{◌<◌, ◌≤◌, ◌-◌, ◌^◌, length, arith}
use Rattle.quick.proofs.Checks.{loaded, clear-sized, known}
use Rattle.quick.proofs.load.load_as.Goals as goal

pub returns-else-ram-base : goal.returns-else-ram-base
returns-else-ram-base g c =
    let low : c.args.core.now.privilege.level < 4 = omega (arith, c.if-core-gt3.false) in
    let long : length c.args.ram.now < 2 ^ 64 = omega arith in
    let fits : c.args.base ≤ 2 ^ 64 - 1 - length c.args.ram.now = omega (arith, c.if-ram-base.false) in
    loaded _ _ _ _ _ _ (known g.W.Datum.WIDTH) (clear-sized c.args.core.now c.args.base c.args.ram.now g.W.Datum.WIDTH low long fits) _ _ _ _ c.by_hint.ensures
