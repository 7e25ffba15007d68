use Rattle.std.proofs.Common.{◌<◌, ◌^◌, length, sym, ◌∙◌, arith}
use Rattle.quick.proofs.Hinting.{data-served}
use Rattle.quick.proofs.translation.data_pa.Goals as goal

pub returns-in-Some : goal.returns-in-Some
returns-in-Some c =
    let long : length c.args.ram.now < 2 ^ 64 = omega arith in
    data-served c.args.core.now c.args.base c.args.ram.now c.args.va long c.in-Some.pa (sym c.served.ensures ∙ c.in-Some.is) c.args.ans.now
