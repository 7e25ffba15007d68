use Rattle.std.proofs.Common.{◌<◌, ◌^◌, length, false, sym, ◌∙◌, arith}
use Rattle.quick.proofs.Checks.{ram-told, clear, pa-told}
use Rattle.quick.proofs.Fetching.{fetch-serves, told}
use Rattle.quick.proofs.Hinting.{plainly}
use Rattle.quick.proofs.fetch.fetch_pa.Goals as goal

pub returns-in-Some : goal.returns-in-Some
returns-in-Some c =
    let long : length c.args.ram.now < 2 ^ 64 = omega arith in
    let s = plainly c.args.core.now c.args.base (length c.args.ram.now) _ _ (sym c.fetch_served.ensures ∙ c.in-Some.is) in
    pa-told c.args.core.now c.args.base c.args.ram.now c.args.va _ _ _ _
    (ram-told c.args.core.now c.args.base c.args.ram.now _ _ (clear c.args.core.now c.args.base c.args.ram.now s.0 long s.1) _ _ _ _
    (told _ _ _ _ _ _ _ (fetch-serves _ _ _ c.in-Some.pa _ s.2 c.none.ensures) false _ _ _ _ c.ended.ensures))

pub returns-in-None : goal.returns-in-None
returns-in-None c = pa-told _ _ _ _ _ _ _ _ c.rest.ensures
