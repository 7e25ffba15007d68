use Rattle.std.specs.Prelude.{Some}
use Rattle.std.proofs.Common.{◌<◌, ◌≤◌, ◌-◌, ◌^◌, length, refl, ap, subst, arith}
use Rattle.word.specs.Ram.{bytes_in}
use Rattle.word.specs.declared.ram.Width.{Width}
use Rattle.cpu.specs.declared.call.Reply.TheVariants.{Value}
use Rattle.cpu.specs.Memory.{read_of}
use Rattle.cpu.specs.Step.{after_load}
use Rattle.cpu.specs.Work.{read_work}
use Rattle.tlb.specs.Translate.{no_work}
use Rattle.quick.specs.Says.{Tells, OfTwo}
use Rattle.quick.proofs.ByHint.{tells}
use Rattle.quick.proofs.Checks.{loaded, clear-sized, known}
use Rattle.quick.proofs.load.pages.Goals as goal

pub returns-in-Some : goal.returns-in-Some
returns-in-Some g c =
    let two = subst (λ (x : Width). OfTwo c.args.core.now c.args.base c.args.ram.now c.args.va (bytes_in x) (Some (c.in-Some.first, c.in-Some.v))) c.WIDTH.ensures c.in-Some.ensures in
    let long : length c.args.ram.now < 2 ^ 64 = omega arith in
    loaded _ _ _ _ _ _ (known g.W.Datum.WIDTH) (clear-sized c.args.core.now c.args.base c.args.ram.now g.W.Datum.WIDTH two.0 long two.1) _ _ _ _
    (tells _ _ _ (Value c.in-Some.v) _ _ _ _ (ap after_load two.2) two.3 refl refl refl)

pub returns-else-ram-base : goal.returns-else-ram-base
returns-else-ram-base g c =
    let low : c.args.core.now.privilege.level < 4 = omega (arith, c.if-core-gt3.false) in
    let long : length c.args.ram.now < 2 ^ 64 = omega arith in
    let fits : c.args.base ≤ 2 ^ 64 - 1 - length c.args.ram.now = omega (arith, c.if-ram-base.false) in
    let told = subst (λ (x : Width). Tells (after_load (read_of c.args.core.now c.args.base c.args.ram.now c.args.va (bytes_in x)))
    (read_work c.args.core.now c.args.base c.args.ram.now c.args.va (bytes_in x) no_work) c.args.ans.now c.own.result c.own.new.ans c.own.new.core) c.WIDTH-else-ram-base.ensures c.own.ensures in
    loaded _ _ _ _ _ _ (known g.W.Datum.WIDTH) (clear-sized c.args.core.now c.args.base c.args.ram.now g.W.Datum.WIDTH low long fits) _ _ _ _ told
