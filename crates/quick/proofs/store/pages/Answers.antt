use Rattle.std.specs.Prelude.{◌≡◌, ◌-◌, ◌<◌, ◌≤◌, ◌^◌, ℕ, List, length, true}
use Rattle.std.proofs.Common.{refl, ap, subst, arith}
use Rattle.word.specs.Ram.{bytes_in}
use Rattle.word.specs.declared.ram.Width.{Width}
use Rattle.cpu.specs.declared.call.Reply.TheVariants.{Done}
use Rattle.cpu.specs.Memory.{write_of, ram_after_write}
use Rattle.cpu.specs.Step.{after_store}
use Rattle.cpu.specs.Work.{write_work}
use Rattle.tlb.specs.Translate.{no_work}
use Rattle.quick.specs.Says.{Tells, PutTwo}
use Rattle.quick.proofs.ByHint.{tells}
use Rattle.quick.proofs.Checks.{stored, stored-ram, clear-sized, known}
use Rattle.quick.proofs.OneStore.{made, kept}
use Rattle.quick.proofs.store.pages.Goals as goal

pub returns-then-store : goal.returns-then-store
returns-then-store g c =
    let done =
    subst (λ (x : Width). PutTwo c.args.core.now c.args.base c.args.ram.now c.args.va (bytes_in x) c.args.value true c.store.new.ram)
    c.WIDTH.ensures (made _ _ _ _ _ _ _ _ c.if-store.true c.store.ensures) in
    let long : length c.args.ram.now < 2 ^ 64 = omega arith in
    let sized = known g.W.Datum.WIDTH in
    let passed = clear-sized c.args.core.now c.args.base c.args.ram.now g.W.Datum.WIDTH done.0 long done.1 in
    record {
      tells = stored _ _ _ _ _ _ sized passed _ _ _ _ _ (tells _ _ _ Done _ _ _ _ (ap after_store done.2) done.3 refl refl refl);
      ram = stored-ram _ _ _ _ _ _ sized passed _ _ done.4;
    }

pub returns-else-ram-base : goal.returns-else-ram-base
returns-else-ram-base g c =
    let same : c.store.new.ram ≡ c.args.ram.now = kept _ _ _ _ _ _ _ _ c.if-store.false c.store.ensures in
    let low : c.args.core.now.privilege.level < 4 = omega (arith, c.if-core-gt3.false) in
    let long : length c.args.ram.now < 2 ^ 64 = omega arith in
    let fits : c.args.base ≤ 2 ^ 64 - 1 - length c.args.ram.now = omega (arith, c.if-ram-base.false, ap length same) in
    let sized = known g.W.Datum.WIDTH in
    let passed = clear-sized c.args.core.now c.args.base c.args.ram.now g.W.Datum.WIDTH low long fits in
    let told : List ℕ → Width → Type 0 = λ r x. Tells (after_store (write_of c.args.core.now c.args.base r c.args.va (bytes_in x)))
    (write_work c.args.core.now c.args.base r c.args.va (bytes_in x) no_work) c.args.ans.now c.own.result c.own.new.ans c.own.new.core in
    let after : List ℕ → Width → Type 0 = λ r x. c.own.new.ram ≡ ram_after_write c.args.core.now c.args.base r c.args.va (bytes_in x) c.args.value in
    record {
      tells = stored _ _ _ _ _ _ sized passed _ _ _ _ _ (subst (λ (r : List ℕ). told r g.W.Datum.WIDTH) same (subst (told c.store.new.ram) c.WIDTH-else-ram-base.ensures c.own.ensures.tells));
      ram = stored-ram _ _ _ _ _ _ sized passed _ _ (subst (λ (r : List ℕ). after r g.W.Datum.WIDTH) same (subst (after c.store.new.ram) c.WIDTH-else-ram-base.ensures c.own.ensures.ram));
    }
