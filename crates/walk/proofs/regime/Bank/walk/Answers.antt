use native.Mathlib.Omega.{arith}
use Rattle.word.specs.Ram.{word_at}
use Rattle.walk.proofs.Loop.{begins-standing, walk_begun, reads_begun, stands, goes_on, reads-on}
use Rattle.walk.proofs.regime.Bank.walk.Goals as goal

pub levels-init : goal.levels-init
levels-init c =
    let g = c.range-g.ensures in
    let p = c.params-p.ensures.value in
    let memory = word_at c.args.base c.args.ram.now 8 in (
      begins-standing c.args.self.now c.args.regime c.args.va _ _ _ _ g p c.begin.ensures c.in-Ok.is,
      walk_begun c.args.self.now c.args.regime c.args.va memory _ _ _ g p c.begin.ensures _ c.in-Ok.is,
      omega (arith, reads_begun c.args.self.now c.args.regime c.args.va memory _ _ _ g p c.begin.ensures _ c.in-Ok.is),
    )

pub levels-preserved : goal.levels-preserved
levels-preserved c =
    let memory = word_at c.args.base c.args.ram.now 8 in
    let s = c.lookup.ensures in
    let rest = reads-on memory c.params-p.result c.levels.w c.args.va _ s.result_value s.leads _ c.in-Next.is c.levels.invariant.0 in (
      stands memory c.params-p.result c.levels.w c.args.va _ s.result_value s.leads _ c.in-Next.is,
      goes_on memory c.params-p.result c.levels.w c.args.va _ s.result_value s.leads _ _ c.in-Next.is c.levels.invariant.1,
      omega (arith, rest, c.levels.invariant.2),
    )
