use Rattle.std.proofs.Common.{arith}
use Rattle.digest.specs.Count.{some_at, counts_found}
use Rattle.digest.proofs.Counting.{counted-few, counted-on, counted-end}
use Rattle.digest.proofs.counts.found.Goals as goal

pub loop-i-preserved : goal.loop-i-preserved
loop-i-preserved c =
    let some = some_at c.args.counts.now in
    record {
      within = omega arith;
      few = counted-few some 129 c.loop-i.i c.loop-i.n _ (omega arith) (omega arith) c.loop-i.invariant.few c.with_one-n.ensures;
      rest =
          counted-on some 129 c.loop-i.i c.loop-i.n _ (omega arith) (omega arith) c.loop-i.invariant.few c.with_one-n.ensures _ c.loop-i.invariant.rest;
    }

pub returns : goal.returns
returns c =
    counted-end (some_at c.args.counts.now) 129 c.loop-i.i c.loop-i.n (counts_found c.args.counts.now) (omega arith) c.loop-i.invariant.rest
