use Rattle.std.proofs.Common.{arith}
use Rattle.digest.specs.Parts.{hint_words}
use Rattle.digest.specs.Count.{set_at, set_data_hints}
use Rattle.digest.proofs.Folding.{again, ended}
use Rattle.digest.proofs.Counting.{counted-few, counted-on, counted-end}
use Rattle.digest.proofs.parts.data_hints.Goals as goal

pub loop-i-preserved : goal.loop-i-preserved
loop-i-preserved c =
    let at = set_at c.args.tlb.now in
    record {
      within = omega arith;
      rest =
          again (hint_words c.args.tlb.now) 512 c.loop-i.i c.loop-i.s.digest _ _ (omega arith)
          c.with_hint-s.ensures.digest_value c.loop-i.invariant.rest;
      few =
          counted-few at 512 c.loop-i.i c.loop-i.s.count _ (omega arith) (omega arith) c.loop-i.invariant.few c.with_hint-s.ensures.count_value;
      left =
          counted-on at 512 c.loop-i.i c.loop-i.s.count _ (omega arith) (omega arith) c.loop-i.invariant.few c.with_hint-s.ensures.count_value
          _ c.loop-i.invariant.left;
    }

pub returns-clause-digest_value : goal.returns-clause-digest_value
returns-clause-digest_value c =
    ended (hint_words c.args.tlb.now) 512 c.loop-i.i c.loop-i.s.digest _ (omega arith) c.loop-i.invariant.rest

pub returns-clause-count_value : goal.returns-clause-count_value
returns-clause-count_value c =
    counted-end (set_at c.args.tlb.now) 512 c.loop-i.i c.loop-i.s.count (set_data_hints c.args.tlb.now)
    (omega arith) c.loop-i.invariant.left

pub returns-clause-upper_bound : goal.returns-clause-upper_bound
returns-clause-upper_bound c = let few = c.loop-i.invariant.few in omega arith
