use Rattle.std.proofs.Common.{arith}
use Rattle.digest.specs.Parts.{entry_words}
use Rattle.digest.specs.Count.{live_at, live_entries}
use Rattle.digest.proofs.Folding.{again, ended}
use Rattle.digest.proofs.Counting.{counted-few, counted-on, counted-end}
use Rattle.digest.proofs.parts.entries.Goals as goal

pub loop-j-preserved : goal.loop-j-preserved
loop-j-preserved c =
    let at = live_at c.args.core.now.tlb in
    record {
      within = omega arith;
      rest =
          again (entry_words c.args.core.now.tlb) 1024 c.loop-j.j c.loop-j.s.digest _ _ (omega arith)
          c.with_live-s.ensures.digest_value c.loop-j.invariant.rest;
      few =
          counted-few at 1024 c.loop-j.j c.loop-j.s.count _ (omega arith) (omega arith) c.loop-j.invariant.few c.with_live-s.ensures.count_value;
      left =
          counted-on at 1024 c.loop-j.j c.loop-j.s.count _ (omega arith) (omega arith) c.loop-j.invariant.few c.with_live-s.ensures.count_value
          _ c.loop-j.invariant.left;
    }

pub returns-clause-digest_value : goal.returns-clause-digest_value
returns-clause-digest_value c =
    ended (entry_words c.args.core.now.tlb) 1024 c.loop-j.j c.loop-j.s.digest _ (omega arith) c.loop-j.invariant.rest

pub returns-clause-count_value : goal.returns-clause-count_value
returns-clause-count_value c =
    counted-end (live_at c.args.core.now.tlb) 1024 c.loop-j.j c.loop-j.s.count (live_entries c.args.core.now.tlb)
    (omega arith) c.loop-j.invariant.left
