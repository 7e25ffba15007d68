use Rattle.std.proofs.Common.{◌/◌, length, arith}
use Rattle.digest.specs.Window.{lane_word}
use Rattle.digest.proofs.Folding.{again, ended}
use Rattle.digest.proofs.Wording.{lane-taken}
use Rattle.digest.proofs.memory.whole_lanes.Goals as goal

pub loop-i-preserved : goal.loop-i-preserved
loop-i-preserved c =
    let ram = c.args.ram.now in
    let n = length ram / 32 in
    let i = c.loop-i.i in record {
      within = omega arith;
      first =
          again (lane_word ram 0) n i c.loop-i.a _ _ (omega arith)
          (lane-taken ram 0 i _ c.loop-i.a _ _ (omega arith) c.word_at-first.ensures c.join-a.ensures) c.loop-i.invariant.first;
      second =
          again (lane_word ram 1) n i c.loop-i.b _ _ (omega arith)
          (lane-taken ram 1 i _ c.loop-i.b _ _ (omega arith) c.word_at-second.ensures c.join-b.ensures) c.loop-i.invariant.second;
      third =
          again (lane_word ram 2) n i c.loop-i.c _ _ (omega arith)
          (lane-taken ram 2 i _ c.loop-i.c _ _ (omega arith) c.word_at-third.ensures c.join-c.ensures) c.loop-i.invariant.third;
      fourth =
          again (lane_word ram 3) n i c.loop-i.d _ _ (omega arith)
          (lane-taken ram 3 i _ c.loop-i.d _ _ (omega arith) c.word_at-fourth.ensures c.join-d.ensures) c.loop-i.invariant.fourth;
    }

pub returns-clause-first : goal.returns-clause-first
returns-clause-first c = ended (lane_word c.args.ram.now 0) (length c.args.ram.now / 32) c.loop-i.i c.loop-i.a _ (omega arith) c.loop-i.invariant.first

pub returns-clause-second : goal.returns-clause-second
returns-clause-second c = ended (lane_word c.args.ram.now 1) (length c.args.ram.now / 32) c.loop-i.i c.loop-i.b _ (omega arith) c.loop-i.invariant.second

pub returns-clause-third : goal.returns-clause-third
returns-clause-third c = ended (lane_word c.args.ram.now 2) (length c.args.ram.now / 32) c.loop-i.i c.loop-i.c _ (omega arith) c.loop-i.invariant.third

pub returns-clause-fourth : goal.returns-clause-fourth
returns-clause-fourth c = ended (lane_word c.args.ram.now 3) (length c.args.ram.now / 32) c.loop-i.i c.loop-i.d _ (omega arith) c.loop-i.invariant.fourth
