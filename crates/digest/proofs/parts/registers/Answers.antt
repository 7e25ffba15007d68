use Rattle.std.proofs.Common.{arith}
use Rattle.digest.specs.Parts.{core_word}
use Rattle.digest.proofs.Folding.{again, ended}
use Rattle.digest.proofs.Wording.{taken}
use Rattle.digest.proofs.parts.registers.Goals as goal

pub loop-i-preserved : goal.loop-i-preserved
loop-i-preserved c = record {
  within = omega arith;
  rest = again (core_word c.args.core.now) 68 c.loop-i.i c.loop-i.h _ _ (omega arith) (taken _ _ _ _ c.join-h.ensures c.word.ensures) c.loop-i.invariant.rest;
}

pub returns : goal.returns
returns c = ended (core_word c.args.core.now) 68 c.loop-i.i c.loop-i.h _ (omega arith) c.loop-i.invariant.rest
