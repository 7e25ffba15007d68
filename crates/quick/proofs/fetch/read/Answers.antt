use Rattle.std.proofs.Common.{refl, ap}
use Rattle.cpu.specs.Step.{after_fetch}
use Rattle.quick.proofs.ByHint.{tells}
use Rattle.quick.proofs.Fetching.{end-insn, end-outside, end-fault}
use Rattle.quick.proofs.fetch.read.Goals as goal

pub returns-in-Some : goal.returns-in-Some
returns-in-Some c = tells _ _ _ _ _ _ _ _ (ap after_fetch (end-insn _ _ _ _ _ c.in-Ok.pa c.in-Ok.is _ c.insn_at.ensures _ c.in-Some.is)) refl refl refl refl

pub returns-in-None : goal.returns-in-None
returns-in-None c = tells _ _ _ _ _ _ _ _ (ap after_fetch (end-outside _ _ _ _ _ c.in-Ok.pa c.in-Ok.is _ c.insn_at.ensures c.in-None.is)) refl refl refl refl

pub returns-in-Err : goal.returns-in-Err
returns-in-Err c = tells _ _ _ _ _ _ _ _ (ap after_fetch (end-fault _ _ _ _ c.in-Err.fault _ c.in-Err.is)) refl refl refl refl
