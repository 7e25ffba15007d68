-- Faithfulness of the real walk and registers, for every list of events.
use Rattle.std.proofs.Common.{arith}
use Rattle.history.specs.History.{EveryHistoryFaithful}
use Rattle.history.specs.Instance.{real, fresh_plain}
use Rattle.history.proofs.Instance.{real-laws, fresh-asid}
use Rattle.history.proofs.Theorem.{every_history_faithful}

pub every-history : EveryHistoryFaithful real fresh_plain
every-history = every_history_faithful real real-laws fresh_plain fresh-asid (omega arith)
