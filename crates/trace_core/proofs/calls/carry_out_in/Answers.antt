-- A call that is refused leaves the four cores as they were.
use Rattle.std.proofs.Common.{rules}
use Rattle.cluster.proofs.Refused.{kept-four}
use Rattle.trace_core.proofs.calls.carry_out_in.Goals as goal

pub returns-else-not-refuses-clause-cores : goal.returns-else-not-refuses-clause-cores
returns-else-not-refuses-clause-cores c =
    kept-four _ c.args.n c.core.result c.in-Ok.place _ c.args.base c.args.ram.now c.args.call c.carry_out-carried.new.core
    c.carry_out-carried.result.reply (search rules) c.core.ensures c.in-Ok.is
    (λ i. record { core = c.carry_out-carried.ensures.core i; reply = c.carry_out-carried.ensures.reply i }) (search rules)
