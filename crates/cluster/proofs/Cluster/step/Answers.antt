-- A call that is refused leaves the cores as they were; and what the core in its place replies is faithful.
use Rattle.std.proofs.Common.{rules}
use Rattle.cluster.proofs.Faithful.{faithful-made}
use Rattle.cluster.proofs.Refused.{kept-four}
use Rattle.cluster.proofs.Cluster.step.Goals as goal

pub returns-else-not-refuses-clause-cores : goal.returns-else-not-refuses-clause-cores
returns-else-not-refuses-clause-cores c =
    kept-four _ c.args.n c.core.result c.in-Ok.i _ c.args.base c.args.ram.now c.args.call c.step-reply.new.self c.step-reply.result (search rules)
    c.core.ensures c.in-Ok.is c.step-reply.ensures.core (search rules)

pub returns-then-not-refuses-clause-faithful : goal.returns-then-not-refuses-clause-faithful
returns-then-not-refuses-clause-faithful c =
    faithful-made c.args.self.now.cores c.args.n c.core.result c.in-Ok.i _ c.args.base c.args.ram.now c.args.call c.step-reply.new.self
    c.step-reply.result c.step-reply.new.ram (search rules) c.core.ensures c.in-Ok.is c.step-reply.ensures.core c.step-reply.ensures.ram

pub returns-else-not-refuses-clause-faithful : goal.returns-else-not-refuses-clause-faithful
returns-else-not-refuses-clause-faithful c =
    faithful-made c.args.self.now.cores c.args.n c.core.result c.in-Ok.i _ c.args.base c.args.ram.now c.args.call c.step-reply.new.self
    c.step-reply.result c.step-reply.new.ram (search rules) c.core.ensures c.in-Ok.is c.step-reply.ensures.core c.step-reply.ensures.ram
