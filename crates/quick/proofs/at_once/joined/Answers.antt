use Rattle.std.proofs.Common.{rules}
use Rattle.cpu.proofs.BytesLaws.{sum-starts, sum-none, sum-mul, sum-add, sum-on, sum-next}
use Rattle.quick.proofs.at_once.joined.Goals as goal

pub loop-i-init : goal.loop-i-init
loop-i-init c = search (sum-starts, sum-none, rules)

pub overflow_mul-v : goal.overflow_mul-v
overflow_mul-v c = search (sum-mul, rules)

pub overflow_add-v : goal.overflow_add-v
overflow_add-v c = search (sum-add, rules)

pub loop-i-preserved : goal.loop-i-preserved
loop-i-preserved c = search (sum-on, sum-next, rules)
