use Rattle.std.proofs.Common.{rules}
use Rattle.quick.proofs.Both.{part-shift, some, made, unmade, both-wrote, both-unwritten}
use Rattle.quick.proofs.at_once.write_both.Goals as goal

pub overflow_mul-rest : goal.overflow_mul-rest
overflow_mul-rest c = search (part-shift, rules)

pub overflow_shr-rest : goal.overflow_shr-rest
overflow_shr-rest c = search (part-shift, rules)

pub overflow_mul-rest-then-both_inside : goal.overflow_mul-rest-then-both_inside
overflow_mul-rest-then-both_inside c = search (part-shift, rules)

pub overflow_shr-rest-then-both_inside : goal.overflow_shr-rest-then-both_inside
overflow_shr-rest-then-both_inside c = search (part-shift, rules)

pub overflow_sub-n : goal.overflow_sub-n
overflow_sub-n c = search (some, rules)

pub returns-then-both_inside : goal.returns-then-both_inside
returns-then-both_inside c = search (made, both-wrote, rules)

pub returns-else-both_inside : goal.returns-else-both_inside
returns-else-both_inside c = search (unmade, both-unwritten, rules)
