use Rattle.std.specs.Prelude.{refl}
use Rattle.word.specs.Ram.{word_at, little_endian, bytes_of}
use Rattle.walk.specs.Regime.{untagged, pa_size}
use Rattle.walk.specs.Table.{range_of, params_of, table_next, leaf_permissions, leaf_translation, leaf_result, level_next, descaddr, lookup_next}
use Rattle.walk.specs.Walk.{fetches_from, fetches_range, fetches_of}
use Rattle.walk.specs.Cases.{descriptors, registers}
use Rattle.std.proofs.Common.{arith}
use Rattle.walk.proofs.Order.{ends-walk, leads, leaf-counts}
use Rattle.walk.proofs.theorems.counts_of_walks.Goals as goal

pub returns-clause-by_level : goal.returns-clause-by_level
returns-clause-by_level c = λ s r va memory l h x e. (ends-walk s r va memory l x h e).1

pub returns-clause-outside : goal.returns-clause-outside
unfolding lookup_next
returns-clause-outside c = λ s r va memory l h e. let w = leads s r va memory l h in grind arith

pub returns-clause-by_leaf : goal.returns-clause-by_leaf
returns-clause-by_leaf c = leaf-counts

pub returns-clause-worked : goal.returns-clause-worked
unfolding descriptors registers fetches_of fetches_range fetches_from lookup_next level_next leaf_result leaf_translation leaf_permissions table_next descaddr range_of params_of pa_size untagged word_at little_endian bytes_of
returns-clause-worked c = refl
