use Rattle.std.proofs.Common.{arith, rules, ne_eqb, ⊎_elim}
use Rattle.walk.specs.Walk.{fresh_of}
use Rattle.walk.proofs.WalkBounds.{flat-is, status-small}
use Rattle.census.proofs.Laws.{count_at, many-same, many-none, many-either, sound-at, fresh-possible, shift-eqb, among_same}
use Rattle.census.proofs.theorems.empty_places.Goals as goal

pub returns-clause-no_other_status : goal.returns-clause-no_other_status
returns-clause-no_other_status c = λ s r memory first pages status h never. grind (arith, count_at, many-none, sound-at, ne_eqb, ⊎_elim)

pub returns-clause-no_other_rights : goal.returns-clause-no_other_rights
returns-clause-no_other_rights c = λ s r memory first pages perms small h.
    search (rules, count_at, many-none, sound-at, fresh-possible, status-small, ne_eqb, shift-eqb, among_same)

pub returns-clause-off_two_places : goal.returns-clause-off_two_places
unfolding fresh_of
returns-clause-off_two_places c = λ s r memory first pages off. grind (arith, count_at, many-either)

pub returns-clause-off_flat : goal.returns-clause-off_flat
unfolding fresh_of
returns-clause-off_flat c = λ s r memory first pages off. grind (arith, count_at, many-same, flat-is)
