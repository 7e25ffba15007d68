use Rattle.std.proofs.Common.{refl}
use Rattle.exception.specs.Pstate.{spsr_of}
use Rattle.core_parts.proofs.theorems.parts_as_words.Goals as goal

pub returns-clause-pstate_set : goal.returns-clause-pstate_set
returns-clause-pstate_set _ c = record {
  nzcv = refl;
  d = refl;
  a = refl;
  i = refl;
  f = refl;
  sp = refl;
  others = refl;
  level_stays = λ psr. refl;
}

pub returns-clause-pstate_read : goal.returns-clause-pstate_read
unfolding spsr_of
returns-clause-pstate_read _ c = record { el1h = refl; el2t = refl; at_el3 = refl }

pub returns-clause-pending : goal.returns-clause-pending
returns-clause-pending _ page value = record {
  nothing = refl;
  all = refl;
  a_page = refl;
  an_asid = refl;
  kind_0 = refl;
  kind_1 = refl;
  kind_2 = refl;
  kind_3 = refl;
  kind_4 = refl;
  long_asid = refl;
}

pub returns-clause-entries : goal.returns-clause-entries
returns-clause-entries _ = record {
  words = refl;
  hint = refl;
  fetch_hint = refl;
  no_fetch_hint = refl;
  live = refl;
  dead = refl;
}

pub returns-clause-answers : goal.returns-clause-answers
returns-clause-answers _ value = record {
  register = refl;
  no_register = refl;
  broadcast = refl;
  no_broadcast = refl;
  last_generation = refl;
  past_generation = refl;
}
