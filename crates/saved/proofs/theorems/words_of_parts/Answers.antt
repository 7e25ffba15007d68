use Rattle.std.proofs.Common.{refl}
use Rattle.saved.specs.CoreOf.{core_on, core_by, core_of}
use Rattle.saved.specs.WordsOf.{attributes, word_of}
use Rattle.saved.proofs.theorems.words_of_parts.Goals as goal

pub returns-clause-pending_saved : goal.returns-clause-pending_saved
unfolding word_of
returns-clause-pending_saved _ c page asid = record {
  nothing = record { word_75 = refl; word_76 = refl };
  all = record { word_75 = refl; word_76 = refl };
  a_page = record { word_75 = refl; word_76 = refl };
  an_asid = record { word_75 = refl; word_76 = refl };
}

pub returns-clause-pending_restored : goal.returns-clause-pending_restored
unfolding core_of core_by core_on
returns-clause-pending_restored _ words value = record {
  nothing = λ kind is. rw kind refl;
  all = λ kind is. rw kind refl;
  a_page = λ kind is. rw (kind, is) refl;
  an_asid = λ kind is. rw (kind, is) refl;
  no_kind = λ kind is. rw kind refl;
}

pub returns-clause-fetch_saved : goal.returns-clause-fetch_saved
unfolding word_of
returns-clause-fetch_saved _ c page level pa = record {
  one = record { word_81 = refl; word_82 = refl; word_83 = refl; word_84 = refl };
  none = record { word_81 = refl; word_82 = refl; word_83 = refl; word_84 = refl };
}

pub returns-clause-fetch_restored : goal.returns-clause-fetch_restored
unfolding core_of core_by core_on
returns-clause-fetch_restored _ words page pa = record {
  one = λ is at level to. rw (is, at, level, to) refl;
  none = λ is. rw is refl;
  no_other = λ is. rw is refl;
}

pub returns-clause-attributes_saved : goal.returns-clause-attributes_saved
unfolding attributes
returns-clause-attributes_saved _ = record { perms = refl; level = refl; global = refl; asid = refl }

pub returns-clause-attributes_restored : goal.returns-clause-attributes_restored
returns-clause-attributes_restored _ = record { perms = refl; level = refl; global = refl; asid = refl; no_field = refl }

pub returns-clause-level_restored : goal.returns-clause-level_restored
unfolding core_of core_by core_on
returns-clause-level_restored _ words = record { el3 = λ is. rw is refl; last = λ is. rw is refl; past = λ is. rw is refl }
