use Rattle.word.specs.Ram.{word_at, little_endian, bytes_of}
use Rattle.walk.specs.Regime.{untagged, pa_size}
use Rattle.walk.specs.Table.{range_of, params_of, table_next, leaf_permissions, leaf_translation, leaf_result, level_next, descaddr, lookup_next}
use Rattle.walk.specs.Table.{walk_from, walk_range, table_walk}
use Rattle.walk.specs.Walk.{walk_of}
use Rattle.walk.specs.Cases.{judged, registers, translated, row}
use Rattle.walk.proofs.theorems.worked_translations.Goals as goal

pub returns : goal.returns
unfolding row translated judged registers walk_of table_walk walk_range walk_from lookup_next level_next leaf_result leaf_translation leaf_permissions table_next descaddr range_of params_of pa_size untagged word_at little_endian bytes_of
returns c = assumption
