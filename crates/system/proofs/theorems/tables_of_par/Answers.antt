use Rattle.sysreg.specs.Regs.{fresh_control}
use Rattle.word.specs.Ram.{word_at, little_endian, bytes_of}
use Rattle.walk.specs.Regime.{untagged, pa_size}
use Rattle.walk.specs.Table.{range_of, params_of, table_next, leaf_permissions, leaf_translation, leaf_result, level_next, descaddr, lookup_next}
use Rattle.walk.specs.Table.{walk_from, walk_range, table_walk}
use Rattle.walk.specs.Walk.{fresh_of, walk_of}
use Rattle.system.specs.Decode.{named, decode_of}
use Rattle.system.specs.Par.{success, abort, leaf_par, par_in, at_par}
use Rattle.system.proofs.theorems.tables_of_par.Goals as goal

pub returns : goal.returns
unfolding decode_of named at_par par_in fresh_of leaf_par success abort walk_of table_walk walk_range walk_from lookup_next level_next leaf_result leaf_translation leaf_permissions table_next descaddr range_of params_of pa_size untagged word_at little_endian bytes_of fresh_control
returns c = assumption
