use Rattle.std.specs.Prelude.{refl}
use Rattle.word.specs.Ram.{word_at, little_endian, bytes_of}
use Rattle.walk.specs.Regime.{pa_size}
use Rattle.walk.specs.Table.{range_of, params_of, table_next, leaf_permissions, leaf_translation, leaf_result, level_next, descaddr, lookup_next}
use Rattle.walk.specs.Table.{walk_from, walk_range, table_walk}
use Rattle.walk.specs.Walk.{walk_of, fetches_of, fetches_range, fetches_from}
use Rattle.call_words.specs.Ops.{data_abort_of, call_exception_of, exception_of, translate_call, flip_call, call_of}
use Rattle.call_words.specs.Replies.{words_by}
use Rattle.call_words.specs.Walk.{walk_code, walk_words}
use Rattle.call_words.proofs.theorems.codes_of_the_boundary.Goals as goal

pub returns-clause-calls : goal.returns-clause-calls
unfolding call_of translate_call flip_call exception_of call_exception_of data_abort_of
returns-clause-calls _ a b c d e rest = record {
  translate_read = refl;
  translate_write = refl;
  translate_fetch = refl;
  data_pa = refl;
  fetch_pa = refl;
  load = refl;
  store = refl;
  fetch = refl;
  system = refl;
  register = refl;
  last_key = refl;
  long_key = refl;
  level = refl;
  mark_off = refl;
  mark_on = refl;
  general = refl;
  abort = refl;
  census = refl;
  windows = refl;
  flip_read = refl;
  flip_write = refl;
  flip_fetch = refl;
  code_0 = refl;
  code_16 = refl;
  kind_0 = refl;
  kind_3 = refl;
  flip_kind_3 = refl;
  flip_view_2 = refl;
  mark_2 = refl;
  exception_8 = refl;
}

pub returns-clause-exceptions : goal.returns-clause-exceptions
unfolding exception_of call_exception_of data_abort_of
returns-clause-exceptions _ a b c = record {
  undefined = refl;
  svc = refl;
  hvc = refl;
  smc = refl;
  brk = refl;
  load = refl;
  store = refl;
  insn_abort = refl;
  pc_alignment = refl;
  imm_too_long = refl;
  write_2 = refl;
  status_too_long = refl;
  code_8 = refl;
}

pub returns-clause-replies : goal.returns-clause-replies
unfolding words_by
returns-clause-replies _ a reads old = record {
  done = record { by_number = refl; by_value = refl; by_reads = refl; by_words = refl; by_step = refl };
  value = record { by_number = refl; by_value = refl; by_reads = refl; by_words = refl; by_step = refl };
  faults = record { by_number = refl; by_value = refl; by_reads = refl; by_words = refl; by_step = refl };
  refused = record { by_number = refl; by_value = refl; by_reads = refl; by_words = refl; by_step = refl };
  undefined = record { by_number = refl; by_value = refl; by_reads = refl; by_words = refl; by_step = refl };
  unimplemented = record { by_number = refl; by_value = refl; by_reads = refl; by_words = refl; by_step = refl };
  fault = record { by_number = refl; by_value = refl; by_reads = refl; by_words = refl; by_step = refl };
  load = record { by_number = refl; by_value = refl; by_reads = refl; by_words = refl; by_step = refl };
  store = record { by_number = refl; by_value = refl; by_reads = refl; by_words = refl; by_step = refl };
  insn_abort = record { by_number = refl; by_value = refl; by_reads = refl; by_words = refl; by_step = refl };
}

pub returns-clause-walks : goal.returns-clause-walks
unfolding walk_code walk_words walk_of table_walk walk_range walk_from lookup_next level_next leaf_result leaf_translation leaf_permissions table_next descaddr
    range_of params_of pa_size fetches_of fetches_range fetches_from word_at little_endian bytes_of
returns-clause-walks _ words va = record {
  el1 = refl;
  el2 = refl;
  el3 = refl;
  registers = refl;
  leaf = refl;
  block = λ out. refl;
  invalid = refl;
  range = refl;
  faulted = refl;
  unwritten_0 = λ out. refl;
  unwritten_4 = λ out. refl;
  unwritten_past = λ out. refl;
  no_regime_0 = refl;
  no_regime_4 = refl;
  window = refl;
  found = refl;
  fault = refl;
}
