use Rattle.std.specs.Prelude.{refl}
use Rattle.word.specs.Ram.{word_at, little_endian, bytes_of, stored}
use Rattle.sysreg.specs.Encoding.{register_at}
use Rattle.sysreg.specs.Regs.{fresh_sys}
use Rattle.walk.specs.Regime.{untagged, pa_size}
use Rattle.walk.specs.Table.{range_of, params_of, table_next, leaf_permissions, leaf_translation, leaf_result, level_next, descaddr, lookup_next}
use Rattle.walk.specs.Table.{walk_from, walk_range, table_walk}
use Rattle.walk.specs.Walk.{walk_of, fresh_of, fetches_of, fresh_reads, fetches_range, fetches_from}
use Rattle.tlb.specs.Access.{judged}
use Rattle.tlb.specs.Tlb.{blanks, no_hints, no_tallies, get_of, put_of, place_of}
use Rattle.tlb.specs.Translate.{walked_in, miss_in, needs_walk}
use Rattle.exception.specs.Entry.{entered_sys, enter_of, take_sync}
use Rattle.exception.specs.Pstate.{spsr_of}
use Rattle.exception.specs.Route.{routed_to}
use Rattle.exception.specs.Syndrome.{syndrome_of}
use Rattle.system.specs.Decode.{named, decode_of}
use Rattle.system.specs.Par.{success, abort, leaf_par, par_in, at_par}
use Rattle.cpu.specs.Bytes.{load_end, load_of, verdict_of, first_outside, store_end, store_ram_end, store_ram}
use Rattle.cpu.specs.Cases.{at, off, deep, ProvedCases, FlatCases, CrossingCases, CrossingRam, ReadCases, WorkedReads, ReadsOfCalls}
use Rattle.cpu.specs.Check.{missed_of}
use Rattle.cpu.specs.Core.{reg_of, after_access}
use Rattle.cpu.specs.Memory.{translate_in, stepped_now, translate_of, located_of, located_now, read_of, write_of, ram_after_write}
use Rattle.cpu.specs.Step.{run_of, step_of, ram_of, ram_after}
use Rattle.cpu.specs.System.{sys_of, abort_of, with_par, at_of, set_mark}
use Rattle.cpu.specs.Work.{step_work, run_work, translate_work, fetch_work, access_work, zero_work, sys_work, at_work}
use Rattle.cpu.proofs.theorems.proved_cases.Goals as goal

worked : ProvedCases × FlatCases × CrossingCases × CrossingRam × ReadCases × WorkedReads × ReadsOfCalls
unfolding at off deep step_of run_of ram_after ram_of missed_of step_work run_work translate_work fetch_work access_work zero_work sys_work at_work translate_of
    stepped_now translate_in read_of write_of ram_after_write located_now located_of load_end load_of store_end store_ram_end store_ram stored verdict_of
    first_outside sys_of at_of with_par abort_of set_mark reg_of after_access fresh_sys register_at take_sync enter_of entered_sys spsr_of routed_to
    syndrome_of named decode_of success abort leaf_par par_in fresh_of at_par judged blanks no_hints no_tallies place_of get_of put_of miss_in walked_in
    walk_of table_walk walk_range walk_from lookup_next level_next table_next leaf_result leaf_translation leaf_permissions descaddr range_of params_of
    pa_size untagged fetches_of fetches_range fetches_from fresh_reads needs_walk word_at little_endian bytes_of
worked = ((refl, refl), refl, refl, refl, (refl, refl), refl, refl)

pub returns : goal.returns
returns c = assumption worked
