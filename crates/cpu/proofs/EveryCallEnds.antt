-- Every call ends as one of its ways.
use Rattle.std.specs.Prelude.{if◌then◌else◌, ◌≡◌, ℕ, zero, suc, ◌+◌, ◌≤◌, Bool, true, false, List, [], ◌∷◌}
use Rattle.std.specs.Prelude.{slice_index}
use Rattle.std.proofs.Math.Path.{refl}
use Rattle.std.proofs.Common.{arith, rules, le-ltb, ltb}
use Rattle.std.proofs.lemmas.List.{get_or-set_same}
use Rattle.word.specs.Bits.{wrap}
use Rattle.sysreg.specs.Write.{write_reg}
use Rattle.tlb.proofs.Cells.{replicate-at}
use Rattle.cpu.specs.Core.{reg_of, fresh_core, set_reg, after_access}
use Rattle.cpu.specs.Bytes.{StoreAnswer, load_end, load_of, store_end, fetch_end, insn_of}
use Rattle.cpu.specs.Says.{store_says}
use Rattle.cpu.proofs.OpLaws.{ram-length, store-last}
use Rattle.cpu.specs.Memory.{translate_of, read_of, write_of, ram_after_write, fetch_of, fetch_pa_of, data_pa_of}
use Rattle.cpu.specs.Memory.{translate_access_of}
use Rattle.cpu.specs.Says.{store}
use Rattle.cpu.specs.declared.Core.{Core}
use Rattle.cpu.specs.declared.{call.Call.Call}
use Rattle.cpu.specs.System.{after_register_write, zero_of, zero_ram, sys_of, sys_ram}
use Rattle.cpu.specs.System.{applied_of, with_regs, set_level, set_mark, abort_of, with_par, at_of, tlbi_core}
use Rattle.cpu.specs.Check.{Row, checks_of, missed_of, kept, loading, storing, fetching, registering}
use Rattle.cpu.specs.Step.{missed_by, run_of, ram_of, ram_after, ends, step_of, looks}
use Rattle.cpu.specs.EveryCallEnds.{did, faulted, is-undefined, is-unimplemented, valued, unreached, stopped, wrote-ram, Ran, Wrote, outcome_of}
use Rattle.cpu.specs.EveryCallEnds.{writes, Ended, is-refused, has-run, OnlyLoadCallsSetLast, OtherCallsKeepAbort}
use Rattle.cpu.specs.declared.call.Reply.TheVariants.{Refused}
use Rattle.cpu.specs.Bare.{zeros}
use Rattle.cpu.specs.Kept.{ReadsWhatIsWritten, OthersStay, LastIsWritten, ReadsZero, DropsWrites, NothingElse, RegisterRows, NeighbourRows}
use Rattle.cpu.specs.Kept.{OnlyLoadsSetLast, TranslationsKeepAbort}

-- A REFUSED CALL

-- and a call with one is the identity on core and RAM
pub number-le : (c : Core) (base : ℕ) (ram : List ℕ) (call : Call) → missed_by c base ram call ≤ 7
unfolding missed_of
number-le c base ram call = grind arith

-- EVERY OTHER CALL

-- where a call misses no check, no row's condition holds
abbrev pub Passed : List Row → Type 0
Passed [] = Unit {0}
Passed (row ∷ rows) = (row.0 ≡ false) × Passed rows

pub all-passed : (level base len : ℕ) (call : Call) → missed_of level base len call ≡ 0 → Passed (checks_of level base len call)
unfolding missed_of
all-passed level base len call = grind arith

-- stores, and the stores of a zeroing
store_wrote : (c : Core) (base : ℕ) (ram : List ℕ) (va n v : ℕ)
    → Wrote ram (ram_after_write c base ram va n v) (store_says (write_of c base ram va n).answer)
unfolding write_of store_end
store_wrote c base ram va n v = search (rules, did, faulted, ram-length c base ram (store va n v))

wrote-then : (c : Core) (base : ℕ) (ram : List ℕ) (va n : ℕ) → Wrote ram (ram_after_write c base ram va 8 0) (store_says (write_of c base ram va 8).answer)
    → Wrote (ram_after_write c base ram va 8 0) (zero_ram n (write_of c base ram va 8).core base (ram_after_write c base ram va 8 0) (wrap (va + 8)))
    (store_says (zero_of n (write_of c base ram va 8).core base (ram_after_write c base ram va 8 0) (wrap (va + 8))).answer)
    → Wrote ram (zero_ram (suc n) c base ram va) (store_says (zero_of (suc n) c base ram va).answer)
unfolding zero_of zero_ram
wrote-then c base ram va n = search (rules, did, faulted, ram-length)

zero-wrote : (n : ℕ) (c : Core) (base : ℕ) (ram : List ℕ) (va : ℕ) → Wrote ram (zero_ram n c base ram va) (store_says (zero_of n c base ram va).answer)
unfolding zero_of zero_ram
zero-wrote zero c base ram va = did ram refl
zero-wrote (suc n) c base ram va =
    wrote-then c base ram va n (store_wrote c base ram va 8 0)
    (zero-wrote n (write_of c base ram va 8).core base (ram_after_write c base ram va 8 0) (wrap (va + 8)))

module _ (c : Core) (base : ℕ) (ram : List ℕ) where
  loaded : (va n : ℕ) → Ran c ram (read_of c base ram va n).core ram (outcome_of (loading (read_of c base ram va n).answer))
  unfolding read_of load_end load_of
  loaded va n = search (rules, valued, stopped)

  stored : (d : Core) (a : StoreAnswer) (after : List ℕ) → Wrote ram after (store_says a) → Ran c ram d after (outcome_of (storing a))
  stored d a after w = search (rules, wrote-ram)

  fetched : (va : ℕ) → Ran c ram (fetch_of c base ram va).core ram (outcome_of (fetching (fetch_of c base ram va).answer))
  unfolding fetch_of fetch_end insn_of
  fetched va = search (rules, valued, stopped)

  registers : (key v : ℕ) → kept key ≡ true
      → Ran c ram (after_register_write c key v).core ram (outcome_of (registering (after_register_write c key v).answer))
  unfolding after_register_write write_reg
  registers key v named = search (rules, is-undefined, wrote-ram, did)

  -- a call that misses no check ends in a value, a fault, Undefined or Unimplemented, or is done
  pub ran : (call : Call) → missed_by c base ram call ≡ 0
      → Ran c ram (run_of c base ram call).core (ram_of c base ram call) (outcome_of (run_of c base ram call).reply)
  unfolding run_of ram_of sys_of sys_ram missed_of
  ran call e =
      grind (
        arith,
        valued,
        stopped,
        unreached,
        is-undefined,
        is-unimplemented,
        wrote-ram,
        did,
        loaded,
        fetched,
        stored,
        store_wrote,
        zero-wrote,
        registers,
      )

module _ (c : Core) (base : ℕ) (ram : List ℕ) where
  pub quiet : (call : Call) → writes c call ≡ false → ram_after c base ram call ≡ ram
  unfolding ram_after ram_of sys_ram
  quiet call h = grind arith

-- A call that misses a check is refused by that number, and nothing changes; every call ends.
module _ (c : Core) (base : ℕ) (ram : List ℕ) (call : Call) (n : ℕ) (e : missed_by c base ram call ≡ suc n) where
  pub refused : step_of c base ram call ≡ ends c (Refused (suc n))
  unfolding step_of
  refused = rw e

  pub refused-ram : ram_after c base ram call ≡ ram
  unfolding ram_after
  refused-ram = rw e

pub each_call_ends : (c : Core) (base : ℕ) (ram : List ℕ) (call : Call)
    → Ended c ram (missed_by c base ram call) (step_of c base ram call).core (ram_after c base ram call) (outcome_of (step_of c base ram call).reply)
unfolding step_of ram_after
each_call_ends c base ram call = search (rules, has-run, is-refused, number-le c base ram call, ran c base ram call)

-- A call that only looks moves nothing: neither cache and counters nor anything else of the core, nor RAM.
module _ (c : Core) (base : ℕ) (ram : List ℕ) where
  pub looking-core : (call : Call) → looks call ≡ true → (step_of c base ram call).core ≡ c
  unfolding step_of run_of
  looking-core call h = grind arith

  pub looking-ram : (call : Call) → looks call ≡ true → ram_after c base ram call ≡ ram
  unfolding ram_after ram_of
  looking-ram call h = grind arith

-- What the core keeps: general registers, `last_pa` and `abort_pa`.
pub reads-what-is-written : ReadsWhatIsWritten
unfolding reg_of set_reg
reads-what-is-written c n v l h = grind (arith, get_or-set_same)

pub others-stay : OthersStay
unfolding reg_of set_reg
others-stay c n m v h = search rules

pub last-is-written : LastIsWritten
unfolding reg_of set_reg
last-is-written c v l = grind (arith, get_or-set_same)

pub reads-zero : ReadsZero
unfolding reg_of
reads-zero c n h = grind arith

pub drops-writes : DropsWrites
unfolding set_reg
drops-writes c n v h = rw (le-ltb n 31 h) refl

pub nothing-else : NothingElse
unfolding set_reg
nothing-else c n v = search rules

pub register-rows : RegisterRows
unfolding reg_of set_reg fresh_core zeros
register-rows = refl

pub neighbour-rows : NeighbourRows
unfolding reg_of set_reg fresh_core zeros
neighbour-rows = refl

pub fresh-general : (n : ℕ) → reg_of fresh_core n ≡ 0
unfolding reg_of fresh_core zeros
fresh-general n = go (ltb n 31)
  where
    go : (a : Bool) → (if a then slice_index zeros n else 0) ≡ 0
    go true = replicate-at 0 31 n
    go false = refl

-- OPERATIONS

pub only-loads-set-last : OnlyLoadsSetLast
unfolding translate_of translate_access_of write_of fetch_of fetch_pa_of data_pa_of after_access
only-loads-set-last c base ram q h = grind arith

pub translations-keep-abort : TranslationsKeepAbort
unfolding translate_of translate_access_of fetch_pa_of data_pa_of after_access
translations-keep-abort c base ram q h = grind arith

-- Which calls set `last_pa` and `abort_pa`.
pub only-load-calls-set-last : OnlyLoadCallsSetLast
unfolding step_of run_of translate_of fetch_of fetch_pa_of data_pa_of after_access sys_of set_level set_mark set_reg abort_of at_of with_par tlbi_core after_register_write applied_of with_regs zero_of
only-load-calls-set-last c base ram call h = grind (arith, store-last)

pub other-calls-keep-abort : OtherCallsKeepAbort
unfolding step_of run_of translate_of fetch_pa_of data_pa_of after_access sys_of set_level set_mark set_reg abort_of at_of with_par tlbi_core after_register_write applied_of with_regs
other-calls-keep-abort c base ram call h = grind arith
