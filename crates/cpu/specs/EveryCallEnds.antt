-- Every call ends: a number and nothing changed, or its value, its fault, Undefined or Unimplemented.
use Rattle.std.specs.Prelude.{◌≡◌, ℕ, suc, ◌≤◌, Bool, true, false, List, length}
use Rattle.system.specs.declared.decode.SysOp.{SysOp}
use Rattle.cpu.specs.Says.{Said, value, done, fault, faults, undefined, unimplemented, stop_says}
use Rattle.cpu.specs.declared.Core.{Core}
use Rattle.cpu.specs.declared.{call.Call.Call, call.Reply.Reply}
use Rattle.cpu.specs.System.{op_of}
use Rattle.cpu.specs.declared.call.Call.TheVariants.{Load as LoadCall, Store as StoreCall, Fetch, System}
use Rattle.cpu.specs.declared.call.Reply.TheVariants.{Refused, Done, Value, Faults, Fault, Stopped}
use Rattle.cpu.specs.Step.{step_of}

-- a reply as the number of a check, or what it says: a value, a fault's address and status, done, Undefined, Unimplemented
pub data Outcome : Type 0 where
  number : ℕ → Outcome
  says : Said → Outcome

abbrev pub outcome_of : Reply → Outcome
outcome_of (Refused n) = number n
outcome_of Done = says done
outcome_of (Value v) = says (value v)
outcome_of Faults = says faults
outcome_of (Fault va f) = says (fault va f.fsc)
outcome_of (Stopped s) = says (stop_says s)

-- RAM after a store or a zeroing: as many bytes, whether it is done or stops at a fault
pub data Wrote (ram : List ℕ) : List ℕ → Said → Type 0 where
  did : (after : List ℕ) → length after ≡ length ram → Wrote ram after done
  faulted : (after : List ℕ) (address status : ℕ) → length after ≡ length ram → Wrote ram after (fault address status)

-- how a call that misses no check ends: Undefined and Unimplemented change nothing, a value changes no byte
pub data Ran (c : Core) (ram : List ℕ) : Core → List ℕ → Outcome → Type 0 where
  is-undefined : Ran c ram c ram (says undefined)
  is-unimplemented : Ran c ram c ram (says unimplemented)
  valued : (d : Core) (v : ℕ) → Ran c ram d ram (says (value v))
  unreached : (d : Core) → Ran c ram d ram (says faults)
  stopped : (d : Core) (address status : ℕ) → Ran c ram d ram (says (fault address status))
  wrote-ram : (d : Core) (after : List ℕ) (s : Said) → Wrote ram after s → Ran c ram d after (says s)

-- THE CLAIM

-- each call ends as one of them, by the number of the first check that it misses; 0 where it misses none
pub data Ended (c : Core) (ram : List ℕ) : ℕ → Core → List ℕ → Outcome → Type 0 where
  is-refused : (n : ℕ) → suc n ≤ 7 → Ended c ram (suc n) c ram (number (suc n))
  has-run : (d : Core) (after : List ℕ) (o : Outcome) → Ran c ram d after o → Ended c ram 0 d after o

-- stores and zeroing may write; translations, loads, fetches, AT, TLBI, register writes, settings, abort entry, the census, the windows and a flip change no byte
abbrev pub zeroes : SysOp → Bool
zeroes SysOp.Zva = true
zeroes _ = false

abbrev pub writes : Core → Call → Bool
writes c (StoreCall va size v) = true
writes c (System f) = zeroes (op_of c f.op1 f.crn f.crm f.op2)
writes c _ = false

-- Which calls set the two physical addresses that a core keeps: `last_pa` a load alone; `abort_pa` what may write RAM, a load and a fetch.
abbrev pub loads : Call → Bool
loads (LoadCall va size) = true
loads _ = false

abbrev pub goes_to_memory : Core → Call → Bool
goes_to_memory c (LoadCall va size) = true
goes_to_memory c (Fetch va) = true
goes_to_memory c call = writes c call

abbrev pub OnlyLoadCallsSetLast : Type 0
OnlyLoadCallsSetLast =
    (c : Core) (base : ℕ) (ram : List ℕ) (call : Call) → loads call ≡ false → (step_of c base ram call).core.last_pa ≡ c.last_pa

abbrev pub OtherCallsKeepAbort : Type 0
OtherCallsKeepAbort =
    (c : Core) (base : ℕ) (ram : List ℕ) (call : Call) → goes_to_memory c call ≡ false → (step_of c base ram call).core.abort_pa ≡ c.abort_pa
