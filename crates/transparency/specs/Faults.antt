-- Each fault that a call replies is a row of docs/SCOPE.md's table, with the address translated, or for 0x10 that of a
-- byte of the access.
use Rattle.std.specs.Prelude.{◌≡◌, ◌⊎◌, ℕ, ◌+◌, ◌<◌, Ok, Err}
use mathlib.Core.List.{List, Memᴰ}
use Rattle.word.specs.Bits.{wrap}
use Rattle.fault.specs.First.{first}
use Rattle.fault.specs.declared.Fault.{Fault}
use Rattle.tlb.specs.Asks.{address_of, Given}
use Rattle.exception.specs.declared.kind.Exception.TheVariants as Exception
use Rattle.exception.specs.declared.kind.Stop.TheVariants as Stop
use Rattle.cpu.specs.Core.{fresh_core}
use Rattle.cpu.specs.declared.{call.Call.Call, call.Reply.Reply}
use Rattle.cpu.specs.Step.{step_of}
use Rattle.history.specs.Calls.{Fed, lent_of, Shown}
use Rattle.history.specs.Instance.{Ram, real}
use Rattle.history.specs.Judgement.{Row}
use Rattle.transparency.specs.Machine.{machine}
use Rattle.transparency.specs.Beside.{core_after}
use Rattle.transparency.specs.Faithful.{answers_after}

-- REPLIES

-- The reply is this fault at this address. Every kind of reply has its line, so that a new one has to say which it is.
abbrev pub RepliesFault : Reply → ℕ → Fault → Type 0
RepliesFault (Reply.Fault a f) addr fault = (a ≡ addr) × (f ≡ fault)
RepliesFault (Reply.Stopped (Stop.Exception (Exception.DataAbort a))) addr fault = (a.addr ≡ addr) × (a.fault ≡ fault)
RepliesFault (Reply.Stopped (Stop.Exception (Exception.InsnAbort a))) addr fault = (a.addr ≡ addr) × (a.fault ≡ fault)
RepliesFault (Reply.Refused n) addr fault = ⊥
RepliesFault Reply.Done addr fault = ⊥
RepliesFault (Reply.Value v) addr fault = ⊥
RepliesFault Reply.Faults addr fault = ⊥
RepliesFault (Reply.Stopped Stop.Unimplemented) addr fault = ⊥
RepliesFault (Reply.Stopped (Stop.Exception Exception.Undefined)) addr fault = ⊥
RepliesFault (Reply.Stopped (Stop.Exception (Exception.Svc imm))) addr fault = ⊥
RepliesFault (Reply.Stopped (Stop.Exception (Exception.Hvc imm))) addr fault = ⊥
RepliesFault (Reply.Stopped (Stop.Exception (Exception.Smc imm))) addr fault = ⊥
RepliesFault (Reply.Stopped (Stop.Exception (Exception.Brk imm))) addr fault = ⊥
RepliesFault (Reply.Stopped (Stop.Exception Exception.PcAlignment)) addr fault = ⊥

-- Where it comes from, among the answers to the call's translations: from one that met this fault at this address; or,
-- for an abort, from an access that begins at the address of one that was allowed, with the address of its byte i
-- (which byte: `lowest` of cpu/proofs/BytesLaws.antt, and the first where the access is not split).
pub data FaultFrom (gs : List Given) (addr : ℕ) (fault : Fault) : Type 0 where
  translating : (g : Given) → Memᴰ g gs → address_of g.ask ≡ addr → g.answer ≡ Err fault → FaultFrom gs addr fault
  outside : (g : Given) → Memᴰ g gs → (pa : ℕ) → g.answer ≡ Ok pa → (i : ℕ) → i < 8
      → wrap addr ≡ wrap (address_of g.ask + i) → fault ≡ first 0x10
      → FaultFrom gs addr fault

-- OF EVERY CORE THAT CALLS REACH

-- Whatever the call and RAM: where a call after the list replies a fault, its status is a row of the table, a
-- translation's or 0x10, and it comes from the answers to the call's translations, with the address translated or, for
-- 0x10, that of a byte of the access.
abbrev pub every_replied_fault : Type 0
every_replied_fault =
    (list : List (Fed real machine)) → Shown real machine fresh_core list
    → (m : Ram) (x : Call) (addr : ℕ) (fault : Fault)
    → RepliesFault (step_of (core_after (lent_of real machine list)) m.base m.bytes x).reply addr fault
    → (Row fault.fsc ⊎ (fault.fsc ≡ 0x10)) × FaultFrom (answers_after (lent_of real machine list) m x) addr fault
