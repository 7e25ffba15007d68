-- How many descriptors a call reads, after every list of calls from the fresh core and whatever RAM is at each step: those of the walks that
-- the plain model makes of its translations (history/specs/Tallies.antt), and AT's those of its own walk. What the code reports is
-- `step_work`, which the contract of its `step` cites.
use Rattle.std.specs.Prelude.{◌≡◌, true, false, List, ℕ, ◌+◌, length}
use Rattle.walk.specs.Walk.{fetches_of, fresh_reads}
use Rattle.walk.specs.Regime.{bank_of}
use Rattle.tlb.specs.Asks.{Ask, address_of}
use Rattle.tlb.specs.Live.{Each}
use Rattle.tlb.specs.Model.{Model}
use Rattle.tlb.specs.Translate.{no_work}
use Rattle.system.specs.declared.{decode.AtForm.AtForm, decode.SysOp.SysOp}
use Rattle.system.specs.declared.decode.SysOp.TheVariants as Op
use Rattle.system.specs.declared.decode.Encoding.{Encoding}
use Rattle.cpu.specs.Bare.{Bare, bare_of}
use Rattle.cpu.specs.Work.{step_work}
use Rattle.cpu.specs.declared.Core.{Core}
use Rattle.cpu.specs.declared.call.Call.{Call}
use Rattle.cpu.specs.declared.call.Call.TheVariants.{System}
use Rattle.history.specs.World.{Plain, regime_now, untag_now}
use Rattle.history.specs.Calls.{Lent}
use Rattle.history.specs.Instance.{Ram, memory_of, real}
use Rattle.history.specs.Tallies.{Made, by_walk, reads_of, made_in}
use Rattle.transparency.specs.Bare.{missed_in, op_in, operand_in, allowed, ruling_in, if_allowed}
use Rattle.transparency.specs.Machine.{machine}
use Rattle.transparency.specs.Beside.{core_after, bare_after, EveryCall}
use Rattle.transparency.specs.LevelCounts.{made_after, translates_nothing}

-- what a call reads on a core
abbrev pub reads_on : Core → Ram → Call → ℕ
reads_on c m x = (step_work c m.base m.bytes x no_work).reads

-- AT'S OWN WALK, on the registers of the core without a cache, for the regime of its form
abbrev pub op_reads : SysOp → Bare → Ram → ℕ → ℕ
op_reads (Op.At form) b m va = fresh_reads (bank_of b.control form.regime) form.regime va (memory_of m)
op_reads _ b m va = 0

abbrev pub own_reads : Bare → Ram → Call → ℕ
own_reads b m (System e) = op_reads (op_in b e) b m (operand_in b e)
own_reads b m _ = 0

-- EVERY CALL reads what its translations read, each of those that the plain model makes in its steps, and AT what its own walk does.
abbrev pub call_reads : List (Lent real machine) → Ram → Call → Type 0
call_reads list m x =
    reads_on (core_after list) m x
    ≡ reads_of (made_after list m x) + if_allowed (ruling_in (bare_after list) m x) (own_reads (bare_after list) m x) 0

-- EACH of these translations, in a step of any call: where the model walks it reads the descriptors that the walk fetches, on the registers and RAM
-- at the start of the step, and where a hint, a line or the address alone answers none.
pub record Reads (c : Plain real) (m : Ram) (y : Made) : Type 0 where
  pub walked : by_walk y.how ≡ true
      → y.reads
      ≡ length (fetches_of (bank_of c.regs (regime_now real c)) (regime_now real c) (untag_now real c (address_of y.ask)) (memory_of m))
  pub answered : by_walk y.how ≡ false → y.reads ≡ 0

abbrev pub each_reads : Type 0
each_reads = (c : Plain real) (m : Ram) (l : List Ask) (u : Model) → Each (Reads c m) (made_in real c m l u)

-- AT reads the same whatever the cache holds
abbrev pub at_reads : Type 0
at_reads =
    (c : Core) (m : Ram) (e : Encoding) (form : AtForm) → missed_in (bare_of c) m (System e) ≡ 0 → op_in (bare_of c) e ≡ Op.At form
    → reads_on c m (System e) ≡ fresh_reads (bank_of c.control form.regime) form.regime (operand_in (bare_of c) e) (memory_of m)

-- A refused call, Undefined and Unimplemented included, reads none; nor does one that translates nothing and is no AT.
abbrev pub refused_reads : Type 0
refused_reads = EveryCall (λ list m x. (ruling_in (bare_after list) m x ≡ allowed → ⊥) → reads_on (core_after list) m x ≡ 0)

abbrev pub quiet_reads : Type 0
quiet_reads =
    EveryCall
    (λ list m x. translates_nothing (bare_after list) x ≡ true
    → ((e : Encoding) (form : AtForm) → x ≡ System e → op_in (bare_after list) e ≡ Op.At form → ⊥) → reads_on (core_after list) m x ≡ 0)
