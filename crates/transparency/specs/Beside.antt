-- Beside faithfulness: the two cores agree, AT is a fresh walk, and a refused call changes nothing in either.
use Rattle.std.specs.Prelude.{◌≡◌, Bool, List, ℕ}
use Rattle.system.specs.declared.{decode.AtForm.AtForm}
use Rattle.system.specs.declared.decode.SysOp.TheVariants as Op
use Rattle.exception.specs.declared.kind.Exception.{Exception}
use Rattle.cpu.specs.Bare.{Bare, fresh_bare, bare_of}
use Rattle.cpu.specs.Core.{fresh_core}
use Rattle.cpu.specs.declared.Core.{Core}
use Rattle.cpu.specs.Step.{ends, step_of, ram_after}
use Rattle.system.specs.declared.decode.Encoding.{Encoding}
use Rattle.cpu.specs.declared.call.Call.{Call}
use Rattle.cpu.specs.declared.call.Call.TheVariants.{System, Register, Level, Mark, General}
use Rattle.cpu.specs.declared.call.Call.TheVariants.{Abort}
use Rattle.history.specs.Calls.{Lent, Fed, run, bare_run, Shown}
use Rattle.history.specs.Instance.{Ram, real}
use Rattle.transparency.specs.Bare.{allowed, missed_in, op_in, operand_in}
use Rattle.transparency.specs.Bare.{ruling_in, refusal_of, par_at, bare_does, bare_step}
use Rattle.transparency.specs.Machine.{machine}

-- THE TWO CORES

-- after a list of calls: the core, and the core without a cache
abbrev pub core_after : List (Lent real machine) → Core
core_after list = run real machine fresh_core list

abbrev pub bare_after : List (Lent real machine) → Bare
bare_after list = bare_run real machine fresh_bare list

-- WHATEVER CAME BEFORE: what is said of every list of calls from the fresh core; of the RAM m after it too; of a call
-- x, on the RAM m, that follows it; and of a list that is fed as its run shows it
abbrev pub EveryList : (List (Lent real machine) → Type 0) → Type 0
EveryList says = (list : List (Lent real machine)) → says list

abbrev pub AfterEveryList : (List (Lent real machine) → Ram → Type 0) → Type 0
AfterEveryList says = (list : List (Lent real machine)) (m : Ram) → says list m

abbrev pub EveryCall : (List (Lent real machine) → Ram → Call → Type 0) → Type 0
EveryCall says = (list : List (Lent real machine)) (m : Ram) (x : Call) → says list m x

abbrev pub AfterEveryRun : (List (Fed real machine) → Ram → Type 0) → Type 0
AfterEveryRun says = (list : List (Fed real machine)) → Shown real machine fresh_core list → (m : Ram) → says list m

-- After every list they agree on level, mark, registers and general registers, and on flags and PC.
abbrev pub two_cores : Type 0
two_cores = (list : List (Lent real machine)) → bare_of (core_after list) ≡ bare_after list

-- WHAT A CALL OF THE CORE WITHOUT A CACHE LEAVES: its updates are the core's own (cpu/specs/Bare.antt), so each says
-- what else stays

abbrev pub abort_leaves : Type 0
abort_leaves =
    (b : Bare) (m : Ram) (e : Exception)
    → ((bare_does b m (Abort e)).x ≡ b.x) × ((bare_does b m (Abort e)).control ≡ b.control)

abbrev pub level_leaves : Type 0
level_leaves =
    (b : Bare) (m : Ram) (level : ℕ)
    → ((bare_does b m (Level level)).x ≡ b.x) × ((bare_does b m (Level level)).control ≡ b.control)
    × ((bare_does b m (Level level)).sys ≡ b.sys)
    × ((bare_does b m (Level level)).privilege.unprivileged ≡ b.privilege.unprivileged)
    × ((bare_does b m (Level level)).flags ≡ b.flags) × ((bare_does b m (Level level)).pc ≡ b.pc)

abbrev pub mark_leaves : Type 0
mark_leaves =
    (b : Bare) (m : Ram) (mark : Bool)
    → ((bare_does b m (Mark mark)).x ≡ b.x) × ((bare_does b m (Mark mark)).control ≡ b.control)
    × ((bare_does b m (Mark mark)).sys ≡ b.sys) × ((bare_does b m (Mark mark)).privilege.level ≡ b.privilege.level)
    × ((bare_does b m (Mark mark)).flags ≡ b.flags) × ((bare_does b m (Mark mark)).pc ≡ b.pc)

abbrev pub general_leaves : Type 0
general_leaves =
    (b : Bare) (m : Ram) (n value : ℕ)
    → ((bare_does b m (General n value)).privilege ≡ b.privilege)
    × ((bare_does b m (General n value)).control ≡ b.control)
    × ((bare_does b m (General n value)).sys ≡ b.sys) × ((bare_does b m (General n value)).flags ≡ b.flags)
    × ((bare_does b m (General n value)).pc ≡ b.pc)

abbrev pub register_leaves : Type 0
register_leaves =
    (b : Bare) (m : Ram) (key value : ℕ)
    → ((bare_does b m (Register key value)).x ≡ b.x) × ((bare_does b m (Register key value)).flags ≡ b.flags)
    × ((bare_does b m (Register key value)).pc ≡ b.pc) × ((bare_does b m (Register key value)).privilege ≡ b.privilege)

-- AT

-- AT equals a fresh walk without any premise: whatever the cache holds, PAR_EL1 is made of the registers and RAM.
abbrev pub at_walks : Type 0
at_walks =
    (c : Core) (m : Ram) (e : Encoding) (form : AtForm) → missed_in (bare_of c) m (System e) ≡ 0
    → op_in (bare_of c) e ≡ Op.At form
    → (step_of c m.base m.bytes (System e)).core.sys.par_el1 ≡ par_at (bare_of c) m form (operand_in (bare_of c) e)

-- after every list it is that of the core without a cache
abbrev pub at_after : Type 0
at_after =
    (list : List (Lent real machine)) (m : Ram) (e : Encoding) (form : AtForm)
    → missed_in (bare_after list) m (System e) ≡ 0 → op_in (bare_after list) e ≡ Op.At form
    → (step_of (core_after list) m.base m.bytes (System e)).core.sys.par_el1
    ≡ par_at (bare_after list) m form (operand_in (bare_after list) e)

-- REFUSED CALLS

-- a refused call leaves the core without a cache as it is
abbrev pub refused_bare : Type 0
refused_bare = (b : Bare) (m : Ram) (x : Call) → (ruling_in b m x ≡ allowed → ⊥) → bare_step b m x ≡ b

-- A refused call leaves core, cache, counters and RAM as they are, and its reply is that refusal, by the state without
-- a cache.
abbrev pub refused_core : Type 0
refused_core =
    (c : Core) (m : Ram) (x : Call) → (ruling_in (bare_of c) m x ≡ allowed → ⊥)
    → (step_of c m.base m.bytes x ≡ ends c (refusal_of (ruling_in (bare_of c) m x)))
    × (ram_after c m.base m.bytes x ≡ m.bytes)

-- after every list it is the refusal of the core without a cache
abbrev pub refused_after : Type 0
refused_after =
    (list : List (Lent real machine)) (m : Ram) (x : Call) → (ruling_in (bare_after list) m x ≡ allowed → ⊥)
    → (step_of (core_after list) m.base m.bytes x ≡ ends (core_after list) (refusal_of (ruling_in (bare_after list) m x)))
    × (ram_after (core_after list) m.base m.bytes x ≡ m.bytes)
