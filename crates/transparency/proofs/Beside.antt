-- Beside faithfulness: the two cores agree, AT is a fresh walk, and a refused call changes nothing in either.
use Rattle.std.proofs.Common.{arith, rules, ap, subst, ◌∙◌}
use Rattle.std.specs.Prelude.{◌≡◌, refl}
use Rattle.cpu.specs.Bare.{Bare, fresh_bare, bare_of}
use Rattle.cpu.specs.Core.{fresh_core}
use Rattle.cpu.specs.System.{after_register_write, sys_of, sys_ram}
use Rattle.cpu.specs.Step.{ends, run_of, ram_of, step_of, ram_after}
use Rattle.history.specs.Calls.{bare_run}
use Rattle.history.proofs.EveryCall.{run-bare as runs-agree}
use Rattle.history.specs.Instance.{real}
use Rattle.transparency.specs.Bare.{allowed, ruling_in, refusal_of}
use Rattle.transparency.specs.Machine.{machine}
use Rattle.transparency.proofs.Bridge.{bridge, fits}
use Rattle.transparency.specs.Beside.{core_after}
use Rattle.transparency.specs.Beside as Statement

-- THE TWO CORES

pub fresh-bare : bare_of fresh_core ≡ fresh_bare
unfolding fresh_core
fresh-bare = refl

-- After every list they agree on level, mark, registers and general registers, and on flags and PC.
pub two-cores : Statement.two_cores
two-cores list = runs-agree real machine bridge fresh_core list ∙ ap (λ (b : Bare). bare_run real machine b list) fresh-bare

-- WHAT A CALL OF THE CORE WITHOUT A CACHE LEAVES: its updates are the core's own (cpu/specs/Bare.antt), so each says
-- what else stays

pub abort-leaves : Statement.abort_leaves
abort-leaves b m e = (refl, refl)

pub level-leaves : Statement.level_leaves
level-leaves b m level = (refl, refl, refl, refl, refl, refl)

pub mark-leaves : Statement.mark_leaves
mark-leaves b m mark = (refl, refl, refl, refl, refl, refl)

pub general-leaves : Statement.general_leaves
general-leaves b m n value = (refl, refl, refl, refl, refl)

pub register-leaves : Statement.register_leaves
register-leaves b m key value = (refl, refl, refl, refl)

-- AT

-- AT equals a fresh walk without any premise: whatever the cache holds, PAR_EL1 is made of the registers and RAM.
pub at-walks : Statement.at_walks
at-walks c m e form passed named = grind (arith, fits)

-- after every list it is that of the core without a cache
pub at-after : Statement.at_after
at-after list m e form = grind (arith, two-cores, at-walks)

-- REFUSED CALLS

-- a refused call leaves the core without a cache as it is
pub refused-bare : Statement.refused_bare
refused-bare b m x refuses = grind arith

-- A refused call leaves core, cache, counters and RAM as they are, and its reply is that refusal, by the state without
-- a cache.
pub refused-core : Statement.refused_core
unfolding step_of ram_after run_of ram_of sys_of sys_ram after_register_write
refused-core c m x refuses = search (rules)

-- after every list it is the refusal of the core without a cache
pub refused-after : Statement.refused_after
refused-after list m x =
    subst
    (λ (b : Bare).
    (ruling_in b m x ≡ allowed → ⊥)
    → (step_of (core_after list) m.base m.bytes x ≡ ends (core_after list) (refusal_of (ruling_in b m x)))
    × (ram_after (core_after list) m.base m.bytes x ≡ m.bytes))
    (two-cores list) (refused-core (core_after list) m x)
