-- A core, and a core with what it answers.
use Rattle.std.specs.Prelude.{ℕ}
use Rattle.tlb.specs.declared.Tlb.{Tlb}
use Rattle.tlb.specs.Answers.{Answer}
use Rattle.walk.specs.Regime.{bank_of}
use Rattle.sysreg.specs.Regs.{regime_of}
use Rattle.walk.specs.declared.regime.Bank.{Bank}
use Rattle.tlb.specs.Tlb.{fresh}
use Rattle.cpu.specs.Bytes.{Placed}
use Rattle.cpu.specs.declared.Core.{Core}
unfoldable pub use Rattle.cpu.specs.Bare.{zeros, reg_in, reg_set}
use Rattle.cpu.specs.Bare.{fresh_bare, with_general, core_from, bare_of, in_core}

-- What an operation leaves, and its answer.

-- of a cache
pub record Stepped : Type 0 where
  pub tlb : Tlb
  pub answer : Answer

pub record Located : Type 0 where
  pub tlb : Tlb
  pub placed : Placed

-- of a core
pub record Answered (A : Type 0) : Type 0 where
  pub core : Core
  pub answer : A

-- The core: how it starts, its general registers, and its parts put back.
-- the registers and the cache as after reset
unfoldable pub fresh_core : Core
fresh_core = core_from fresh_bare fresh 0 0

unfoldable pub reg_of : Core → ℕ → ℕ
reg_of c n = reg_in c.x n

unfoldable pub set_reg : Core → ℕ → ℕ → Core
set_reg c n v = in_core c (with_general (bare_of c) n v)

-- what a memory operation may change: the cache, and the physical addresses of the last load and of the last external
-- abort
unfoldable pub after_access : Core → Tlb → ℕ → ℕ → Core
after_access c t last abort = core_from (bare_of c) t last abort

-- the registers of its regime
abbrev pub bank_now : Core → Bank
bank_now c = bank_of c.control (regime_of c.privilege.level)
