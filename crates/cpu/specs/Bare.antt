-- The architectural state of a core: all of it but the cache and the two physical addresses that it keeps. Each update
-- is said here once: the core's own definitions make it with `in_core`, the core without a cache (transparency) makes it as
-- it is.
use Rattle.std.specs.Prelude.{if◌then◌else◌, ℕ, Bool, false, List, replicate, nat_lt, slice_index, slice_set}
use Rattle.sysreg.specs.Regs.{fresh_control, fresh_sys}
use Rattle.sysreg.specs.declared.{regs.Control.Control, regs.SysRegs.SysRegs}
use Rattle.tlb.specs.declared.{access.Privilege.Privilege, Tlb.Tlb}
use Rattle.exception.specs.Pstate.{fresh_flags}
use Rattle.exception.specs.Entry.{Entered}
use Rattle.exception.specs.declared.flags.Flags.{Flags}
use Rattle.cpu.specs.declared.Core.{Core}

pub record Bare : Type 0 where
  pub privilege : Privilege
  pub flags : Flags
  pub pc : ℕ
  pub x : List ℕ
  pub control : Control
  pub sys : SysRegs

unfoldable pub zeros : List ℕ
zeros = replicate 31 0

-- after reset: EL3 without the mark, the PC and the general registers zero
abbrev pub fresh_bare : Bare
fresh_bare =
    record {
      privilege = record { level = 3; unprivileged = false };
      flags = fresh_flags;
      pc = 0;
      x = zeros;
      control = fresh_control;
      sys = fresh_sys;
    }

-- UPDATES

-- the level and the mark
abbrev pub with_privilege : Bare → ℕ → Bool → Bare
with_privilege b level mark = record b { privilege = record { level = level; unprivileged = mark } }

-- general registers 0 to 30 are kept; 31 reads as zero and drops what is written
abbrev pub reg_in : List ℕ → ℕ → ℕ
reg_in x n = if nat_lt n 31 then slice_index x n else 0

abbrev pub reg_set : List ℕ → ℕ → ℕ → List ℕ
reg_set x n v = if nat_lt n 31 then slice_set x n v else x

abbrev pub with_general : Bare → ℕ → ℕ → Bare
with_general b n v = record b { x = reg_set b.x n v }

-- other registers
abbrev pub with_regs : Bare → Control → SysRegs → Bare
with_regs b k s = record b { control = k; sys = s }

-- PAR_EL1 alone
abbrev pub with_par : Bare → ℕ → Bare
with_par b par = with_regs b b.control (record b.sys { par_el1 = par })

-- level, flags, PC and registers after an exception; all else stays
abbrev pub with_entered : Bare → Entered → Bare
with_entered b e = record b { privilege = record b.privilege { level = e.level }; flags = e.flags; pc = e.pc; sys = e.sys }

-- THE CORE, of its architectural state, the cache, and the physical addresses of the last load and of the last external
-- abort

abbrev pub core_from : Bare → Tlb → ℕ → ℕ → Core
core_from b t last abort =
    record {
      privilege = b.privilege;
      flags = b.flags;
      pc = b.pc;
      x = b.x;
      control = b.control;
      sys = b.sys;
      tlb = t;
      last_pa = last;
      abort_pa = abort;
    }

abbrev pub bare_of : Core → Bare
bare_of c = record { privilege = c.privilege; flags = c.flags; pc = c.pc; x = c.x; control = c.control; sys = c.sys }

-- the core with another architectural state
abbrev pub in_core : Core → Bare → Core
in_core c b = core_from b c.tlb c.last_pa c.abort_pa
