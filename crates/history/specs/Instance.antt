-- The real registers and walk as a `World`.
use Rattle.std.specs.Prelude.{false, length}
use Rattle.sysreg.specs.Regs.{fresh_control}
use Rattle.sysreg.specs.Shape.{same_shape, asid_of}
use Rattle.sysreg.specs.declared.regs.Control.{Control}
use Rattle.walk.specs.Walk.{fetches_of, walk_of}
use Rattle.walk.specs.Regime.{bank_of, stage1_on, untagged}
pub use Rattle.history.specs.Window.{Ram, window_of, memory_of}
use Rattle.history.specs.World.{World, Plain}

abbrev pub real : World
real =
    record {
      Regs = Control;
      Ram = Ram;
      on = λ c r. stage1_on (bank_of c r) r;
      untag = λ c r va. untagged (bank_of c r).tcr r va;
      walk = λ c m r va. walk_of (bank_of c r) r va (memory_of m);
      reads = λ c m r va. length (fetches_of (bank_of c r) r va (memory_of m));
      asid = asid_of;
      same-shape = same_shape;
    }

-- The fresh core that `Cpu::new` gives: EL3, the mark clear.
abbrev pub fresh_plain : Plain real
fresh_plain = record { regs = fresh_control; privilege = record { level = 3; unprivileged = false } }
