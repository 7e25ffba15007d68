-- The form of an AT, each part of it by itself: `at`, by which decoding and its rows in numbers name one.
use Rattle.std.specs.Prelude.{◌≡◌, Bool}
use Rattle.sysreg.specs.declared.regs.Regime.{Regime}
use Rattle.system.specs.Decode.{at}
use Rattle.system.specs.declared.decode.SysOp.TheVariants.{At}

abbrev pub forms_of_at : Type 0
forms_of_at = (r : Regime) (user write : Bool) → at r user write ≡ At (record { regime = r; user = user; write = write })
