-- A fault of stage 1: its status code alone.
use Rattle.std.specs.Prelude.{ℕ}
use Rattle.fault.specs.declared.Fault.{Fault}

abbrev pub first : ℕ → Fault
first fsc = record { fsc = fsc }
