-- The numbers of errors.
use Rattle.std.specs.Prelude.{ℕ}
use Rattle.cpu.specs.Check.{number_of}
use Rattle.windows.specs.declared.WindowsError.{WindowsError}
use Rattle.windows.specs.declared.WindowsError.TheVariants.{Check, List, Page}

abbrev pub number_of_error : WindowsError → ℕ
number_of_error (Check check) = number_of check
number_of_error (List why) = 9
number_of_error (Page e) = 10
