-- Cores of which words hold all.
use Rattle.std.specs.Prelude.{◌≡◌, List, ℕ}
use Rattle.std.proofs.Common.{refl}
use Rattle.sysreg.specs.Regs.{fresh_control, fresh_sys}
use Rattle.cpu.specs.Core.{fresh_core}
use Rattle.saved.specs.CoreOf.{core_on, core_by, core_of}
use Rattle.saved.specs.WordsOf.{held}

pub fresh_whole : held fresh_core ≡ fresh_core
unfolding held fresh_core fresh_control fresh_sys
fresh_whole = refl

pub restored_whole : (words : List ℕ) → held (core_of words) ≡ core_of words
unfolding held core_of core_by core_on
restored_whole words = refl
