-- What a setter does to the accesses that follow.
use Rattle.std.specs.Prelude.{◌≡◌, ℕ, List}
use Rattle.cpu.specs.Says.{Operation, operation_core, operation_ram}
use Rattle.cpu.specs.Says.{says}
use Rattle.cpu.specs.declared.Core.{Core}

-- a translation, load, store or fetch answers the same on both cores, and leaves the same RAM and the same cache
pub record SameAccess (c d : Core) (base : ℕ) (ram : List ℕ) (o : Operation) : Type 0 where
  pub answer : says d base ram o ≡ says c base ram o
  pub bytes : operation_ram d base ram o ≡ operation_ram c base ram o
  pub cache : (operation_core d base ram o).tlb ≡ (operation_core c base ram o).tlb

abbrev pub SameAccesses : Core → Core → Type 0
SameAccesses c d = (base : ℕ) (ram : List ℕ) (o : Operation) → SameAccess c d base ram o
