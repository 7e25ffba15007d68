-- The loop that tells the others, core by core.
use Rattle.std.specs.Prelude.{if◌then◌else◌, ℕ, ◌==◌, List, nat_lt}
use Rattle.tlb.specs.declared.Inval.{Inval}
use Rattle.cpu.specs.declared.Core.{Core}
use Rattle.cluster.specs.Cluster.{core_in, four, unmarked, told}

-- those below n have heard
abbrev pub told_below : ℕ → List Core → ℕ → Inval → List Core
told_below n cs i what = four (λ j. if j == i then unmarked (core_in cs i) else if nat_lt j n then told what (core_in cs j) else core_in cs j)
