-- A fresh answer with stage 1 on is the walk of the address without its tag.
use Rattle.std.specs.Prelude.{◌≡◌, ℕ, ◌≤◌, ◌<◌, true, List, Option}
use Rattle.std.proofs.Common.{sym, ◌∙◌, le-ltb, lt-ltb}
use Rattle.walk.specs.Walk.{fresh_of}
use Rattle.walk.specs.Regime.{stage1_on, untagged}
use Rattle.walk.specs.declared.regime.Bank.{Bank}
use Rattle.sysreg.specs.declared.regs.Regime.{Regime}
use Rattle.ranges_report.specs.Place.{place_at, fresh_place, map_at, Maps}
use Rattle.ranges_report.specs.declared.map.Mapped.{Mapped}

pub fresh-by-map : (s : Bank) (r : Regime) (memory : ℕ → Option ℕ) (from end : ℕ) (l : List Mapped)
    → Maps (place_at s r memory) from end l → stage1_on s r ≡ true
    → (va : ℕ) → from ≤ untagged s.tcr r va → untagged s.tcr r va < end
    → fresh_place (fresh_of s r va memory) ≡ map_at l (untagged s.tcr r va)
unfolding fresh_of
fresh-by-map s r memory from end l maps on va h k =
    let said : map_at l (untagged s.tcr r va) ≡ place_at s r memory (untagged s.tcr r va) =
    maps (untagged s.tcr r va) ∙ rw (le-ltb (untagged s.tcr r va) from h, lt-ltb (untagged s.tcr r va) end k) in
    rw on (sym said)
