-- How far a walk's end holds: the level at which it ends, and the addresses that are alike there.
use Rattle.std.specs.Prelude.{if◌then◌else◌, ◌≡◌, ℕ, ◌/◌, ◌%◌, ◌^◌, Ok, Err}
use Rattle.walk.specs.Table.{addrselectbottom, in_range}
use Rattle.walk.specs.Answers.{Walked}
use Rattle.walk.specs.declared.range.Range.{Range}

-- a leaf's own; that of a fault is in the low two bits of its status
abbrev pub level_of : Walked → ℕ
level_of (Ok leaf) = leaf.level
level_of (Err status) = status % 4

-- both within the range and in one block of the level, or both beyond the range and in one half
abbrev pub Alike : Range → ℕ → ℕ → ℕ → Type 0
Alike g level va vb =
    (in_range g vb ≡ in_range g va)
    × (let n = if in_range g va then addrselectbottom g.largegrain level else 55 in va / 2 ^ n ≡ vb / 2 ^ n)
