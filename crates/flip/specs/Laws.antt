-- What a flipped bit leaves as it is.
use Rattle.std.specs.Prelude.{◌≡◌, ℕ, ◌+◌, ◌-◌, ◌*◌, ◌<◌, ◌≤◌, ◌⊎◌, true, List, length}
use Rattle.word.specs.Ram.{within}

-- bit n of RAM is none of the descriptor at d, where that lies wholly in RAM
abbrev pub IsOutside : ℕ → List ℕ → ℕ → ℕ → Type 0
IsOutside base ram n d = within base (length ram) 8 d ≡ true → (n < 8 * (d - base)) ⊎ (8 * (d - base) + 64 ≤ n)
