-- Where a field lies in a word, x<high:low> in the manual's notation: the word cut above the bit high, and its low bits dropped.
use Rattle.std.specs.Prelude.{◌≡◌, ℕ, ◌+◌, ◌/◌, ◌%◌, ◌^◌, Bool, ◌==◌}

-- x<high:low>
abbrev pub bits : ℕ → ℕ → ℕ → ℕ
bits x high low = x % 2 ^ (high + 1) / 2 ^ low

-- x<n> == '1'
abbrev pub bit : ℕ → ℕ → Bool
bit x n = bits x n n == 1

-- what a field is of every word
abbrev pub FieldAt : (ℕ → ℕ) → ℕ → ℕ → Type 0
FieldAt f high low = (x : ℕ) → f x ≡ bits x high low

abbrev pub BitAt : (ℕ → Bool) → ℕ → Type 0
BitAt f n = (x : ℕ) → f x ≡ bit x n
