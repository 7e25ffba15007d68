-- RAM as a walk reads it.
use Rattle.std.specs.Prelude.{List, ℕ, Option}
use Rattle.word.specs.Ram.{word_at}

-- RAM as a lent window: its first address and its bytes
pub record Ram : Type 0 where
  pub base : ℕ
  pub bytes : List ℕ

abbrev pub window_of : ℕ → List ℕ → Ram
window_of base bytes = record { base = base; bytes = bytes }

-- the descriptor at an address
abbrev pub memory_of : Ram → ℕ → Option ℕ
memory_of m = word_at m.base m.bytes 8
