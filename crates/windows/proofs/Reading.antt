-- Reads of a list, as of a window of RAM that begins at 0.
use Rattle.std.specs.Prelude.{◌≡◌, ℕ, ◌+◌, ◌<◌, ◌≤◌, List, length, Option, Some, None}
use Rattle.std.proofs.Common.{arith}
use Rattle.std.proofs.lemmas.Grind.{common_steps}
use Rattle.word.specs.Ram.{little_endian, word_at}

-- nothing is read only where a byte lies past the end
pub read-none : (list : List ℕ) (n at : ℕ) (x : Option ℕ) → x ≡ word_at 0 list n at → x ≡ None → length list < at + n
unfolding word_at
read-none list n at x e is = grind (arith, common_steps)

pub read-some : (list : List ℕ) (n at v : ℕ) (x : Option ℕ) → x ≡ word_at 0 list n at → x ≡ Some v → v ≡ little_endian list n at
unfolding word_at
read-some list n at v x e is = grind (arith, common_steps)

pub read-fits : (list : List ℕ) (n at v : ℕ) (x : Option ℕ) → x ≡ word_at 0 list n at → x ≡ Some v → at + n ≤ length list
unfolding word_at
read-fits list n at v x e is = grind (arith, common_steps)

pub ruleset reading = (read-none, read-some)
