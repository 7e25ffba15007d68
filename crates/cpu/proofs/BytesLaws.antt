-- Laws of places and bytes.
use Rattle.std.specs.Prelude.{◌≡◌, ℕ, zero, suc, ◌+◌, ◌-◌, ◌/◌, ◌^◌, ◌<◌, ◌≤◌, Bool, true, false, Ok, Err, List, length, ◌≢◌}
use Rattle.std.specs.Prelude.{slice_index, Option, Some, None}
use Rattle.std.proofs.Math.Path.{refl}
use Rattle.std.proofs.Common.{arith, leb-true, length-take-le, length-append, length-drop, ◌*◌, get_or, pow-suc}
use Rattle.std.proofs.lemmas.Grind.{common_steps}
use Rattle.word.specs.Ram.{within, stored, word_at}
use Rattle.word.proofs.RamLaws.{length-bytes}
use Rattle.cpu.specs.Bytes.{byte_at, first_outside, bytes_before, Lowest, Placed, Verdict, outside_at, verdict_of, address_in}
use Rattle.cpu.specs.Bytes.{split_stored, store_ram, Lie, byte_in, split_value, load_of, store_ram_end}
use Rattle.cpu.specs.declared.{place.Pages.Pages, place.FaultAt.FaultAt, place.Place.Place}
use Rattle.cpu.specs.declared.place.Place.TheVariants.{Whole, Split}
use native.Mathlib.Nat.{pow-le-pow_right}

-- Laws of where an access lies: which byte is the lowest outside RAM, and on which page each byte stands.

-- two answers that are one name one byte, or one fault
pub same-outside : (i pa j q : ℕ) → ◌≡◌ {A = Verdict} (Err (outside_at i pa)) (Err (outside_at j q)) → (i ≡ j) × (pa ≡ q)
same-outside i pa j q e = grind arith

pub same-fault : (x y : FaultAt) → ◌≡◌ {A = Placed} (Err x) (Err y) → x ≡ y
same-fault x y e = cc

module _ (base len : ℕ) (p : Pages) where
  abbrev lies : ℕ → Bool
  lies i = within base len 1 (byte_at p i)

  -- where it answers a byte, that is the lowest outside
  pub lowest : (k n i pa : ℕ) → first_outside base len p k n ≡ Err (outside_at i pa) → Lowest base len p k n i pa
  unfolding first_outside
  lowest k zero i pa e = grind arith
  lowest k (suc n) i pa e = grind (arith, lowest (k + 1) n i pa)

  -- where it answers none, every byte lies inside
  pub all-inside : (k n : ℕ) → first_outside base len p k n ≡ Ok tt → (j : ℕ) → k ≤ j → j < k + n → lies j ≡ true
  unfolding first_outside
  all-inside k zero e j a b = absurd (omega arith)
  all-inside k (suc n) e j a b = grind (arith, all-inside (k + 1) n)

  -- and the other way round
  pub judged-at : (k n i : ℕ) → k ≤ i → i < k + n → lies i ≡ false → ((j : ℕ) → j < i → lies j ≡ true)
      → first_outside base len p k n ≡ Err (outside_at i (byte_at p i))
  unfolding first_outside
  judged-at k zero i a h out before = grind arith
  judged-at k (suc n) i a h out before = grind (arith, judged-at (k + 1) n i, before k)

  pub judged-inside : (k n : ℕ) → ((j : ℕ) → j < k + n → lies j ≡ true) → first_outside base len p k n ≡ Ok tt
  unfolding first_outside
  judged-inside k zero each = refl
  judged-inside k (suc n) each = grind (arith, judged-inside (k + 1) n, each k)

  pub first-out : (k n i : ℕ) → k ≤ i → i < k + n → lies i ≡ false → bytes_before (first_outside base len p k n) (k + n) < k + n
  unfolding first_outside
  first-out k zero i a h out = absurd (omega arith)
  first-out k (suc n) i a h out = grind (arith, first-out (k + 1) n i)

  -- how many of m bytes come before the first outside
  pub before-in : (k n m : ℕ) → k + n ≤ m → (k ≤ bytes_before (first_outside base len p k n) m) × (bytes_before (first_outside base len p k n) m ≤ m)
  unfolding first_outside
  before-in k zero m h = grind arith
  before-in k (suc n) m h = grind (arith, before-in (k + 1) n m)

-- Laws of bytes moved: RAM keeps its length, a store changes its own bytes only, and a split value is a plain one where the pages lie side by side.

-- a store keeps RAM's length
pub stored-length : (base : ℕ) (ram : List ℕ) (n pa v : ℕ) → length (stored base ram n pa v) ≡ length ram
unfolding stored
stored-length base ram n pa v = grind (arith, leb-true, length-append, length-take-le, length-drop, length-bytes)

pub split-length : (base : ℕ) (p : Pages) (v i n : ℕ) (ram : List ℕ) → length (split_stored base p v i n ram) ≡ length ram
unfolding split_stored
split-length base p v i zero ram = refl
split-length base p v i (suc n) ram = grind (arith, split-length base p (v / 256) (i + 1) n, stored-length)

pub store_length : (base : ℕ) (ram : List ℕ) (place : Place) (n v : ℕ) → length (store_ram base ram place n v) ≡ length ram
unfolding store_ram
store_length base ram place n v = grind (arith, stored-length, split-length)

-- an access that is not split and has a byte outside moves nothing
pub whole-or-none : (base : ℕ) (ram : List ℕ) (pa n v i q : ℕ) → verdict_of base (length ram) (Whole pa) n ≡ Err (outside_at i q)
    → store_ram base ram (Whole pa) n v ≡ ram
unfolding verdict_of store_ram stored
whole-or-none base ram pa n v i q = grind arith

-- a byte of RAM that is none of its n bytes is left as it was
pub stored-leaves : (base : ℕ) (ram : List ℕ) (n pa v k : ℕ) → ((i : ℕ) → i < n → base + k ≢ pa + i)
    → slice_index (stored base ram n pa v) k ≡ slice_index ram k
unfolding stored
stored-leaves base ram n pa v k none = grind (arith, common_steps, length-bytes, none (k - (pa - base)))

pub split-leaves : (base : ℕ) (p : Pages) (v s n k : ℕ) (ram : List ℕ) → ((i : ℕ) → s ≤ i → i < s + n → base + k ≢ byte_at p i)
    → slice_index (split_stored base p v s n ram) k ≡ slice_index ram k
unfolding split_stored
split-leaves base p v s zero k ram none = refl
split-leaves base p v s (suc n) k ram none =
    grind (arith, none, stored-leaves base ram 1 (byte_at p s) v k, split-leaves base p (v / 256) (s + 1) n k (stored base ram 1 (byte_at p s) v))

pub store-leaves : (base : ℕ) (ram : List ℕ) (place : Place) (n v k : ℕ) → ((i : ℕ) → i < n → base + k ≢ address_in place i)
    → slice_index (store_ram base ram place n v) k ≡ slice_index ram k
unfolding store_ram verdict_of
store-leaves base ram (Whole pa) n v k none = stored-leaves base ram n pa v k none
store-leaves base ram (Split p) n v k none = grind (arith, before-in base (length ram) p 0 n n, split-leaves)

-- The cases of bytes moved, on plain values, for `search`.
module _ (base len n pa : ℕ) (f : Bool) (t : f ≡ true) (e : f ≡ within base len n pa) where
  pub fits-base : base ≤ pa
  fits-base = grind arith

  pub fits-end : pa - base + n ≤ len
  fits-end = grind arith

-- the loop that sums up a split access's bytes, from the highest down
module _ (base : ℕ) (ram : List ℕ) (p : Pages) (n : ℕ) where
  pub sum-starts : 0 ≡ split_value base ram p n (n - n)
  unfolding split_value
  sum-starts = grind arith

  pub sum-on : (i v pa b : ℕ) → Lie base (length ram) p n → 0 < i → i ≤ n → v ≡ split_value base ram p i (n - i) → pa ≡ byte_at p (i - 1)
      → b ≡ get_or ram (pa - base) 0 → v * 256 + b ≡ split_value base ram p (i - 1) (n - (i - 1))
  unfolding split_value byte_in
  sum-on i v pa b l h k ev ep eb = let s : n - (i - 1) ≡ suc (n - i) = omega arith in grind (arith, l.each (i - 1))

-- bytes that were judged lie in RAM
pub lie-judged : (base len : ℕ) (p : Pages) (n : ℕ) (d : Verdict) → d ≡ first_outside base len p 0 n → d ≡ Ok tt → Lie base len p n
lie-judged base len p n d e q = grind (arith, all-inside)

-- the sum of k bytes is below 256 ^ k
pub sum-none : (n : ℕ) → 0 < 256 ^ (n - n)
sum-none n = grind arith

module _ (n i v : ℕ) (few : n ≤ 8) (h : 0 < i) (k : i ≤ n) (l : v < 256 ^ (n - i)) where
  pub sum-mul : v * 256 < 2 ^ 64
  sum-mul = grind (arith, pow-le-pow_right)

  pub sum-add : (b : ℕ) → b ≤ 255 → v * 256 + b < 2 ^ 64
  sum-add b m = grind (arith, pow-le-pow_right)

  pub sum-next : (b : ℕ) → b ≤ 255 → v * 256 + b < 256 ^ (n - (i - 1))
  sum-next b m = let s : n - (i - 1) ≡ suc (n - i) = omega arith in grind (arith, pow-suc)

-- loads
module _ (base : ℕ) (ram : List ℕ) where
  pub whole-value : (pa n : ℕ) (w : Option ℕ) (v : ℕ) → w ≡ word_at base ram n pa → w ≡ Some v → Ok v ≡ load_of base ram (Whole pa) n
  unfolding load_of verdict_of word_at
  whole-value pa n w v e q = grind arith

  pub whole-abort : (pa n : ℕ) (w : Option ℕ) → w ≡ word_at base ram n pa → w ≡ None → Err (outside_at 0 pa) ≡ load_of base ram (Whole pa) n
  unfolding load_of verdict_of word_at
  whole-abort pa n w e q = grind arith

  pub split-value : (p : Pages) (n v : ℕ) (d : Verdict) → d ≡ first_outside base (length ram) p 0 n → d ≡ Ok tt
      → v ≡ split_value base ram p 0 n → Ok v ≡ load_of base ram (Split p) n
  unfolding load_of verdict_of
  split-value p n v d e q s = rw (← e, q, s)

-- stores
module _ (base : ℕ) (ram : List ℕ) where
  pub whole-inside : (pa n : ℕ) (f : Bool) → f ≡ true → f ≡ within base (length ram) n pa → Ok tt ≡ verdict_of base (length ram) (Whole pa) n
  unfolding verdict_of
  whole-inside pa n f t e = rw (← e, t)

  pub whole-outside : (pa n : ℕ) (f : Bool) → f ≡ false → f ≡ within base (length ram) n pa → Err (outside_at 0 pa) ≡ verdict_of base (length ram) (Whole pa) n
  unfolding verdict_of
  whole-outside pa n f t e = rw (← e, t)

-- A store keeps RAM's length.
pub len : (base : ℕ) (ram : List ℕ) (n v : ℕ) (ys : List ℕ) (x : Placed) → ys ≡ store_ram_end x base ram n v
    → length ys ≡ length ram
unfolding store_ram_end
len base ram n v ys x e = grind (arith, store_length)
