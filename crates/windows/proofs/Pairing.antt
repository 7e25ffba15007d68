-- The first pair of windows, number by number.
use Rattle.std.specs.Prelude.{if◌then◌else◌, ◌≡◌, refl, ℕ, zero, suc, ◌+◌, ◌<◌, ◌≤◌, Bool, true, false, List, Option, Some, None, nat_lt}
use Rattle.std.proofs.Common.{sym, ◌∙◌, arith}
use borrow.Author.Tests.{le-ltb}
use Rattle.windows.specs.Pairs.{pair, meet, first_meeting}
use Rattle.windows.specs.declared.Pair.{Pair}
use Rattle.windows.proofs.First.{least, least-zero, least-none, least-some, least-same, find-flat_map, find-filter, passing}

module _ (pages : ℕ → List ℕ) where
  abbrev pub meets : Pair → Bool
  meets p = meet (pages p.first) (pages p.second)

  -- i and k, where k is above and they meet
  abbrev pub meeting_with : ℕ → ℕ → Option Pair
  meeting_with i k = passing (nat_lt i) meets (pair i) k

abbrev pub meeting_of : ℕ → (ℕ → List ℕ) → ℕ → Option Pair
meeting_of n pages i = least (meeting_with pages i) n

pub first-least : (pages : ℕ → List ℕ) (n : ℕ) → first_meeting n pages ≡ least (meeting_of n pages) n
first-least pages n = grind (arith, find-flat_map, least-same, find-filter)

abbrev met : ℕ → ℕ → Bool → Option Pair
met i k b = if nat_lt i k then (if b then Some (pair i k) else None) else None

-- alike rows give one answer
pub first-same : (rows pages : ℕ → List ℕ) (n : ℕ) → ((i : ℕ) → i < n → rows i ≡ pages i) → first_meeting n rows ≡ first_meeting n pages
first-same rows pages n h = grind (arith, first-least, least-same)

-- LOOP BY LOOP

module _ (pages : ℕ → List ℕ) (n i : ℕ) where
  -- window i meets none of those above it and below k; no window below i meets one above it
  abbrev pub NoneBelow : ℕ → Type 0
  NoneBelow k = least (meeting_with pages i) k ≡ None

  abbrev pub NoneBefore : Type 0
  NoneBefore = least (meeting_of n pages) i ≡ None

  -- nothing is found with itself and with those below
  not-above : (k : ℕ) → k ≤ i → meeting_with pages i k ≡ None
  not-above k h = rw (le-ltb i k h) refl

  pub none-start : (k : ℕ) → k ≤ i + 1 → NoneBelow k
  none-start zero h = least-zero (meeting_with pages i)
  none-start (suc k) h =
      let low : k ≤ i = omega arith in
      let one : k + 1 ≡ suc k = omega arith in rw one at (least-none (meeting_with pages i) k (none-start k (omega arith)) (not-above k low))

  pub none-more : (k : ℕ) → NoneBelow k → meet (pages i) (pages k) ≡ false → NoneBelow (k + 1)
  none-more k h e = grind (arith, least-none)

  pub pair-found : (k : ℕ) → NoneBefore → NoneBelow k → i < k → k < n → meet (pages i) (pages k) ≡ true → Some (pair i k) ≡ first_meeting n pages
  pair-found k before h l m e = grind (arith, first-least, least-some)

  pub before-more : (k : ℕ) → NoneBefore → NoneBelow k → k ≡ n → least (meeting_of n pages) (i + 1) ≡ None
  before-more k before h e = least-none (meeting_of n pages) i before (rw e at h)

  pub none-found : NoneBefore → i ≡ n → None ≡ first_meeting n pages
  none-found before e = sym (first-least pages n ∙ rw e at before)
