-- The first of a row of things that passes a test, and the first that a list's members give.
use Rattle.std.specs.Prelude.{◌≡◌, refl, ℕ, zero, suc, ◌+◌, ◌<◌, Bool, true, false, List, [], ◌∷◌, Option, Some, None, find, is_some, slice_get, slice_index}
use Rattle.std.specs.List.{position_or_len}
use Rattle.std.proofs.Common.{arith}
use Rattle.std.proofs.lemmas.List.Sums.{fails_before_first}
use Rattle.std.proofs.lemmas.Option.{get_or_from_slice_get}
use Rattle.word.specs.Tables.{table}
use Rattle.flip.specs.Flip.{find_map}

module _ {A : Type 0} (p : A → Bool) where
  -- none before it passes, and it does
  pub find-here : (n : ℕ) (g : ℕ → A) (k : ℕ) → k < n → ((i : ℕ) → i < k → p (g i) ≡ false) → p (g k) ≡ true → find p (table n g) ≡ Some (g k)
  unfolding table
  find-here zero g k l b h = absurd (omega arith)
  find-here (suc n) g zero l b h = grind arith
  find-here (suc n) g (suc k) l b h = grind (arith, b 0, find-here n (λ i. g (suc i)) k (omega arith) (λ i m. b (suc i) (omega arith)) h)

  -- none passes
  pub find-nowhere : (n : ℕ) (g : ℕ → A) → ((i : ℕ) → i < n → p (g i) ≡ false) → find p (table n g) ≡ None
  unfolding table
  find-nowhere zero g b = refl
  find-nowhere (suc n) g b = grind (arith, b 0, find-nowhere n (λ i. g (suc i)) (λ i m. b (suc i) (omega arith)))

  pub find-none : (n : ℕ) (g : ℕ → A) → find p (table n g) ≡ None → (i : ℕ) → i < n → p (g i) ≡ false
  unfolding table
  find-none zero g e i l = absurd (omega arith)
  find-none (suc n) g e zero l = grind arith
  find-none (suc n) g e (suc i) l = grind (arith, find-none n (λ i. g (suc i)))

  -- what is found passes, is one of them, and none before it passes
  pub found-passes : (n : ℕ) (g : ℕ → A) (x : A) → find p (table n g) ≡ Some x → p x ≡ true
  unfolding table
  found-passes zero g x e = cc
  found-passes (suc n) g x e = grind (arith, found-passes n (λ i. g (suc i)) x)

  pub found-all : (P : A → Type 0) (n : ℕ) (g : ℕ → A) (x : A) → ((i : ℕ) → i < n → P (g i)) → find p (table n g) ≡ Some x → P x
  unfolding table
  found-all P zero g x h e = cc
  found-all P (suc n) g x h e = grind (arith, h 0, found-all P n (λ i. g (suc i)) x (λ i l. h (suc i) (omega arith)))

  pub found-before : (place : A → ℕ) (n o : ℕ) (g : ℕ → A) (x : A) → ((i : ℕ) → place (g i) ≡ o + i) → find p (table n g) ≡ Some x
      → (i : ℕ) → o + i < place x → p (g i) ≡ false
  unfolding table
  found-before place zero o g x k e i l = cc
  found-before place (suc n) o g x k e zero l = grind (arith, k 0)
  found-before place (suc n) o g x k e (suc i) l = grind (arith, k 0, found-before place n (suc o) (λ i. g (suc i)) x (λ i. omega (arith, k (suc i))))

-- THE FIRST THAT A LIST'S MEMBERS GIVE

module _ {B : Type 0} (f : ℕ → Option B) where
  -- its place
  abbrev pub place : List ℕ → ℕ
  place xs = position_or_len (λ x. is_some (f x)) xs

  pub first-gives : (xs : List ℕ) (y : B) → find_map f xs ≡ Some y → f (slice_index xs (place xs)) ≡ Some y
  first-gives [] y e = cc
  first-gives (x ∷ xs) y e = grind (arith, first-gives xs)

  pub first-stands : (xs : List ℕ) (y : B) → find_map f xs ≡ Some y → slice_get xs (place xs) ≡ Some (slice_index xs (place xs))
  first-stands [] y e = cc
  first-stands (x ∷ xs) y e = grind (arith, first-stands xs)

  pub first-before : (xs : List ℕ) (k z : ℕ) → k < place xs → slice_get xs k ≡ Some z → f z ≡ None
  first-before xs k z l s = grind (arith, get_or_from_slice_get xs k z 0 s, fails_before_first (λ x. is_some (f x)) xs k 0 l)
