-- Lists given by what stands at each place.
use Rattle.std.specs.Prelude.{◌≡◌, ℕ, zero, suc, ◌<◌, ◌≤◌, List, [], ◌∷◌, length, ◌≢◌, slice_index_or, slice_set}
use Rattle.std.proofs.Math.Path.{refl, ap}
use Rattle.std.proofs.Common.{suc-le-suc, not-suc-le-zero, le_of_suc-le-suc, arith}
use Rattle.std.proofs.Math.Nat.{suc_inj, suc-ne-zero}

unfoldable pub table : {A : Type 0} → ℕ → (ℕ → A) → List A
table zero f = []
table (suc n) f = f zero ∷ table n (λ i. f (suc i))

module _ {A : Type 0} where
  pub table_at : (n : ℕ) (f : ℕ → A) (i : ℕ) (d : A) → i < n → slice_index_or (table n f) i d ≡ f i
  unfolding table
  table_at zero f i d h = absurd (not-suc-le-zero h)
  table_at (suc n) f zero d h = refl
  table_at (suc n) f (suc i) d h = table_at n (λ k. f (suc k)) i d (le_of_suc-le-suc h)

  pub table-past : (n : ℕ) (f : ℕ → A) (i : ℕ) (d : A) → n ≤ i → slice_index_or (table n f) i d ≡ d
  unfolding table
  table-past zero f i d h = refl
  table-past (suc n) f zero d h = absurd (not-suc-le-zero h)
  table-past (suc n) f (suc i) d h = table-past n (λ k. f (suc k)) i d (le_of_suc-le-suc h)

  -- alike at each place
  pub table_same : (n : ℕ) (f g : ℕ → A) → ((i : ℕ) → i < n → f i ≡ g i) → table n f ≡ table n g
  unfolding table
  table_same zero f g h = refl
  table_same (suc n) f g h = grind (arith, h zero, table_same n (λ i. f (suc i)) (λ i. g (suc i)) (λ i k. h (suc i) (suc-le-suc k)))

  -- alike but at one place
  pub table-set : (n : ℕ) (f g : ℕ → A) (i : ℕ) → i < n → ((j : ℕ) → j < n → (j ≢ i) → g j ≡ f j) → table n g ≡ slice_set (table n f) i (g i)
  unfolding table
  table-set zero f g i h o = absurd (not-suc-le-zero h)
  table-set (suc n) f g zero h o = grind (arith, table_same n (λ j. g (suc j)) (λ j. f (suc j)) (λ j k. o (suc j) (suc-le-suc k) (suc-ne-zero j)))
  table-set (suc n) f g (suc i) h o =
      grind (arith, o zero, table-set n (λ j. f (suc j)) (λ j. g (suc j)) i (le_of_suc-le-suc h) (λ j k ne. o (suc j) (suc-le-suc k) (λ e. ne (suc_inj e))))

  pub table-length : (n : ℕ) (f : ℕ → A) → length (table n f) ≡ n
  unfolding table
  table-length zero f = refl
  table-length (suc n) f = ap suc (table-length n (λ i. f (suc i)))
