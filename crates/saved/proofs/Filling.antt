-- A loop that fills a list place by place.
use Rattle.std.specs.Prelude.{◌≡◌, ◌≢◌, ℕ, zero, suc, ◌+◌, ◌<◌, ◌≤◌, List, [], ◌∷◌, length, slice_index_or, slice_set}
use Rattle.std.proofs.Math.Path.{refl, ap}
use Rattle.std.proofs.Common.{Bool, true, false, ◌∙◌, arith, suc-le-suc, zero-lt-suc, nat_eq, eqb-true}
use Rattle.std.proofs.lemmas.Bool.{eqb-false}
use Rattle.std.proofs.lemmas.List.{get_or-set_same, get_or-set_other, length-set}
use Rattle.word.specs.Tables.{table}

-- the first i of the n places of xs are f's
pub record Filled {A : Type 0} (f : ℕ → A) (n i : ℕ) (xs : List A) : Type 0 where
  pub long : length xs ≡ n
  pub at : (k : ℕ) (d : A) → k < i → slice_index_or xs k d ≡ f k

-- a list that is f's at each place is the table of f
pub table_is : {A : Type 0} (f : ℕ → A) (n : ℕ) (xs : List A) → length xs ≡ n → ((k : ℕ) (d : A) → k < n → slice_index_or xs k d ≡ f k) → xs ≡ table n f
unfolding table
table_is f zero [] l h = refl
table_is f zero (x ∷ xs) l h = absurd (omega (arith, l))
table_is f (suc n) [] l h = absurd (omega (arith, l))
table_is f (suc n) (x ∷ xs) l h =
    ap (λ y. y ∷ xs) (h zero x (zero-lt-suc n))
    ∙ ap (λ ys. f zero ∷ ys) (table_is (λ k. f (suc k)) n xs (omega (arith, l)) (λ k d lt. h (suc k) d (suc-le-suc lt)))

module _ {A : Type 0} (f : ℕ → A) (n : ℕ) where
  pub filled_start : (xs : List A) → length xs ≡ n → Filled f n 0 xs
  filled_start xs l = record { long = l; at = λ k d h. absurd (omega arith) }

  pub filled_on : (i : ℕ) (xs : List A) (v : A) → Filled f n i xs → i < n → v ≡ f i → Filled f n (i + 1) (slice_set xs i v)
  filled_on i xs v m h e = record { long = length-set xs i v ∙ m.long; at = λ k d q. go k d q (nat_eq k i) refl }
    where
      go : (k : ℕ) (d : A) → k < i + 1 → (b : Bool) → nat_eq k i ≡ b → slice_index_or (slice_set xs i v) k d ≡ f k
      go k d q true t = let same : k ≡ i = eqb-true k i t in rw same (get_or-set_same xs i v d (rw m.long h) ∙ e)
      go k d q false t = let other : k ≢ i = eqb-false k i t in get_or-set_other xs i k v d other ∙ m.at k d (omega (arith, other))

  pub filled_end : (i : ℕ) (xs : List A) → n ≤ i → Filled f n i xs → xs ≡ table n f
  filled_end i xs h m = table_is f n xs m.long (λ k d q. m.at k d (omega arith))
