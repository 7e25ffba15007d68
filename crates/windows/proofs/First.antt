-- The least number below n at which something is found, and lists that go through the numbers below n.
use Rattle.std.specs.Prelude.{if◌then◌else◌, ◌≡◌, refl, ℕ, zero, suc, ◌+◌, ◌<◌, Bool, List, [], ◌∷◌, ◌++◌, map}
use Rattle.std.specs.Prelude.{Option, Some, None, filter, filter_map, flat_map, find}
use Rattle.std.specs.List.{cons_option}
use Rattle.std.proofs.Common.{sym, ap, ap₂, add-one, arith}
use Rattle.word.specs.Tables.{table}
use Rattle.windows.specs.Window.{below, first_in}

abbrev pub or_else : {A : Type 0} → Option A → Option A → Option A
or_else None y = y
or_else (Some x) y = Some x

-- what f gives at the least number below n at which it gives anything
unfoldable pub least : {A : Type 0} → (ℕ → Option A) → ℕ → Option A
least f zero = None
least f (suc n) = or_else (least f n) (f n)

module _ {A : Type 0} where
  pub least-zero : (f : ℕ → Option A) → least f 0 ≡ None
  unfolding least
  least-zero f = refl

  pub least-none : (f : ℕ → Option A) (n : ℕ) → least f n ≡ None → f n ≡ None → least f (n + 1) ≡ None
  unfolding least
  least-none f n e h = rw (add-one n, e, h) refl

  -- found at i, and at no number below it
  pub least-some : (f : ℕ → Option A) (i n : ℕ) (a : A) → least f i ≡ None → f i ≡ Some a → i < n → least f n ≡ Some a
  unfolding least
  least-some f i zero a e h l = absurd (omega arith)
  least-some f i (suc n) a e h l = grind (arith, least-some f i n a e h)

  pub least-same : (f g : ℕ → Option A) (n : ℕ) → ((i : ℕ) → i < n → f i ≡ g i) → least f n ≡ least g n
  unfolding least
  least-same f g zero h = refl
  least-same f g (suc n) h = ap₂ or_else (least-same f g n (λ i l. h i (omega arith))) (h n (omega arith))

  pub least-clear : (f : ℕ → Option A) (n : ℕ) → ((i : ℕ) → i < n → f i ≡ None) → least f n ≡ None
  unfolding least
  least-clear f zero h = refl
  least-clear f (suc n) h = grind (arith, least-clear f n (λ i l. h i (omega arith)), h n)

  least-front : (f : ℕ → Option A) (n : ℕ) → least f (suc n) ≡ or_else (f 0) (least (λ i. f (suc i)) n)
  unfolding least
  least-front f zero = grind arith
  least-front f (suc n) = grind (arith, least-front f n)

  -- THE FIRST OF A LIST

  first-append : (xs ys : List A) → first_in (xs ++ ys) ≡ or_else (first_in xs) (first_in ys)
  first-append xs ys = grind arith

  first-cons : (x : Option A) (xs : List A) → first_in (cons_option x xs) ≡ or_else x (first_in xs)
  first-cons x xs = grind arith

  find-append : (p : A → Bool) (xs ys : List A) → find p (xs ++ ys) ≡ or_else (find p xs) (find p ys)
  find-append p [] ys = refl
  find-append p (x ∷ xs) ys = grind (arith, find-append p xs ys)

module _ {A B : Type 0} where
  pub first-filter_map : (f : A → Option B) (n : ℕ) (g : ℕ → A) → first_in (filter_map f (table n g)) ≡ least (λ i. f (g i)) n
  unfolding table
  first-filter_map f zero g = sym (least-zero (λ i. f (g i)))
  first-filter_map f (suc n) g = grind (arith, first-cons, first-filter_map f n (λ i. g (suc i)), least-front (λ i. f (g i)) n)

  pub first-flat_map : (f : A → List B) (n : ℕ) (g : ℕ → A) → first_in (flat_map f (table n g)) ≡ least (λ i. first_in (f (g i))) n
  unfolding table
  first-flat_map f zero g = sym (least-zero (λ i. first_in (f (g i))))
  first-flat_map f (suc n) g = grind (arith, first-append, first-flat_map f n (λ i. g (suc i)), least-front (λ i. first_in (f (g i))) n)

  pub find-flat_map : (p : B → Bool) (f : A → List B) (n : ℕ) (g : ℕ → A) → find p (flat_map f (table n g)) ≡ least (λ i. find p (f (g i))) n
  unfolding table
  find-flat_map p f zero g = sym (least-zero (λ i. find p (f (g i))))
  find-flat_map p f (suc n) g = grind (arith, find-append, find-flat_map p f n (λ i. g (suc i)), least-front (λ i. find p (f (g i))) n)

  -- of those that pass q, the first whose h passes p
  abbrev pub passing : (A → Bool) → (B → Bool) → (A → B) → A → Option B
  passing q p h x = if q x then (if p (h x) then Some (h x) else None) else None

  find-cons : (q : A → Bool) (p : B → Bool) (h : A → B) (x : A) (xs : List A)
      → find p (map h (filter q (x ∷ xs))) ≡ or_else (passing q p h x) (find p (map h (filter q xs)))
  find-cons q p h x xs = grind arith

  pub find-filter : (q : A → Bool) (p : B → Bool) (h : A → B) (n : ℕ) (g : ℕ → A)
      → find p (map h (filter q (table n g))) ≡ least (λ i. passing q p h (g i)) n
  unfolding table
  find-filter q p h zero g = sym (least-zero (λ i. passing q p h (g i)))
  find-filter q p h (suc n) g = grind (arith, find-cons, find-filter q p h n (λ i. g (suc i)), least-front (λ i. passing q p h (g i)) n)

-- ONE NUMBER MORE

module _ {A : Type 0} where
  pub table-snoc : (n : ℕ) (g : ℕ → A) → table (suc n) g ≡ table n g ++ (g n ∷ [])
  unfolding table
  table-snoc zero g = refl
  table-snoc (suc n) g = ap (λ (l : List A). g 0 ∷ l) (table-snoc n (λ i. g (suc i)))

filter_map-snoc : {A B : Type 0} (f : A → Option B) (xs : List A) (x : A) → filter_map f (xs ++ (x ∷ [])) ≡ filter_map f xs ++ cons_option (f x) []
filter_map-snoc f [] x = refl
filter_map-snoc f (y ∷ xs) x = grind (arith, filter_map-snoc f xs x)

pub below-more : {B : Type 0} (f : ℕ → Option B) (n : ℕ) → filter_map f (below (n + 1)) ≡ filter_map f (below n) ++ cons_option (f n) []
below-more f n = rw (add-one n, table-snoc n (λ i. i)) (filter_map-snoc f (below n) n)

pub below-none : {B : Type 0} (f : ℕ → Option B) → filter_map f (below 0) ≡ []
unfolding table
below-none f = refl
