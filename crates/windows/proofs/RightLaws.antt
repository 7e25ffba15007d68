-- A list is read just where it is right, and what a reason says is true.
use Rattle.std.specs.Prelude.{◌≡◌, ◌≢◌, refl, ℕ, ◌+◌, ◌*◌, ◌%◌, ◌^◌, ◌<◌, ◌≤◌, ◌⊎◌, List, Some, None, Ok, Err}
use Rattle.std.proofs.Common.{sym, ◌∙◌, arith}
use Rattle.word.specs.Tables.{table}
use Rattle.windows.specs.Window.{first_in}
use Rattle.windows.specs.List.{count_of, window_at, wrong_of, wrongs, list_of, Counted}
use Rattle.windows.specs.Right.{RightWindow, RightList, RightBefore, Told}
use Rattle.windows.specs.declared.list.{Window.Window, Malformed.Malformed}
use Rattle.windows.specs.declared.list.Malformed.TheVariants.{Length, Count, Start, Pages, End}
use Rattle.windows.proofs.First.{least, least-clear, first-filter_map}
use Rattle.windows.proofs.Decoding.{wrong_at, counted-list}
use Rattle.windows.proofs.Meaning.{all-none, found-at}

-- A WINDOW

pub right-none : (i : ℕ) (w : Window) → RightWindow w → wrong_of i w ≡ None
right-none i w h = grind arith

pub none-right : (i : ℕ) (w : Window) → wrong_of i w ≡ None → RightWindow w
none-right i w h = grind arith

-- what a window's own reason says
abbrev Wrong : ℕ → Window → Malformed → Type 0
Wrong i w Length = ⊥
Wrong i w Count = ⊥
Wrong i w (Start k) = (k ≡ i) × (w.start % 4096 ≢ 0)
Wrong i w (Pages k) = (k ≡ i) × (w.start % 4096 ≡ 0) × ((w.pages ≡ 0) ⊎ (16 < w.pages))
Wrong i w (End k) = (k ≡ i) × (w.start % 4096 ≡ 0) × (1 ≤ w.pages) × (w.pages ≤ 16) × (2 ^ 64 < w.start + 4096 * w.pages)

wrong-says : (i : ℕ) (w : Window) (why : Malformed) → wrong_of i w ≡ Some why → Wrong i w why
wrong-says i w why h = grind arith

module _ (bytes : List ℕ) where
  abbrev n : ℕ
  n = count_of bytes

  -- A LIST THAT IS RIGHT

  counted-right : RightList bytes → Counted bytes n
  counted-right h = record { counts = refl; few = h.few; long = h.long }

  all-right : RightList bytes → least (wrong_at bytes n) n ≡ None
  all-right h = grind (arith, least-clear, right-none)

  pub right-read : RightList bytes → list_of bytes ≡ Ok (table n (window_at bytes n))
  right-read h =
      let first : first_in (wrongs bytes n) ≡ None = first-filter_map (wrong_at bytes n) n (λ k. k) ∙ all-right h in
      counted-list bytes n (counted-right h) ∙ rw first refl

  -- the windows before one are right where none is wrong
  right-before : (i : ℕ) → ((k : ℕ) → k < i → wrong_at bytes n k ≡ None) → (k : ℕ) → k < i → RightWindow (window_at bytes n k)
  right-before i h k l = none-right k (window_at bytes n k) (h k l)

  first-wrong : first_in (wrongs bytes n) ≡ least (wrong_at bytes n) n
  first-wrong = first-filter_map (wrong_at bytes n) n (λ k. k)

  pub read-right : (ws : List Window) → list_of bytes ≡ Ok ws → RightList bytes × (ws ≡ table n (window_at bytes n))
  unfolding list_of
  read-right ws h =
      let none : first_in (wrongs bytes n) ≡ None = grind arith in
      (record { begun = grind arith; few = grind arith; long = grind arith; right = right-before n (all-none (wrong_at bytes n) n (sym first-wrong ∙ none)) }, grind arith)

  by-window : (why : Malformed) → Counted bytes n → first_in (wrongs bytes n) ≡ Some why → (i : ℕ) × (RightBefore bytes i × Wrong i (window_at bytes n i) why)
  by-window why c is =
      let o = found-at (wrong_at bytes n) n why (sym first-wrong ∙ is) in
      (o.at, (record { counted = c; listed = o.low; right = right-before o.at o.before }, wrong-says o.at (window_at bytes n o.at) why o.is))

  pub wrong-told : (why : Malformed) → list_of bytes ≡ Err why → Told bytes why
  unfolding list_of
  wrong-told Length h = grind (arith, by-window Length)
  wrong-told Count h = grind (arith, by-window Count)
  wrong-told (Start k) h = let w = by-window (Start k) (grind arith) (grind arith) in rw (w.1.1.0) (w.1.0, w.1.1.1)
  wrong-told (Pages k) h = let w = by-window (Pages k) (grind arith) (grind arith) in rw (w.1.1.0) (w.1.0, w.1.1.1, w.1.1.2)
  wrong-told (End k) h = let w = by-window (End k) (grind arith) (grind arith) in rw (w.1.1.0) (w.1.0, w.1.1.1, w.1.1.2, w.1.1.3, w.1.1.4)
