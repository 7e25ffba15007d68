-- What an answer says of pages and windows.
use Rattle.std.specs.Prelude.{◌≡◌, refl, ℕ, zero, suc, ◌/◌, ◌<◌, ◌≤◌, ◌⊎◌, ◌==◌, Bool, true, false, List, length, Option, Some, None, Ok, Err, filter_map}
use Rattle.std.specs.List.{list_any, cons_option}
use Rattle.std.proofs.Common.{sym, ap, ◌∙◌, subst, inl, inr, arith}
use borrow.Author.Tests.{eqb-true, eq-eqb}
use Rattle.word.specs.Tables.{table}
use Rattle.sysreg.specs.declared.regs.Control.{Control}
use Rattle.fault.specs.declared.Fault.{Fault}
use Rattle.tlb.specs.Answers.{Answer}
use Rattle.windows.specs.Window.{window, below, first_in}
use Rattle.windows.specs.Pages.{fault_in, frame_in, frames_at, faults_at}
use Rattle.windows.specs.Pairs.{pair, meet, first_meeting}
use Rattle.windows.specs.Windows.{Found, unless_fault, found_in}
use Rattle.windows.specs.Laws.{IsPage, Earlier, answer_at, Shared}
use Rattle.windows.specs.declared.{list.Window.Window, pages.PageFault.PageFault, Pair.Pair}
use Rattle.windows.specs.declared.WindowsError.TheVariants as Error
use Rattle.windows.proofs.First.{least, least-same, first-filter_map, first-flat_map}
use Rattle.windows.proofs.Pairing.{meeting_with, meeting_of, first-least}

-- WHAT A LEAST NUMBER SAYS

module _ {A : Type 0} where
  pub record FoundAt (f : ℕ → Option A) (n : ℕ) (a : A) : Type 0 where
    pub at : ℕ
    pub low : at < n
    pub is : f at ≡ Some a
    pub before : (k : ℕ) → k < at → f k ≡ None

  pub all-none : (f : ℕ → Option A) (n : ℕ) → least f n ≡ None → (k : ℕ) → k < n → f k ≡ None
  unfolding least
  all-none f zero h k l = grind arith
  all-none f (suc n) h k l = grind (arith, all-none f n)

  pub found-at : (f : ℕ → Option A) (n : ℕ) (a : A) → least f n ≡ Some a → FoundAt f n a
  unfolding least
  found-at f zero a h = absurd (let z : ◌≡◌ {A = Option A} None (Some a) = h in cc)
  found-at f (suc n) a h = go (least f n) refl (found-at f n a)
    where
      go : (x : Option A) → least f n ≡ x → (least f n ≡ Some a → FoundAt f n a) → FoundAt f (suc n) a
      go (Some b) is found =
          let same : ◌≡◌ {A = Option A} (Some b) (Some a) = rw is at h in
          let lower = found (is ∙ same) in record { at = lower.at; low = omega (arith, lower.low); is = lower.is; before = lower.before }
      go None is found = record { at = n; low = omega arith; is = rw is at h; before = all-none f n is }

-- FAULTS

fault-is : (i j : ℕ) (x : Answer) (e : PageFault) → fault_in i j x ≡ Some e → (x ≡ Err e.fault) × (e.window ≡ i) × (e.page ≡ j)
fault-is i j x e h = grind arith

no-fault : (i j : ℕ) (x : Answer) → fault_in i j x ≡ None → (pa : ℕ) × (x ≡ Ok pa)
no-fault i j x h = grind arith

module _ (control : Control) (level : ℕ) (memory : ℕ → Option ℕ) (ws : List Window) where
  abbrev ends : ℕ → ℕ → Answer
  ends = answer_at control level memory ws

  abbrev answer : Found
  answer = found_in control level memory ws

  abbrev fault_at : ℕ → ℕ → Option PageFault
  fault_at i j = fault_in i j (ends i j)

  -- the first fault of window i
  abbrev window_fault : ℕ → Option PageFault
  window_fault i = least (fault_at i) (window ws i).pages

  abbrev first_fault : Option PageFault
  first_fault = least window_fault (length ws)

  first-is : first_in (faults_at control level memory ws) ≡ first_fault
  first-is = grind (arith, first-flat_map, least-same, first-filter_map)

  found-is : answer ≡ unless_fault first_fault (first_meeting (length ws) (frames_at control level memory ws))
  unfolding found_in
  found-is = ap (λ (o : Option PageFault). unless_fault o (first_meeting (length ws) (frames_at control level memory ws))) first-is

  by-fault : (o : Option PageFault) (p : Option Pair) (e : PageFault) → unless_fault o p ≡ Err (Error.Page e) → o ≡ Some e
  by-fault o p e h = grind arith

  by-none : (o : Option PageFault) (p q : Option Pair) → unless_fault o p ≡ Ok q → (o ≡ None) × (p ≡ q)
  by-none o p q h = grind arith

  abbrev fault-found : (e : PageFault) → answer ≡ Err (Error.Page e) → FoundAt window_fault (length ws) e
  fault-found e h = found-at window_fault (length ws) e (by-fault _ _ e (sym found-is ∙ h))

  -- the page that is told faults so
  pub told-page : (e : PageFault) → answer ≡ Err (Error.Page e) → IsPage ws e.window e.page × (ends e.window e.page ≡ Err e.fault)
  told-page e h =
      let o = fault-found e h in
      let p = found-at (fault_at o.at) (window ws o.at).pages e o.is in
      let q = fault-is o.at p.at (ends o.at p.at) e p.is in
      (record { listed = grind (arith, q, o.low); within = grind (arith, q, p.low) }, grind (arith, q))

  -- and each before it is an address
  pub before-told : (e : PageFault) → answer ≡ Err (Error.Page e) → (i j : ℕ) → IsPage ws i j → Earlier i j e.window e.page → (pa : ℕ) × (ends i j ≡ Ok pa)
  before-told e h i j p early =
      let o = fault-found e h in
      let l = found-at (fault_at o.at) (window ws o.at).pages e o.is in
      let q = fault-is o.at l.at (ends o.at l.at) e l.is in
      let a : i < o.at → fault_at i j ≡ None = λ z. all-none (fault_at i) (window ws i).pages (o.before i z) j p.within in
      let b : i ≡ o.at → j < l.at → fault_at i j ≡ None = λ z m. rw z (l.before j m) in
      no-fault i j (ends i j) (grind (arith, a, b, q))

  -- a page that faults is told, whatever windows share pages
  pub fault-told : (i j : ℕ) (f : Fault) → IsPage ws i j → ends i j ≡ Err f → (e : PageFault) × (answer ≡ Err (Error.Page e))
  fault-told i j f p is = go first_fault refl
    where
      go : (o : Option PageFault) → first_fault ≡ o → (e : PageFault) × (answer ≡ Err (Error.Page e))
      go (Some e) o = (e, grind (arith, found-is))
      go None o =
          let none = all-none (fault_at i) (window ws i).pages (all-none window_fault (length ws) o i p.listed) j p.within in absurd (grind (arith, none))

  -- where there is an answer every page is an address
  pub all-reached : (q : Option Pair) → answer ≡ Ok q → (i j : ℕ) → IsPage ws i j → (pa : ℕ) × (ends i j ≡ Ok pa)
  all-reached q h i j p =
      let none = (by-none first_fault (first_meeting (length ws) (frames_at control level memory ws)) q (sym found-is ∙ h)).0 in
      no-fault i j (ends i j) (all-none (fault_at i) (window ws i).pages (all-none window_fault (length ws) none i p.listed) j p.within)

-- PAIRS

module _ {A : Type 0} where
  pub record Among (test : A → Bool) (g : ℕ → Option A) (n : ℕ) : Type 0 where
    pub at : ℕ
    pub low : at < n
    pub value : A
    pub is : g at ≡ Some value
    pub passes : test value ≡ true

  among-cons : (test : A → Bool) (x : Option A) (xs : List A) → list_any test (cons_option x xs) ≡ true
      → ((a : A) × (x ≡ Some a) × (test a ≡ true)) ⊎ (list_any test xs ≡ true)
  among-cons test x xs h = grind arith

  among-from : (test : A → Bool) (n : ℕ) (g : ℕ → Option A) (h : ℕ → ℕ) → list_any test (filter_map g (table n h)) ≡ true → Among test (λ i. g (h i)) n
  unfolding table
  among-from test zero g h e = absurd (let z : false ≡ true = e in cc)
  among-from test (suc n) g h e =
      elim (among-cons test (g (h 0)) (filter_map g (table n (λ i. h (suc i)))) e) [
        | inl a ↦ record { at = 0; low = omega arith; value = a.0; is = a.1; passes = a.2 }
        | inr b ↦
            let l = among-from test n g (λ i. h (suc i)) b in
            record { at = suc l.at; low = (let m = l.low in omega arith); value = l.value; is = l.is; passes = l.passes }
      ]

  among-to : (test : A → Bool) (n : ℕ) (g : ℕ → Option A) (h : ℕ → ℕ) (i : ℕ) (a : A) → i < n → g (h i) ≡ Some a → test a ≡ true
      → list_any test (filter_map g (table n h)) ≡ true
  unfolding table
  among-to test zero g h i a l is e = absurd (omega arith)
  among-to test (suc n) g h zero a l is e = grind arith
  among-to test (suc n) g h (suc i) a l is e = grind (arith, among-to test n g (λ j. h (suc j)) i a)

frame-is : (x : Answer) (n : ℕ) → frame_in x ≡ Some n → (pa : ℕ) × (x ≡ Ok pa) × (pa / 4096 ≡ n)
frame-is x n h = grind arith

module _ (control : Control) (level : ℕ) (memory : ℕ → Option ℕ) (ws : List Window) where
  abbrev page_of : ℕ → ℕ → Option ℕ
  page_of i j = frame_in (answer_at control level memory ws i j)

  abbrev pages : ℕ → List ℕ
  pages = frames_at control level memory ws

  abbrev shares : ℕ → ℕ → Type 0
  shares = Shared control level memory ws

  abbrev is_in : List ℕ → ℕ → Bool
  is_in b x = list_any (λ y. x == y) b

  shared-from : (i k : ℕ) → i < length ws → k < length ws → meet (pages i) (pages k) ≡ true → shares i k
  shared-from i k l m h =
      let a = among-from (is_in (pages k)) (window ws i).pages (page_of i) (λ j. j) h in
      let b = among-from (λ y. a.value == y) (window ws k).pages (page_of k) (λ j. j) a.passes in
      let p = frame-is (answer_at control level memory ws i a.at) a.value a.is in
      let q = frame-is (answer_at control level memory ws k b.at) b.value b.is in
      record {
        page = a.at;
        other = b.at;
        pa = p.0;
        pb = q.0;
        first = record { listed = l; within = a.low };
        second = record { listed = m; within = b.low };
        reached = p.1;
        other_reached = q.1;
        same = p.2 ∙ eqb-true a.value b.value b.passes ∙ sym q.2;
      }

  shared-to : (i k : ℕ) → shares i k → meet (pages i) (pages k) ≡ true
  shared-to i k h =
      among-to (is_in (pages k)) (window ws i).pages (page_of i) (λ j. j) h.page (h.pa / 4096) h.first.within (ap frame_in h.reached)
      (among-to (λ y. h.pa / 4096 == y) (window ws k).pages (page_of k) (λ j. j) h.other (h.pb / 4096) h.second.within (ap frame_in h.other_reached)
      (eq-eqb (h.pa / 4096) (h.pb / 4096) h.same))

  abbrev pair-search : Option Pair
  pair-search = least (meeting_of (length ws) pages) (length ws)

  search-is : (q : Option Pair) → found_in control level memory ws ≡ Ok q → pair-search ≡ q
  search-is q h = grind (arith, first-least, by-none, found-is)

  pass-is : (i k : ℕ) (p : Pair) → meeting_with pages i k ≡ Some p → (i < k) × (meet (pages i) (pages k) ≡ true) × (pair i k ≡ p)
  pass-is i k p h = grind arith

  pass-none : (i k : ℕ) → meeting_with pages i k ≡ None → i < k → shares i k → ⊥
  pass-none i k h l s = grind (arith, shared-to i k s)

  -- the pair that is told has a lower and a higher number, and shares a physical page
  pub told-pair : (p : Pair) → found_in control level memory ws ≡ Ok (Some p) → (p.first < p.second) × (p.second < length ws) × shares p.first p.second
  told-pair p h =
      let o = found-at (meeting_of (length ws) pages) (length ws) p (search-is (Some p) h) in
      let l = found-at (meeting_with pages o.at) (length ws) p o.is in
      let q = pass-is o.at l.at p l.is in
      subst (λ (r : Pair). (r.first < r.second) × (r.second < length ws) × shares r.first r.second) q.2
      (q.0, l.low, shared-from o.at l.at o.low l.low q.1)

  -- and none before it, by lower number and then by higher, shares one
  pub least-pair : (p : Pair) → found_in control level memory ws ≡ Ok (Some p) → (i k : ℕ) → i < k → k < length ws → shares i k
      → (p.first < i) ⊎ ((p.first ≡ i) × (p.second ≤ k))
  least-pair p h i k below m s =
      let o = found-at (meeting_of (length ws) pages) (length ws) p (search-is (Some p) h) in
      let l = found-at (meeting_with pages o.at) (length ws) p o.is in
      let q = pass-is o.at l.at p l.is in
      let sooner : i < o.at → ⊥ = λ z. pass-none i k (all-none (meeting_with pages i) (length ws) (o.before i z) k m) below s in
      let later : i ≡ o.at → k < l.at → ⊥ = λ z n. pass-none i k (rw z (l.before k n)) below s in
      grind (arith, q, sooner, later)

  pub none-share : found_in control level memory ws ≡ Ok None → (i k : ℕ) → i < k → k < length ws → shares i k → ⊥
  none-share h i k l m s =
      pass-none i k
      (all-none (meeting_with pages i) (length ws) (all-none (meeting_of (length ws) pages) (length ws) (search-is None h) i (omega arith)) k m) l s

  -- pages that repeat only inside windows leave the windows apart
  pub apart-if : ((i j : ℕ) → IsPage ws i j → (pa : ℕ) × (answer_at control level memory ws i j ≡ Ok pa))
      → ((i k : ℕ) → i < k → k < length ws → shares i k → ⊥) → found_in control level memory ws ≡ Ok None
  apart-if reached apart = go (found_in control level memory ws) refl
    where
      go : (x : Found) → found_in control level memory ws ≡ x → found_in control level memory ws ≡ Ok None
      go (Ok None) e = e
      go (Ok (Some p)) e = let t = told-pair p e in absurd (apart p.first p.second t.0 t.1 t.2)
      go (Err (Error.Page e)) h =
          let t = told-page control level memory ws e h in let r = reached e.window e.page t.0 in absurd (grind (arith, t, r))
      go (Err (Error.Check c)) h = absurd (grind (arith, found-is control level memory ws))
      go (Err (Error.List w)) h = absurd (grind (arith, found-is control level memory ws))
