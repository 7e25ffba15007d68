-- The windows of a list decoded one by one, on plain values.
use Rattle.std.specs.Prelude.{◌≡◌, refl, ℕ, ◌+◌, ◌*◌, ◌^◌, ◌<◌, ◌≤◌, List, length, take, replicate, EachIndex}
use Rattle.std.specs.Prelude.{Option, Some, None, Ok, Err, slice_set}
use Rattle.std.proofs.Common.{rules, sym, ap, ◌∙◌, add-one, length-set, arith}
use Rattle.std.proofs.Math.Seq.{take-suc-set}
use Rattle.std.proofs.Math.ListN.{get_or-replicate}
use Rattle.word.specs.Tables.{table}
use Rattle.windows.specs.Window.{window, none, first_in}
use Rattle.windows.specs.List.{window_at, wrong_of, wrongs, unless, list_of, Counted}
use Rattle.windows.specs.declared.list.{Window.Window, Malformed.Malformed}
use Rattle.windows.proofs.First.{least, least-zero, least-none, least-some, first-filter_map, table-snoc}
use Rattle.windows.proofs.Reading.{read-none, read-some, read-fits}

-- a list as long as it has to be is right or not by its windows
pub counted-list : (bytes : List ℕ) (n : ℕ) → Counted bytes n → list_of bytes ≡ unless (first_in (wrongs bytes n)) (table n (window_at bytes n))
unfolding list_of
counted-list bytes n h = grind arith

-- a window that is right has few pages, and ends at 2^64 or before
right-short : (i : ℕ) (w : Window) → wrong_of i w ≡ None → w.pages ≤ 16
right-short i w h = grind arith

right-within : (i : ℕ) (w : Window) → wrong_of i w ≡ None → w.start + 4096 * w.pages ≤ 2 ^ 64
right-within i w h = grind arith

-- a fact of each window holds after one more that it holds of
each-set : (P : Window → Type 0) (ws : List Window) (i : ℕ) (w : Window) → EachIndex ws (λ k. P (window ws k)) → P w
    → EachIndex (slice_set ws i w) (λ k. P (window (slice_set ws i w) k))
each-set P ws i w h p k l = search rules

module _ (bytes : List ℕ) (n : ℕ) where
  abbrev pub wrong_at : ℕ → Option Malformed
  wrong_at i = wrong_of i (window_at bytes n i)

  -- no window below i is wrong, and the array begins with them
  pub record Decoded (i : ℕ) (ws : List Window) : Type 0 where
    pub right : least wrong_at i ≡ None
    pub same : take i ws ≡ table i (window_at bytes n)
    pub short : EachIndex ws (λ k. (window ws k).pages ≤ 16)
    pub within : EachIndex ws (λ k. (window ws k).start + 4096 * (window ws k).pages ≤ 2 ^ 64)
    pub long : length ws ≡ 64

  pub decoded-none : Decoded 0 (replicate 64 none)
  unfolding table
  decoded-none =
      record {
        right = least-zero wrong_at;
        same = refl;
        short = λ k l. rw (get_or-replicate 64 k none none l) (omega arith);
        within = λ k l. rw (get_or-replicate 64 k none none l) (omega arith);
        long = refl;
      }

  pub decoded-more : (i : ℕ) (ws : List Window) (w : Window) (x : Option Malformed) → Decoded i ws → i < 64 → w ≡ window_at bytes n i
      → x ≡ wrong_of i w → x ≡ None → Decoded (i + 1) (slice_set ws i w)
  decoded-more i ws w x h l w-is e x-is = search (rules, least-none, add-one, take-suc-set, table-snoc, each-set, right-short, right-within, length-set)

  pub decoded-wrong : (i : ℕ) (ws : List Window) (w : Window) (x : Option Malformed) (why : Malformed) → Counted bytes n → Decoded i ws → i < n
      → w ≡ window_at bytes n i → x ≡ wrong_of i w → x ≡ Some why → list_of bytes ≡ Err why
  decoded-wrong i ws w x why c h l w-is e x-is =
      let here : wrong_at i ≡ Some why = ap (wrong_of i) (sym w-is) ∙ sym e ∙ x-is in
      let first : first_in (wrongs bytes n) ≡ Some why = first-filter_map wrong_at n (λ k. k) ∙ least-some wrong_at i n why h.right here l in
      counted-list bytes n c ∙ rw first refl

  pub decoded-right : (i : ℕ) (ws : List Window) → Counted bytes n → Decoded i ws → i ≡ n → list_of bytes ≡ Ok (take n ws)
  decoded-right i ws c h e =
      let first : first_in (wrongs bytes n) ≡ None = first-filter_map wrong_at n (λ k. k) ∙ rw e at h.right in
      let same : take n ws ≡ table n (window_at bytes n) = rw e at h.same in
      counted-list bytes n c ∙ rw first (ap Ok (sym same))

pub ruleset counting = (read-none, read-some, read-fits)

pub ruleset decoding = (decoded-none, decoded-more, decoded-wrong, decoded-right)
