-- Every right list is written from its windows.
use Rattle.std.specs.Prelude.{◌≡◌, refl, ℕ, zero, suc, ◌+◌, ◌*◌, ◌/◌, ◌%◌, ◌<◌, ◌≤◌, List, ◌++◌, length, take, drop, slice_index, Ok}
use Rattle.std.proofs.Common.{sym, ap, ap₂, ◌∙◌, add-one, drop-cons, arith}
use Rattle.std.proofs.Math.Seq.{take-add}
use Rattle.std.proofs.lemmas.List.{take_all, drop-drop}
use Rattle.word.specs.Ram.{little_endian, bytes_of}
use Rattle.word.specs.Tables.{table, table-length}
use Rattle.windows.specs.List.{count_of, window_at, list_of}
use Rattle.windows.specs.Right.{RightList, bytes_of_windows}
use Rattle.windows.specs.declared.list.Window.{Window}
use Rattle.windows.proofs.Encoding.{chunks}
use Rattle.windows.proofs.RightLaws.{read-right}

module _ (bytes : List ℕ) (small : (k : ℕ) → slice_index bytes k < 256) where
  -- the bytes of a value that is read are those that were read
  bytes-of-le : (n at : ℕ) → at + n ≤ length bytes → bytes_of n (little_endian bytes n at) ≡ take n (drop at bytes)
  unfolding little_endian bytes_of
  bytes-of-le zero at h = refl
  bytes-of-le (suc n) at h =
      let x = small at in
      let low : (little_endian bytes n (at + 1) * 256 + slice_index bytes at) % 256 ≡ slice_index bytes at = omega arith in
      let high : (little_endian bytes n (at + 1) * 256 + slice_index bytes at) / 256 ≡ little_endian bytes n (at + 1) = omega arith in
      rw (low, high, drop-cons bytes at 0 (omega arith), bytes-of-le n (at + 1) (omega arith), add-one at) refl

  -- values that stand side by side, written one after the other
  chunk-table : (m : ℕ) (value : Window → ℕ) (c : ℕ) (g : ℕ → Window) (a : ℕ)
      → ((i : ℕ) → i < c → value (g i) ≡ little_endian bytes m (a + m * i)) → a + m * c ≤ length bytes
      → chunks m value (table c g) ≡ take (m * c) (drop a bytes)
  unfolding table
  chunk-table m value zero g a h l = let none : m * 0 ≡ 0 = omega arith in rw none refl
  chunk-table m value (suc c) g a h l =
      let here : a + m * 0 ≡ a = omega arith in
      let more : m * suc c ≡ m + m * c = grind arith in
      let first : bytes_of m (value (g 0)) ≡ take m (drop a bytes) = ap (bytes_of m) (rw here at (h 0 (omega arith))) ∙ bytes-of-le m a (omega arith) in
      ap₂ (λ (xs ys : List ℕ). xs ++ ys) first
      (chunk-table m value c (λ i. g (suc i)) (a + m) (λ i k. h (suc i) (omega arith) ∙ ap (little_endian bytes m) (grind arith)) (omega arith))
      ∙ ap (λ (ys : List ℕ). take m (drop a bytes) ++ take (m * c) ys) (sym (drop-drop m a bytes))
      ∙ sym (ap (λ (k : ℕ). take k (drop a bytes)) more ∙ take-add m (m * c) (drop a bytes))

  abbrev n : ℕ
  n = count_of bytes

  whole : RightList bytes → bytes_of_windows (table n (window_at bytes n)) ≡ bytes
  unfolding bytes_of_windows
  whole h =
      ap₂ (λ (xs ys : List ℕ). xs ++ ys)
      (ap (bytes_of 2) (table-length n (window_at bytes n)) ∙ bytes-of-le 2 0 (let b = h.begun in omega arith))
      (ap₂ (λ (xs ys : List ℕ). xs ++ ys)
      (chunk-table 8 (λ w. w.start) n (window_at bytes n) 2 (λ i l. refl) (let b = h.long in omega arith))
      (chunk-table 2 (λ w. w.pages) n (window_at bytes n) (2 + 8 * n) (λ i l. refl) (let b = h.long in omega arith))
      ∙ ap (λ (ys : List ℕ). take (8 * n) (drop 2 bytes) ++ take (2 * n) ys) (sym (drop-drop (8 * n) 2 bytes))
      ∙ sym (take-add (8 * n) (2 * n) (drop 2 bytes)))
      ∙ sym (take-add 2 (8 * n + 2 * n) bytes) ∙ take_all (2 + (8 * n + 2 * n)) bytes (let b = h.long in omega arith)

  pub read-written : (ws : List Window) → list_of bytes ≡ Ok ws → bytes ≡ bytes_of_windows ws
  read-written ws h = let r = read-right bytes ws h in sym (ap bytes_of_windows r.1 ∙ whole r.0)
