-- A list written from right windows is read as these windows.
use Rattle.std.specs.Prelude.{◌≡◌, refl, ℕ, zero, suc, ◌+◌, ◌*◌, ◌/◌, ◌%◌, ◌^◌, ◌<◌, List, [], ◌∷◌, ◌++◌, length, flat_map, Ok}
use Rattle.std.proofs.Common.{sym, ap, ap₂, ◌∙◌, append_assoc, append-nil, arith}
use Rattle.std.proofs.lemmas.List.{length-append, get_or-append-add}
use Rattle.std.proofs.Common.{pow-suc}
use Rattle.word.specs.Ram.{little_endian, bytes_of}
use Rattle.word.specs.Tables.{table, table_same}
use Rattle.word.proofs.RamLaws.{length-bytes}
use Rattle.windows.specs.Window.{window}
use Rattle.windows.specs.List.{count_of, start_at, pages_at, window_at, list_of}
use Rattle.windows.specs.Right.{RightWindow, RightWindows, RightList, bytes_of_windows}
use Rattle.windows.specs.declared.list.Window.{Window}
use Rattle.windows.proofs.RightLaws.{right-read}

-- a read past a front is a read of what follows it
le-past : (xs ys : List ℕ) (n at : ℕ) → little_endian (xs ++ ys) n (length xs + at) ≡ little_endian ys n at
unfolding little_endian
le-past xs ys zero at = refl
le-past xs ys (suc n) at =
    let next : length xs + at + 1 ≡ length xs + (at + 1) = omega arith in
    rw (next, le-past xs ys n (at + 1), get_or-append-add xs ys at 0) refl

-- the value of the bytes of a value
le-of-bytes : (n v : ℕ) (rest : List ℕ) → v < 256 ^ n → little_endian (bytes_of n v ++ rest) n 0 ≡ v
unfolding little_endian bytes_of
le-of-bytes zero v rest h = omega arith
le-of-bytes (suc n) v rest h =
    let more : v < 256 ^ n * 256 = rw (pow-suc 256 n) at h in
    let past : little_endian (v % 256 ∷ (bytes_of n (v / 256) ++ rest)) n 1 ≡ v / 256 =
    le-past (v % 256 ∷ []) (bytes_of n (v / 256) ++ rest) n 0 ∙ le-of-bytes n (v / 256) rest (omega arith) in
    omega (arith, past)

-- a value of each window, in so many bytes, one after the other
module _ (m : ℕ) (value : Window → ℕ) where
  abbrev pub chunks : List Window → List ℕ
  chunks ws = flat_map (λ w. bytes_of m (value w)) ws

  length-chunks : (ws : List Window) → length (chunks ws) ≡ m * length ws
  length-chunks [] = omega arith
  length-chunks (w ∷ ws) = grind (arith, length-append (bytes_of m (value w)) (chunks ws), length-bytes m (value w), length-chunks ws)

  chunk_at : (ws : List Window) (rest : List ℕ) (i : ℕ) → i < length ws → ((k : ℕ) → k < length ws → value (window ws k) < 256 ^ m)
      → little_endian (chunks ws ++ rest) m (m * i) ≡ value (window ws i)
  chunk_at [] rest i l h = absurd (omega arith)
  chunk_at (w ∷ ws) rest zero l h =
      let first : m * 0 ≡ 0 = omega arith in
      rw (append_assoc (bytes_of m (value w)) (chunks ws) rest, first) (le-of-bytes m (value w) (chunks ws ++ rest) (h 0 (omega arith)))
  chunk_at (w ∷ ws) rest (suc i) l h =
      let next : m * suc i ≡ length (bytes_of m (value w)) + m * i = grind (arith, length-bytes m (value w)) in
      rw (append_assoc (bytes_of m (value w)) (chunks ws) rest, next)
      (le-past (bytes_of m (value w)) (chunks ws ++ rest) m (m * i) ∙ chunk_at ws rest i (omega arith) (λ k e. h (suc k) (omega arith)))

own-table : (ws : List Window) → table (length ws) (window ws) ≡ ws
unfolding table
own-table [] = refl
own-table (w ∷ ws) = ap (λ (vs : List Window). w ∷ vs) (own-table ws)

module _ (ws : List Window) (h : RightWindows ws) where
  abbrev bytes : List ℕ
  bytes = bytes_of_windows ws

  abbrev starts : List ℕ
  starts = chunks 8 (λ w. w.start) ws

  abbrev lengths : List ℕ
  lengths = chunks 2 (λ w. w.pages) ws

  small-start : (w : Window) → RightWindow w → w.start < 256 ^ 8
  small-start w r = let a = r.some in let b = r.within in omega arith

  small-pages : (w : Window) → RightWindow w → w.pages < 256 ^ 2
  small-pages w r = let a = r.few in omega arith

  counted : count_of bytes ≡ length ws
  unfolding bytes_of_windows
  counted = le-of-bytes 2 (length ws) (starts ++ lengths) (let a = h.few in omega arith)

  start-is : (i : ℕ) → i < length ws → start_at bytes i ≡ (window ws i).start
  unfolding bytes_of_windows
  start-is i l =
      ap (little_endian bytes 8) (ap (λ (k : ℕ). k + 8 * i) (sym (length-bytes 2 (length ws))))
      ∙ le-past (bytes_of 2 (length ws)) (starts ++ lengths) 8 (8 * i)
      ∙ chunk_at 8 (λ w. w.start) ws lengths i l (λ k e. small-start (window ws k) (h.right k e))

  pages-is : (i : ℕ) → i < length ws → pages_at bytes (length ws) i ≡ (window ws i).pages
  unfolding bytes_of_windows
  pages-is i l =
      ap (little_endian bytes 2) place ∙ le-past (bytes_of 2 (length ws)) (starts ++ lengths) 2 (length starts + 2 * i)
      ∙ le-past starts lengths 2 (2 * i) ∙ ap (λ (xs : List ℕ). little_endian xs 2 (2 * i)) (sym (append-nil lengths))
      ∙ chunk_at 2 (λ w. w.pages) ws [] i l (λ k e. small-pages (window ws k) (h.right k e))
    where
      place : 2 + 8 * length ws + 2 * i ≡ length (bytes_of 2 (length ws)) + (length starts + 2 * i)
      place = omega (arith, length-bytes 2 (length ws), length-chunks 8 (λ w. w.start) ws)

  long-is : length bytes ≡ 2 + 10 * length ws
  unfolding bytes_of_windows
  long-is =
      omega (
        arith,
        length-append (bytes_of 2 (length ws)) (starts ++ lengths),
        length-bytes 2 (length ws),
        length-append starts lengths,
        length-chunks 8 (λ w. w.start) ws,
        length-chunks 2 (λ w. w.pages) ws,
      )

  window-is : (i : ℕ) → i < length ws → window_at bytes (length ws) i ≡ window ws i
  window-is i l = ap₂ (λ (a b : ℕ). record { start = a; pages = b }) (start-is i l) (pages-is i l)

  right-window : (i : ℕ) → i < count_of bytes → RightWindow (window_at bytes (count_of bytes) i)
  right-window i l =
      let low : i < length ws = rw counted at l in rw (counted, window-is i low) (h.right i low)

  written-right : RightList bytes
  written-right = record { begun = omega (arith, long-is); few = rw counted h.few; long = rw counted long-is; right = right-window }

  pub written-read : list_of bytes ≡ Ok ws
  written-read =
      right-read bytes written-right
      ∙ ap Ok
      (ap (λ (n : ℕ). table n (window_at bytes n)) counted ∙ table_same (length ws) (window_at bytes (length ws)) (window ws) window-is ∙ own-table ws)
