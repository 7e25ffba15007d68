-- The number and the words of windows, in numbers.
use Rattle.std.specs.Prelude.{◌≡◌, ℕ, List, [], ◌∷◌, ◌++◌}
use Rattle.word.specs.Ram.{bytes_of}
use Rattle.cpu.specs.Cases.{at}
use Rattle.windows.specs.Windows.{Found}
use Rattle.core_calls.specs.Windows.{found_number, found_words, windows_in}

-- the number and then the words, which were 7, 8 and 9
abbrev told : Found → List ℕ
told found = found_number found ∷ found_words found (7 ∷ 8 ∷ 9 ∷ [])

-- a list of three windows: all first addresses, then all lengths
abbrev three : ℕ → ℕ → ℕ → ℕ → ℕ → ℕ → List ℕ
three start0 start1 start2 pages0 pages1 pages2 =
    bytes_of 2 3 ++ (bytes_of 8 start0 ++ (bytes_of 8 start1 ++ (bytes_of 8 start2 ++ (bytes_of 2 pages0 ++ (bytes_of 2 pages1 ++ bytes_of 2 pages2)))))

-- A table of 1 GiB blocks at 0x1000, of which RAM holds one word: 0x40000000 to 0x7FFFFFFF lie in a block at 0x80000000, and of the addresses behind
-- them the word lies outside RAM. At EL1, or at another level.
abbrev row : ℕ → ℕ → List ℕ → List ℕ
row level base bytes = told (windows_in (at level 0x1000) base (bytes_of 8 0x80000401) bytes)

pub record WindowsRows : Type 0 where
  -- the second window lies in the third
  pub shared : row 1 0x1008 (three 0x40008000 0x40003000 0x40001000 1 1 3) ≡ (0 ∷ 1 ∷ 1 ∷ 2 ∷ [])
  pub apart : row 1 0x1008 (three 0x40008000 0x40004000 0x40001000 1 1 3) ≡ (0 ∷ 0 ∷ 0 ∷ 0 ∷ [])
  -- the third page of the second window, though the first window is the third
  pub faults : row 1 0x1008 (three 0x40001000 0x7FFFE000 0x40001000 1 3 1) ≡ (10 ∷ 1 ∷ 2 ∷ 0x15 ∷ [])
  -- a window that does not begin on a page, and a count of 65
  pub start : row 1 0x1008 (three 0x40001001 0x7FFFE000 0x40001000 1 3 1) ≡ (9 ∷ 7 ∷ 8 ∷ 9 ∷ [])
  pub count : row 1 0x1008 (bytes_of 2 65) ≡ (9 ∷ 7 ∷ 8 ∷ 9 ∷ [])
  -- a window of RAM that passes 2^64, and a level above 3
  pub ram : row 1 0xFFFFFFFFFFFFFFF9 [] ≡ (2 ∷ 7 ∷ 8 ∷ 9 ∷ [])
  pub level : row 4 0xFFFFFFFFFFFFFFF9 [] ≡ (1 ∷ 7 ∷ 8 ∷ 9 ∷ [])
