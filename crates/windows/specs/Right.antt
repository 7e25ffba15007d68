-- When a list is right, condition by condition; what each reason says; and a list written from its windows.
use Rattle.std.specs.Prelude.{◌≡◌, ◌≢◌, ℕ, ◌+◌, ◌*◌, ◌%◌, ◌^◌, ◌<◌, ◌≤◌, ◌⊎◌, List, ◌++◌, length, flat_map}
use Rattle.word.specs.Ram.{bytes_of}
use Rattle.windows.specs.Window.{window}
use Rattle.windows.specs.List.{count_of, start_at, pages_at, window_at, Counted}
use Rattle.windows.specs.declared.list.{Window.Window, Malformed.Malformed}
use Rattle.windows.specs.declared.list.Malformed.TheVariants.{Length, Count, Start, Pages, End}

-- a window that is right
pub record RightWindow (w : Window) : Type 0 where
  pub on_a_page : w.start % 4096 ≡ 0
  pub some : 1 ≤ w.pages
  pub few : w.pages ≤ 16
  pub within : w.start + 4096 * w.pages ≤ 2 ^ 64

-- a list that is right: as long as its windows need, of which there are at most 64, and each window right
pub record RightList (bytes : List ℕ) : Type 0 where
  pub begun : 2 ≤ length bytes
  pub few : count_of bytes ≤ 64
  pub long : length bytes ≡ 2 + 10 * count_of bytes
  pub right : (i : ℕ) → i < count_of bytes → RightWindow (window_at bytes (count_of bytes) i)

-- windows before one of a list that is as long as it has to be are right
pub record RightBefore (bytes : List ℕ) (i : ℕ) : Type 0 where
  pub counted : Counted bytes (count_of bytes)
  pub listed : i < count_of bytes
  pub right : (k : ℕ) → k < i → RightWindow (window_at bytes (count_of bytes) k)

-- what is true of a list of which a reason is told: nothing before it is wrong
abbrev pub Told : List ℕ → Malformed → Type 0
Told bytes Length = (length bytes < 2) ⊎ ((count_of bytes ≤ 64) × (length bytes ≢ 2 + 10 * count_of bytes))
Told bytes Count = (2 ≤ length bytes) × (64 < count_of bytes)
Told bytes (Start i) = RightBefore bytes i × (start_at bytes i % 4096 ≢ 0)
Told bytes (Pages i) =
    RightBefore bytes i × (start_at bytes i % 4096 ≡ 0)
    × ((pages_at bytes (count_of bytes) i ≡ 0) ⊎ (16 < pages_at bytes (count_of bytes) i))
Told bytes (End i) =
    RightBefore bytes i × (start_at bytes i % 4096 ≡ 0) × (1 ≤ pages_at bytes (count_of bytes) i) × (pages_at bytes (count_of bytes) i ≤ 16)
    × (2 ^ 64 < start_at bytes i + 4096 * pages_at bytes (count_of bytes) i)

-- the bytes of windows: how many, all first addresses, all lengths
unfoldable pub bytes_of_windows : List Window → List ℕ
bytes_of_windows ws = bytes_of 2 (length ws) ++ (flat_map (λ w. bytes_of 8 w.start) ws ++ flat_map (λ w. bytes_of 2 w.pages) ws)

-- each window of a list is right, and there are at most 64
pub record RightWindows (ws : List Window) : Type 0 where
  pub few : length ws ≤ 64
  pub right : (i : ℕ) → i < length ws → RightWindow (window ws i)
