-- What the bytes of a list mean: a count of two bytes, that many first addresses of eight, and then that many lengths in pages of two, all
-- little-endian.
use Rattle.std.specs.Prelude.{if◌then◌else◌, ◌≡◌, ◌≤◌, ℕ, ◌+◌, ◌*◌, ◌%◌, ◌^◌, not, ◌||◌, List, length, ◌==◌, Option, Some, None, nat_lt, Result, Ok, Err, filter_map}
use Rattle.word.specs.Ram.{little_endian}
use Rattle.word.specs.Tables.{table}
use Rattle.windows.specs.Window.{below, first_in}
use Rattle.windows.specs.declared.list.{Window.Window, Malformed.Malformed}
use Rattle.windows.specs.declared.list.Malformed.TheVariants.{Length, Count, Start, Pages, End}

-- how many windows the first two bytes say that there are
abbrev pub count_of : List ℕ → ℕ
count_of bytes = little_endian bytes 2 0

-- of so many windows: all first addresses stand before all lengths
abbrev pub start_at : List ℕ → ℕ → ℕ
start_at bytes i = little_endian bytes 8 (2 + 8 * i)

abbrev pub pages_at : List ℕ → ℕ → ℕ → ℕ
pages_at bytes count i = little_endian bytes 2 (2 + 8 * count + 2 * i)

abbrev pub window_at : List ℕ → ℕ → ℕ → Window
window_at bytes count i = record { start = start_at bytes i; pages = pages_at bytes count i }

-- why window i is not right: it does not begin on a page; it has no page, or more than 16; it passes 2^64, where it may end
abbrev pub wrong_of : ℕ → Window → Option Malformed
wrong_of i w =
    if not (w.start % 4096 == 0) then Some (Start i)
    else if w.pages == 0 || nat_lt 16 w.pages then Some (Pages i)
    else if nat_lt (2 ^ 64) (w.start + 4096 * w.pages) then Some (End i) else None

-- what is wrong with the windows of a list that counts so many, in order
abbrev pub wrongs : List ℕ → ℕ → List Malformed
wrongs bytes count = filter_map (λ i. wrong_of i (window_at bytes count i)) (below count)

abbrev pub unless : Option Malformed → List Window → Result (List Window) Malformed
unless None ws = Ok ws
unless (Some why) ws = Err why

-- the windows of a list, or the first reason why it is not right: too short for a count, a count above 64, not two bytes and ten for each window
unfoldable pub list_of : List ℕ → Result (List Window) Malformed
list_of bytes =
    if nat_lt (length bytes) 2 then Err Length
    else if nat_lt 64 (count_of bytes) then Err Count
    else if not (length bytes == 2 + 10 * count_of bytes) then Err Length
    else unless (first_in (wrongs bytes (count_of bytes))) (table (count_of bytes) (window_at bytes (count_of bytes)))

-- a list that counts so many windows and is as long as they need
pub record Counted (bytes : List ℕ) (count : ℕ) : Type 0 where
  pub counts : count ≡ count_of bytes
  pub few : count ≤ 64
  pub long : length bytes ≡ 2 + 10 * count
