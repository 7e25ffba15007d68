-- The code's own test of a split access: whether both of its parts lie in RAM, decided at once. Nothing here has to be
-- believed: where it says yes, the value and RAM are those of the bytes, and where it says no, the bytes are judged one
-- by one.
use Rattle.std.specs.Prelude.{if◌then◌else◌, ℕ, ◌-◌, ◌^◌, Bool, false, ◌&&◌, List, length, nat_lt, Option, Some, None}
use Rattle.word.specs.Ram.{within}
use Rattle.cpu.specs.Bytes.{split_value, split_stored}
use Rattle.cpu.specs.declared.place.Pages.{Pages}

-- both parts of up to eight bytes lie in RAM, in a window that ends below the last address
unfoldable pub both_inside : ℕ → ℕ → Pages → ℕ → Bool
both_inside base len p n =
    if nat_lt (2 ^ 64 - 1 - len) base then false
    else if nat_lt n p.in_page then false
    else if nat_lt 8 n then false
    else within base len p.in_page p.pa && within base len (n - p.in_page) p.pa2

-- the value, and RAM after a store
unfoldable pub both_at : ℕ → List ℕ → Pages → ℕ → Option ℕ
both_at base ram p n = if both_inside base (length ram) p n then Some (split_value base ram p 0 n) else None

unfoldable pub both_stored : ℕ → List ℕ → Pages → ℕ → ℕ → List ℕ
both_stored base ram p n v = if both_inside base (length ram) p n then split_stored base p v 0 n ram else ram

-- one byte in each page
abbrev pub pair_at : ℕ → ℕ → Pages
pair_at pa pa2 = record { in_page = 1; pa = pa; pa2 = pa2 }
