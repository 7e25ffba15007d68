-- Bit fields of a number in the manual's terms, by division and remainder.
use Rattle.std.specs.Prelude.{ℕ, ◌*◌, ◌/◌, ◌%◌, ◌^◌, Bool, true, false, ◌==◌}

-- x<i> == '1'
abbrev pub bit_on : ℕ → ℕ → Bool
bit_on x i = x / 2 ^ i % 2 == 1

-- x<0> == '1'
abbrev pub bit0 : ℕ → Bool
bit0 x = x % 2 == 1

-- the n bits of x from bit lo up, x<lo+n-1:lo>
abbrev pub field : ℕ → ℕ → ℕ → ℕ
field x lo n = x / 2 ^ lo % 2 ^ n

-- x with its low n bits clear, Align(x, 2^n)
abbrev pub align_down : ℕ → ℕ → ℕ
align_down x n = x / 2 ^ n * 2 ^ n

-- a sum as 64 bits keep it
abbrev pub wrap : ℕ → ℕ
wrap x = x % 2 ^ 64

-- the number that a bit stands for
abbrev pub flag : Bool → ℕ → ℕ
flag true n = n
flag false n = 0
