-- RAM as a window: its first address and the list of its bytes.
use Rattle.std.specs.Prelude.{if◌then◌else◌, ℕ, zero, suc, ◌+◌, ◌-◌, ◌*◌, ◌/◌, ◌%◌, Bool, ◌&&◌, List, [], ◌∷◌, ◌++◌, length, take, drop, ◌==◌, Option, Some, None, nat_le, slice_index}
use Rattle.word.specs.declared.ram.Width.{Width}
use Rattle.word.specs.declared.ram.Width.TheVariants.{Byte, Half, Word, Double}

abbrev pub bytes_in : Width → ℕ
bytes_in Byte = 1
bytes_in Half = 2
bytes_in Word = 4
bytes_in Double = 8

-- a size of 1, 2, 4 or 8 bytes
abbrev pub width_of : ℕ → Option Width
width_of n =
    if n == 1 then Some Byte
    else if n == 2 then Some Half
    else if n == 4 then Some Word
    else if n == 8 then Some Double else None

-- the value of n bytes from index at, the lowest first
unfoldable pub little_endian : List ℕ → ℕ → ℕ → ℕ
little_endian ram zero at = 0
little_endian ram (suc n) at = little_endian ram n (at + 1) * 256 + slice_index ram at

-- the n low bytes of a value, the lowest first
unfoldable pub bytes_of : ℕ → ℕ → List ℕ
bytes_of zero v = []
bytes_of (suc n) v = v % 256 ∷ bytes_of n (v / 256)

-- all n bytes from the address lie in the window; the sum of address and size does not wrap
abbrev pub within : ℕ → ℕ → ℕ → ℕ → Bool
within base len n pa = nat_le base pa && nat_le (pa + n) (base + len)

-- the n bytes at an address, as a number
unfoldable pub word_at : ℕ → List ℕ → ℕ → ℕ → Option ℕ
word_at base ram n pa = if within base (length ram) n pa then Some (little_endian ram n (pa - base)) else None

-- the list with the n low bytes of a value from index at on
abbrev pub written : List ℕ → ℕ → ℕ → ℕ → List ℕ
written ram at n v = take at ram ++ (bytes_of n v ++ drop n (drop at ram))

-- RAM after a store of n bytes: outside the window nothing moves
unfoldable pub stored : ℕ → List ℕ → ℕ → ℕ → ℕ → List ℕ
stored base ram n pa v = if within base (length ram) n pa then written ram (pa - base) n v else ram
