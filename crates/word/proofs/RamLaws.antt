-- Laws of bit fields, each over the width: what proofs above cite in place of the arithmetic.
use Rattle.std.specs.Prelude.{◌≡◌, ℕ, ◌+◌, ◌-◌, ◌*◌, ◌/◌, ◌%◌, ◌^◌, ◌<◌, ◌≤◌, Bool, true, ◌&&◌, ◌||◌, bit_or, bit_and, zero, suc, List, [], ◌∷◌}
use Rattle.std.specs.Prelude.{length, nat_le, slice_index, refl, take, drop}
use Rattle.std.proofs.Common.{sym, ap, ◌∙◌, mod-eq_of_lt, mod-lt, mul_assoc, arith, shr-shr, shr_lt, pow_pos, pow-add, pow-suc}
use Rattle.std.proofs.Common.{suc-add, mul_comm, div-one, add-one, leb-true, length-take-le, get_or-append-add, ◌++◌, set, append-nil, take_all}
use Rattle.std.proofs.Common.{take-suc-set}
use Rattle.std.proofs.Math.Nat.{mul-add-div_right, mul-add-mod_self_right, div-div-eq-div-mul}
use Rattle.std.proofs.Math.Arith.{digits_lt}
use Rattle.std.proofs.lemmas.Nat.Bits.{and_pow, bit_at_or}
use Rattle.std.proofs.lemmas.Grind.{low_zeros}
use Rattle.std.proofs.Math.Pow.{split}
use Rattle.std.proofs.Math.ListN.{get_or-append}
use Rattle.std.proofs.lemmas.List.{take_rest, get_or-drop}
use Rattle.word.specs.Bits.{bit_on, field, align_down}
use Rattle.word.specs.Ram.{little_endian, bytes_of, within, word_at, written}
use Rattle.std.proofs.Math.Pow
use lib.Seq.{append_snoc}

-- a place below 64 is the place that the machine takes
pub place : {n : ℕ} → n < 64 → n % 64 ≡ n
place h = mod-eq_of_lt h

-- a test of two parts that passes
pub both : (a b : Bool) → (a && b) ≡ true → (a ≡ true) × (b ≡ true)
both a b h1 = grind arith

-- a bit by its mask, a power of two
pub mask_bit : (n m : ℕ) → suc m ≡ 2 ^ low_zeros 128 (suc m) → bit_and n (suc m) ≡ n / 2 ^ low_zeros 128 (suc m) % 2 * suc m
mask_bit n m e = let k = low_zeros 128 (suc m) in ap (bit_and n) e ∙ and_pow n k ∙ ap (λ x. n / 2 ^ k % 2 * x) (sym e)

-- the bits lo to hi of a number cut at hi are those of the number
pub cut_field : (x : ℕ) {lo hi : ℕ} → lo ≤ hi → x % 2 ^ hi / 2 ^ lo ≡ field x lo (hi - lo)
cut_field x {lo} {hi} h = grind (arith, Pow.field x (hi - lo) lo)

-- cutting at hi and then lower is cutting lower
pub cut-cut : (x : ℕ) {lo hi : ℕ} → lo ≤ hi → x % 2 ^ hi % 2 ^ lo ≡ x % 2 ^ lo
cut-cut x {lo} {hi} h = grind (arith, Pow.mod-mod-pow x (hi - lo) lo)

-- a bit of two numbers joined is set where either's is
pub or-bit : (a b i : ℕ) → bit_on (bit_or a b) i ≡ (bit_on a i || bit_on b i)
or-bit a b i = grind (arith, bit_at_or a b i)

-- numbers with the same bits from k up have the same bits from any n above
pub same_above : (x y : ℕ) {k n : ℕ} → k ≤ n → x / 2 ^ k ≡ y / 2 ^ k → x / 2 ^ n ≡ y / 2 ^ n
same_above x y {k} {n} h e = grind (arith, shr-shr x k (n - k), shr-shr y k (n - k))

-- a number of m bits whose bits from n up are zero has n bits
pub cut_small : (x : ℕ) {n m : ℕ} → n ≤ m → field x n (m - n) ≡ 0 → x % 2 ^ m < 2 ^ n
cut_small x {n} {m} h e = grind (arith, cut_field, split (x % 2 ^ m) n, mod-lt (x % 2 ^ m) (pow_pos n))

-- a number of n bits with its low k bits replaced has n bits
pub join-small : {x r k n : ℕ} → k ≤ n → x < 2 ^ n → r < 2 ^ k → align_down x k + r < 2 ^ n
join-small {x} {r} {k} {n} h a b =
    let e : n - k + k ≡ n = omega arith in
    let q : x / 2 ^ k < 2 ^ (n - k) = shr_lt (n - k) k (rw (← e) at a) in
    let w : align_down x k + r < 2 ^ (n - k) * 2 ^ k = digits_lt q b in
    rw (← pow-add 2 (n - k) k, e) at w

-- a number aligned by n is a multiple of every lower power
align-split : (x : ℕ) {k n : ℕ} → k ≤ n → align_down x n ≡ x / 2 ^ n * 2 ^ (n - k) * 2 ^ k
align-split x {k} {n} h = grind (arith, pow-add, mul_assoc)

-- x with its low n bits replaced by those of y: its bits from k up, k at most n
pub join-above : (x y : ℕ) {k n : ℕ} → k ≤ n → (align_down x n + y % 2 ^ n) / 2 ^ k ≡ x / 2 ^ n * 2 ^ (n - k) + field y k (n - k)
join-above x y {k} {n} h =
    ap (λ (a : ℕ). (a + y % 2 ^ n) / 2 ^ k) (align-split x h) ∙ mul-add-div_right (pow_pos k) (x / 2 ^ n * 2 ^ (n - k)) (y % 2 ^ n)
    ∙ ap (λ (f : ℕ). x / 2 ^ n * 2 ^ (n - k) + f) (cut_field y h)

-- and its bits below k, which are y's
pub join-below : (x y : ℕ) {k n : ℕ} → k ≤ n → (align_down x n + y % 2 ^ n) % 2 ^ k ≡ y % 2 ^ k
join-below x y {k} {n} h =
    ap (λ (a : ℕ). (a + y % 2 ^ n) % 2 ^ k) (align-split x h) ∙ mul-add-mod_self_right (x / 2 ^ n * 2 ^ (n - k)) (2 ^ k) (y % 2 ^ n) ∙ cut-cut y h

-- Laws of little-endian words and of stores, each over the width.

-- an access inside the window begins in it and ends in it
module _ (base len n pa : ℕ) (w : within base len n pa ≡ true) where
  pub within_low : base ≤ pa
  within_low = leb-true base pa (both (nat_le base pa) (nat_le (pa + n) (base + len)) w).0

  pub within-high : pa + n ≤ base + len
  within-high = leb-true (pa + n) (base + len) (both (nat_le base pa) (nat_le (pa + n) (base + len)) w).1

-- the value of m + n bytes is that of the first m, and above it that of the rest
pub le_join : (ram : List ℕ) (m n at : ℕ) → little_endian ram (m + n) at ≡ little_endian ram m at + little_endian ram n (at + m) * 256 ^ m
unfolding little_endian
le_join ram zero n at = grind (arith)
le_join ram (suc m) n at =
    let e : at + suc m ≡ at + 1 + m = omega arith in
    let ih = le_join ram m n (at + 1) in
    rw (suc-add m n, little_endian, e, pow-suc 256 m, ← mul_assoc (little_endian ram n (at + 1 + m)) (256 ^ m) 256, ih) (omega arith)

pub length-bytes : (n v : ℕ) → length (bytes_of n v) ≡ n
unfolding bytes_of
length-bytes zero v = refl
length-bytes (suc n) v = ap suc (length-bytes n (v / 256))

-- lists that agree on the n bytes from an index have one value there
pub le-agree : (xs ys : List ℕ) (n at : ℕ) → ((i : ℕ) → i < n → slice_index xs (at + i) ≡ slice_index ys (at + i))
    → little_endian xs n at ≡ little_endian ys n at
unfolding little_endian
le-agree xs ys zero at h = refl
le-agree xs ys (suc n) at h = grind (arith, le-agree xs ys n (at + 1) (λ i k. grind (arith, h (suc i))), h 0)

-- windows of one base and length that agree on the n bytes at an address, where these lie inside, hold one word there
pub word-agree : (base : ℕ) (xs ys : List ℕ) (n pa : ℕ) → length xs ≡ length ys
    → (base ≤ pa → pa + n ≤ base + length xs → (i : ℕ) → i < n → slice_index xs (pa - base + i) ≡ slice_index ys (pa - base + i))
    → word_at base xs n pa ≡ word_at base ys n pa
unfolding word_at
word-agree base xs ys n pa e h = grind (arith, le-agree, leb-true)

-- EACH BYTE OF A VALUE: byte i is v / 256 ^ i % 256

-- the digits above the lowest are those of the rest
pub digit-next : (v i : ℕ) → v / 256 ^ suc i ≡ v / 256 / 256 ^ i
digit-next v i = grind (arith, pow-suc, mul_comm, div-div-eq-div-mul)

-- of the value of n bytes it is the byte at that index
pub byte_of : (ram : List ℕ) (n at i : ℕ) → ((k : ℕ) → slice_index ram k < 256) → i < n → little_endian ram n at / 256 ^ i % 256 ≡ slice_index ram (at + i)
unfolding little_endian
byte_of ram zero at i small h = absurd (omega arith)
byte_of ram (suc n) at zero small h = grind (arith)
byte_of ram (suc n) at (suc i) small h =
    grind (arith, (byte_of ram n (at + 1) i small (omega arith)), div-one, digit-next)

-- and of the bytes of a value it is what is written there
pub digit-of : (n v i : ℕ) → i < n → slice_index (bytes_of n v) i ≡ v / 256 ^ i % 256
unfolding bytes_of
digit-of zero v i h = absurd (omega arith)
digit-of (suc n) v zero h = rw (div-one v)
digit-of (suc n) v (suc i) h = grind (arith, digit-next, digit-of n (v / 256) i)

pub written_byte : (ram : List ℕ) (at n v i : ℕ) → at + n ≤ length ram → i < n → slice_index (written ram at n v) (at + i) ≡ v / 256 ^ i % 256
written_byte ram at n v i h k = grind (arith, length-take-le, length-bytes, get_or-append-add, get_or-append, digit-of)

-- a store of one byte more: the lowest, and then the others
one_more : (xs : List ℕ) (at n v : ℕ) → at < length xs → written xs at (suc n) v ≡ written (written xs at 1 v) (suc at) n (v / 256)
unfolding bytes_of
one_more [] at n v h = absurd (omega arith)
one_more (x ∷ xs) zero n v h = refl
one_more (x ∷ xs) (suc at) n v h = ap (λ (ys : List ℕ). x ∷ ys) (one_more xs at n v (omega arith))

pub written_next : (xs : List ℕ) (at n v : ℕ) → at < length xs → written xs at (suc n) v ≡ written (written xs at 1 v) (at + 1) n (v / 256)
written_next xs at n v h = rw (add-one at) (one_more xs at n v h)

-- The value of four bytes, byte by byte, and the bytes of the rest of a slice.
pub four-bytes : (ram : List ℕ) (at : ℕ) → little_endian ram 4 at
    ≡ slice_index ram at + slice_index ram (at + 1) * 256 + slice_index ram (at + 2) * 65536 + slice_index ram (at + 3) * 16777216
unfolding little_endian
four-bytes ram at = grind arith

pub rest-index : (ram : List ℕ) (at i j : ℕ) → j ≡ at + i → slice_index (take (length ram - at) (drop at ram)) i ≡ slice_index ram j
rest-index ram at i j e = rw (take_rest ram at, get_or-drop at ram i 0, e)

-- What the window's test says of the numbers, and how a part that was lent comes back.

-- a turn of the loop that writes the bytes, and its end
pub bytes_turn : (l : List ℕ) (i v n : ℕ) → i < length l → length l ≡ n → take (i + 1) (set l i (v % 256)) ++ bytes_of (n - (i + 1)) (v / 256)
    ≡ take i l ++ bytes_of (n - i) v
unfolding bytes_of
bytes_turn l i v n h e =
    let less : n - i ≡ suc (n - suc i) = omega arith in
    ap (λ (m : ℕ). take m (set l i (v % 256)) ++ bytes_of (n - m) (v / 256)) (add-one i)
    ∙ ap (λ (xs : List ℕ). xs ++ bytes_of (n - suc i) (v / 256)) (take-suc-set l i (v % 256) h)
    ∙ append_snoc (take i l) (v % 256) (bytes_of (n - suc i) (v / 256)) ∙ ap (λ (m : ℕ). take i l ++ bytes_of m v) (sym less)

pub bytes_end : (l : List ℕ) (i v n : ℕ) → length l ≡ n → n ≤ i → take i l ++ bytes_of (n - i) v ≡ l
unfolding bytes_of
bytes_end l i v n e h = grind (arith, take, append-nil, take_all)
