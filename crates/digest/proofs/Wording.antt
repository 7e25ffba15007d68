-- Laws of words made of bytes.
use Rattle.std.specs.Prelude.{if◌then◌else◌, Option, Some, None}
use Rattle.std.proofs.Common.{◌≡◌, ℕ, zero, suc, ◌+◌, ◌-◌, ◌*◌, ◌/◌, Bool, true, false, List, [], ◌∷◌, ◌++◌, length, get_or, sym, ap, ◌∙◌, arith}
use native.Mathlib.Nat.{sub-zero}
use Rattle.word.specs.Ram.{little_endian, word_at, within}
use Rattle.word.proofs.RamLaws.{le_join}
use Rattle.digest.specs.Fold.{joined, digest_from, digest_of, gathered}
use Rattle.digest.specs.Window.{lane_word, lane, window_words}
use Rattle.digest.proofs.Folding.{digest-append}

-- a word of one byte
pub byte_word : (ram : List ℕ) (at : ℕ) → little_endian ram 1 at ≡ get_or ram at 0
unfolding little_endian
byte_word ram at = omega arith

pub join2 : (ram : List ℕ) (at x y : ℕ) → x ≡ get_or ram at 0 → y ≡ get_or ram (at + 1) 0 → x + y * 0x100 ≡ little_endian ram 2 at
join2 ram at x y p q = omega (arith, le_join ram 1 1 at, byte_word ram at, byte_word ram (at + 1))

pub join4 : (ram : List ℕ) (at x y : ℕ) → x ≡ little_endian ram 2 at → y ≡ little_endian ram 2 (at + 2) → x + y * 0x10000 ≡ little_endian ram 4 at
join4 ram at x y p q = omega (arith, le_join ram 2 2 at)

pub join8 : (ram : List ℕ) (at x y : ℕ) → x ≡ little_endian ram 4 at → y ≡ little_endian ram 4 (at + 4) → x + y * 0x100000000 ≡ little_endian ram 8 at
join8 ram at x y p q = omega (arith, le_join ram 4 4 at)

value-go : (b : Bool) (v x : ℕ) → Some v ≡ (if b then Some x else None) → v ≡ x
value-go true v x e = cc
value-go false v x e = cc

-- a whole word that was read
pub value-is : (ram : List ℕ) (at v : ℕ) (r : Option ℕ) → r ≡ Some v → r ≡ word_at 0 ram 8 at → v ≡ little_endian ram 8 at
unfolding word_at
value-is ram at v r p e =
    value-go (within 0 (length ram) 8 at) v (little_endian ram 8 (at - 0)) (sym p ∙ e) ∙ ap (little_endian ram 8) (sub-zero at)

-- a word taken in
pub taken : (h w x k : ℕ) → k ≡ joined h w → w ≡ x → k ≡ digest_from h (x ∷ [])
unfolding digest_from
taken h w x k p q = p ∙ ap (joined h) q

-- word i of a lane taken in
pub lane-taken : (ram : List ℕ) (k i at h w x : ℕ) → at ≡ i * 32 + k * 8 → w ≡ little_endian ram 8 at → x ≡ joined h w
    → x ≡ digest_from h (lane_word ram k i)
lane-taken ram k i at h w x place r t = taken h w (little_endian ram 8 (i * 32 + k * 8)) x t (r ∙ ap (little_endian ram 8) place)

-- the last of one thing more
pub last : (f : ℕ → List ℕ) (m i h : ℕ) → digest_from h (gathered f (suc m) i) ≡ digest_from (digest_from h (gathered f m i)) (f (i + m))
unfolding gathered digest_from
last f zero i h =
    digest-append h (f i) [] ∙ ap (λ (j : ℕ). digest_from h (f j)) (omega arith)
last f (suc m) i h =
    digest-append h (f i) (gathered f (suc m) (i + 1))
    ∙ (last f m (i + 1) (digest_from h (f i))
    ∙ (ap (λ (d : ℕ). digest_from d (f (i + 1 + m))) (sym (digest-append h (f i) (gathered f m (i + 1))))
    ∙ ap (λ (j : ℕ). digest_from (digest_from h (f i ++ gathered f m (i + 1))) (f j)) (omega arith)))

-- a lane of whole words
pub all_whole : (ram : List ℕ) (k n h : ℕ) → n ≡ length ram / 32 * 32 → length ram ≡ n
    → h ≡ digest_of (gathered (lane_word ram k) (length ram / 32) 0) → h ≡ lane ram k
all_whole ram k n h p q e =
    let m : length ram / 32 ≡ (length ram + 31) / 32 = omega arith in
    e ∙ ap (λ (j : ℕ). digest_of (gathered (lane_word ram k) j 0)) m

-- a lane with a word more
pub and_part : (ram : List ℕ) (k n at h w x : ℕ) → n ≡ length ram / 32 * 32 → (length ram ≡ n → ⊥)
    → h ≡ digest_of (gathered (lane_word ram k) (length ram / 32) 0) → at ≡ n + k * 8 → w ≡ little_endian ram 8 at → x ≡ joined h w → x ≡ lane ram k
and_part ram k n at h w x p q e place r t =
    let m : suc (length ram / 32) ≡ (length ram + 31) / 32 = omega arith in
    lane-taken ram k (0 + length ram / 32) at h w x (omega arith) r t
    ∙ (ap (λ (d : ℕ). digest_from d (lane_word ram k (0 + length ram / 32))) e
    ∙ (sym (last (lane_word ram k) (length ram / 32) 0 _) ∙ ap (λ (j : ℕ). digest_of (gathered (lane_word ram k) j 0)) m))

-- base, length and lanes
pub headed : (base : ℕ) (ram : List ℕ) (x y a b c d p q r t : ℕ) → x ≡ joined 0x9E3779B97F4A7C15 base → y ≡ joined x (length ram)
    → a ≡ lane ram 0 → b ≡ lane ram 1 → c ≡ lane ram 2 → d ≡ lane ram 3 → p ≡ joined y a → q ≡ joined p b → r ≡ joined q c → t ≡ joined r d
    → t ≡ digest_of (window_words base ram)
unfolding digest_from
headed base ram x y a b c d p q r t e f ea eb ec ed ep eq er et =
    et ∙ rw (er, eq, ep, f, e, ea, eb, ec, ed)
