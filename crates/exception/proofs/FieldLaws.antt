-- Where the values are those that the manual has, what the definitions add for others says nothing.
use Rattle.std.specs.Prelude.{◌≡◌, ℕ, ◌+◌, ◌%◌, ◌^◌, ◌<◌, Bool}
use Rattle.std.proofs.Common.{arith, ◌*◌, ◌/◌, true, false, sym, ap, ◌∙◌, ap₂, mod-eq_of_lt}
use Rattle.std.specs.Int.Bits.{or_zero_r}
use Rattle.std.proofs.lemmas.Grind.{common_steps}
use Rattle.std.proofs.lemmas.Nat.Bits.{bit_at_or, same_from_bits}
use Rattle.word.specs.Bits.{flag, wrap, field, align_down}
use Rattle.exception.specs.declared.flags.Flags.{Flags}
use Rattle.exception.specs.Pstate.{psr, OwnBits, stray_bits, spsr_of}
use Rattle.exception.specs.Syndrome.{data_status, esr_of}
use Rattle.exception.specs.Entry.{vect_offset}
use lib.Bits.{bit_and, bit_or, or_comm, or_zero_l, or_zero_r, or_block, or_shifted, or_shifted_r}
use lib.Pow.{split}
use mir.Val.{bool_byte}

-- where PSTATE's words hold their own bits alone, SPSR is the manual's
own-stray : (f : Flags) → OwnBits f → stray_bits f ≡ 0
own-stray f h = rw (h.nzcv-31-28, h.daif-9, h.daif-6)

pub spsr-fields : (level : ℕ) (f : Flags) → OwnBits f → spsr_of level f ≡ psr level f
unfolding spsr_of
spsr-fields level f h = rw (own-stray f h) (or_zero_r (psr level f))

-- a status of six bits
pub status-fields : (write : Bool) (fsc : ℕ) → fsc < 2 ^ 6 → data_status write fsc ≡ flag write (2 ^ 6) + fsc
status-fields write fsc h = grind arith

-- VBAR_ELx<10:0> are zero: the address is VBAR_ELx<63:11> and the offset below
pub vector-fields : (vbar from to : ℕ) (sp : Bool) → vbar < 2 ^ 64 → vbar % 2 ^ 11 ≡ 0
    → wrap (vbar + vect_offset from to sp) ≡ vbar + vect_offset from to sp
vector-fields vbar from to sp h z = grind arith

-- Numbers joined by OR: a data abort's status, and PSTATE's words.

-- ESR_ELx of a class and a syndrome
pub esr_joined : (class iss : ℕ) → class < 2 ^ 8 → iss < 2 ^ 16 → bit_or (bit_or (class * 2 ^ 26 % 2 ^ 64) 0x200_0000) iss ≡ esr_of class iss
esr_joined class iss h k =
    let e : class * 2 ^ 26 + 0x200_0000 ≡ (class * 2 + 1) * 2 ^ 25 = omega arith in
    let m : class * 2 ^ 26 % 2 ^ 64 ≡ class * 2 ^ 26 = mod-eq_of_lt (omega arith) in
    rw (m, or_shifted class 26 0x200_0000 (omega arith), e, or_shifted (class * 2 + 1) 25 iss (omega arith)) (omega arith)

-- a status below WnR
pub status_word : (write : Bool) (s : ℕ) → bit_or (bool_byte write * 2 ^ 6) s ≡ data_status write s
status_word true s =
    ap (bit_or 0x40) (sym (split s 6)) ∙ or_block 6 1 (s / 2 ^ 6) 0 (s % 2 ^ 6) (omega arith) (omega arith)
    ∙ ap₂ (λ (m n : ℕ). m * 2 ^ 6 + n) (or_comm 1 (s / 2 ^ 6)) (or_zero_l (s % 2 ^ 6))
status_word false s = or_zero_l s ∙ rw or_zero_r (sym (split s 6))

-- OR is associative, and the second of two parts may go last: bit by bit
assoc : (p q r : ℕ) → bit_or (bit_or p q) r ≡ bit_or p (bit_or q r)
assoc p q r = same_from_bits _ _ (λ i. simp bit_at_or (omega arith))

last : (p q r : ℕ) → bit_or (bit_or p q) r ≡ bit_or (bit_or p r) q
last p q r = same_from_bits _ _ (λ i. simp bit_at_or (omega arith))

-- x and y, one part of each word, are gathered at the end
gather : (a x b y l s : ℕ) → bit_or (bit_or (bit_or (bit_or a x) (bit_or b y)) l) s ≡ bit_or (bit_or (bit_or (bit_or a b) l) s) (bit_or x y)
gather a x b y l s =
    rw (← assoc (bit_or a x) b y, last a x b, assoc (bit_or a b) x y, last (bit_or a b) (bit_or x y) l, last (bit_or (bit_or a b) l) (bit_or x y) s)

-- NZCV's word: bits 31 to 28, and those below
nzcv-parts : (n : ℕ) → n < 2 ^ 32 → n ≡ bit_or (field n 28 4 * 2 ^ 28) (n % 2 ^ 28)
nzcv-parts n h = omega (arith, or_shifted (field n 28 4) 28 (n % 2 ^ 28) (omega arith))

-- DAIF's word: bits 9 to 6, and the others
daif-parts : (d : ℕ) → d ≡ bit_or (field d 6 4 * 2 ^ 6) (align_down d 10 + d % 2 ^ 6)
daif-parts d =
    let e = or_block 6 (field d 6 4) (d / 2 ^ 10 * 2 ^ 4) 0 (d % 2 ^ 6) (omega arith) (omega arith) in
    let f = or_shifted_r (d / 2 ^ 10) 4 (field d 6 4) (omega arith) in
    let g : field d 6 4 * 2 ^ 6 + 0 ≡ field d 6 4 * 2 ^ 6 = omega arith in
    let h : d / 2 ^ 10 * 2 ^ 4 * 2 ^ 6 + d % 2 ^ 6 ≡ align_down d 10 + d % 2 ^ 6 = omega arith in
    omega (arith, e, f, or_zero_l (d % 2 ^ 6), ap₂ bit_or g h)

-- the fields of SPSR do not meet
fields_join : (q m l s : ℕ) → m < 16 → l < 4 → s < 4
    → bit_or (bit_or (bit_or (q * 2 ^ 28) (m * 2 ^ 6)) (l * 4)) s ≡ q * 2 ^ 28 + m * 2 ^ 6 + l * 4 + s
fields_join q m l s hm hl hs =
    let e : q * 2 ^ 28 + m * 2 ^ 6 ≡ (q * 2 ^ 22 + m) * 2 ^ 6 = omega arith in
    let f : (q * 2 ^ 22 + m) * 2 ^ 6 + l * 4 ≡ (q * 2 ^ 26 + m * 2 ^ 4 + l) * 2 ^ 2 = omega arith in
    rw (
      or_shifted q 28 (m * 2 ^ 6) (omega arith),
      e,
      or_shifted (q * 2 ^ 22 + m) 6 (l * 4) (omega arith),
      f,
      or_shifted (q * 2 ^ 26 + m * 2 ^ 4 + l) 2 s hs,
    )

module _ (level : ℕ) (f : Flags) (hn : f.nzcv < 2 ^ 32) (hd : f.daif < 2 ^ 32) where
  joined : (s : ℕ) → s < 4 → bit_or (bit_or (bit_or f.nzcv f.daif) (level % 4 * 4)) s
      ≡ bit_or (field f.nzcv 28 4 * 2 ^ 28 + field f.daif 6 4 * 2 ^ 6 + level % 4 * 4 + s) (stray_bits f)
  joined s hs =
      let n = f.nzcv in
      let d = f.daif in
      let q = field n 28 4 in
      let m = field d 6 4 in
      let l = level % 4 in
      ap₂ (λ (u v : ℕ). bit_or (bit_or (bit_or u v) (l * 4)) s) (nzcv-parts n hn) (daif-parts d)
      ∙ gather (q * 2 ^ 28) (n % 2 ^ 28) (m * 2 ^ 6) (align_down d 10 + d % 2 ^ 6) (l * 4) s
      ∙ ap (λ (u : ℕ). bit_or u (stray_bits f)) (fields_join q m l s (omega arith) (omega arith) hs)

  pub psr_word : bit_or (bit_or (bit_or f.nzcv f.daif) (bit_and level 3 * 4 % 2 ^ 64)) (bool_byte f.spsel) ≡ spsr_of level f
  unfolding spsr_of
  psr_word = grind (arith, common_steps, mod-eq_of_lt, joined)
