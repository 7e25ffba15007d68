-- What is found is bit 0 or bit 1 of the first descriptor, or nothing: clearing bit 0 there ends the walk in a translation fault of that level, in
-- which no walk ends that goes on below it.
use Rattle.std.specs.Prelude.{◌≡◌, Bool, not, ◌||◌, ◌&&◌, List, [], ◌∷◌, length, Option, Some, None, slice_get}
use Rattle.std.proofs.Common.{refl, sym, ◌∙◌, subst, arith}
use Rattle.std.proofs.Math.Bool.{true, false}
use Prim.Native.Nat.{ℕ, zero, suc, ◌+◌, ◌-◌, ◌*◌, ◌<◌, ◌≤◌}
use Rattle.word.specs.Places.{bits}
use Rattle.word.specs.Ram.{within, word_at, little_endian}
use Rattle.sysreg.specs.declared.regs.Regime.{Regime}
use Rattle.walk.specs.Walk.{after_next, fetches_from, fetches_range, fetches_of, fresh_of, walk_of}
use Rattle.walk.specs.Regime.{stage1_on}
use Rattle.walk.specs.Descriptor.{valid, table_or_page}
use Rattle.walk.specs.Table.{in_range, beyond, Lookup, startlevel, first_lookup, range_of, lookup_next}
use Rattle.walk.specs.Order.{params_at, Reached, entry}
use Rattle.walk.specs.declared.{regime.Bank.Bank, range.Range.Range, level.Params.Params}
use Rattle.walk.proofs.SizeLaws.{start-level}
use Rattle.walk.proofs.Order.{Stage, stage, invalid-next, descriptor-invalid, leaf-not-allowed}
use Rattle.tlb.specs.Model.{need}
use Rattle.tlb.specs.declared.access.Kind.{Kind}
use Rattle.tlb.specs.Translate.{walk_answer, fresh_answer}
use Rattle.flip.specs.Question.{answer_on}
use Rattle.flip.specs.Flip.{flipped, number_of_bit, changes, descriptors, first_in, first_flip}
use Rattle.flip.specs.FirstDescriptor.{address_of, first_table, descriptor_in, has_blocks, EachFirst}
use Rattle.flip.specs.declared.{FlippedBit.FlippedBit, Question.Question}
use Rattle.flip.proofs.Search.{find-here, find-nowhere}
use Rattle.flip.proofs.Flipping.{length-flipped, flip-turned, flip-kept}
use Rattle.flip.proofs.FlipLaws.{word-inside}
use Rattle.flip.proofs.LowBits.{valid-is, table-is}
use Rattle.flip.proofs.Away.{leads, no-leaf, walk-away, Ends, differ, walked-away}

word-outside : (base : ℕ) (ram : List ℕ) (pa : ℕ) → word_at base ram 8 pa ≡ None → within base (length ram) 8 pa ≡ false
unfolding word_at
word-outside base ram pa e = grind arith

-- where a walk begins
record Begun (q : Question) (l : Lookup) : Type 0 where
  on : stage1_on q.bank q.regime ≡ true
  ranged : in_range (range_of q.bank q.regime (address_of q)) (address_of q) ≡ true
  enabled : (range_of q.bank q.regime (address_of q)).disabled ≡ false
  small : beyond (params_at q.bank q.regime (address_of q)).outputsize (range_of q.bank q.regime (address_of q)).baseregister ≡ false
  is : first_lookup (range_of q.bank q.regime (address_of q)) ≡ l

begun : (q : Question) (l : Lookup) → first_table q ≡ Some l → Begun q l
unfolding first_table
begun q l e = grind arith

-- what is found in a descriptor: by whether it is valid, and whether it may lead to more than a translation fault of its level
abbrev told_by : ℕ → Bool → Bool → Option FlippedBit
told_by d v true = Some (record { pa = d; bit = 0 })
told_by d true false = Some (record { pa = d; bit = 1 })
told_by d false false = None

module _ (q : Question) (base : ℕ) (l : Lookup) (b : Begun q l) where
  abbrev s : Bank
  s = q.bank

  abbrev r : Regime
  r = q.regime

  abbrev va : ℕ
  va = address_of q

  abbrev p : Params
  p = params_at s r va

  abbrev g : Range
  g = range_of s r va

  abbrev at : ℕ
  at = descriptor_in q l

  begins : (memory : ℕ → Option ℕ) → Reached s r va memory l
  begins memory = subst (Reached s r va memory) b.is (entry b.ranged b.enabled b.small)

  answer-is : (ram : List ℕ) → answer_on q base ram ≡ walk_answer (walk_of s r va (word_at base ram 8)) (need q.kind q.user) q.va
  unfolding fresh_answer fresh_of
  answer-is ram = rw b.on refl

  -- the answer by the first descriptor's word: a translation fault of its level, or no such fault
  answer-by : (ram : List ℕ) (desc : ℕ) → word_at base ram 8 at ≡ Some desc → Ends (4 + l.level) (valid desc && leads p l desc) (answer_on q base ram)
  unfolding walk_of
  answer-by ram desc word = rw (answer-is ram) (go (valid desc) (leads p l desc) refl refl)
    where
      memory : ℕ → Option ℕ
      memory = word_at base ram 8

      st : Stage s r va memory l
      st = stage s r va memory (begins memory)

      go : (v t : Bool) → valid desc ≡ v → leads p l desc ≡ t → Ends (4 + l.level) (v && t) (walk_answer (walk_of s r va memory) (need q.kind q.user) q.va)
      go true true v t = walked-away _ _ l.level _ _ _ st.level (walk-away s r va memory l (begins memory) desc word v t)
      go true false v t = rw (leaf-not-allowed s r va memory l (begins memory) desc word (no-leaf p l desc st.level t)) refl
      go false t v _ = rw (descriptor-invalid s r va memory l (begins memory) desc word v) refl

  -- WHAT IS FOUND, in the descriptor and then in the whole
  module _ (ram : List ℕ) where
    descriptors-are : descriptors q base ram
        ≡ at ∷ after_next (lookup_next (word_at base ram 8) p va l) (fetches_from (3 - l.level) (word_at base ram 8) p va)
    unfolding fetches_of fetches_range fetches_from
    descriptors-are =
        let n : 4 - startlevel g ≡ suc (3 - startlevel g) = omega (arith, start-level g) in
        rw (b.on, b.ranged, b.small, b.enabled, ← b.is, n, fetches_from) refl

    first-fetched : slice_get (descriptors q base ram) 0 ≡ Some at
    first-fetched = rw descriptors-are refl

    first-outside : word_at base ram 8 at ≡ None → first_flip q base ram ≡ None
    unfolding first_flip lookup_next first_in
    first-outside e = rw descriptors-are (grind (arith, word-outside base ram at e))

    module _ (desc : ℕ) (word : word_at base ram 8 at ≡ Some desc) where
      abbrev start : ℕ
      start = at - base

      abbrev with_bit : ℕ → List ℕ
      with_bit i = flipped ram (8 * start + i)

      abbrev matters : ℕ → Bool
      matters i = changes q base ram (8 * start + i)

      -- the word with a bit the other way
      abbrev other : ℕ → ℕ
      other i = little_endian (with_bit i) 8 start

      abbrev goes : ℕ → Bool
      goes d = valid d && leads p l d

      in-ram : within base (length ram) 8 at ≡ true
      in-ram = (word-inside base ram at desc word).0

      word-is : little_endian ram 8 start ≡ desc
      word-is = (word-inside base ram at desc word).1

      word-with : (i : ℕ) → word_at base (with_bit i) 8 at ≡ Some (other i)
      unfolding word_at
      word-with i = rw (length-flipped ram (8 * start + i), in-ram) refl

      change-is : (i : ℕ) → (goes (other i) && goes desc) ≡ false → matters i ≡ (goes (other i) || goes desc)
      change-is i z = differ (4 + l.level) _ _ _ _ (answer-by (with_bit i) (other i) (word-with i)) (answer-by ram desc word) z

      low-0 : (valid (other 0) ≡ not (valid desc)) × (table_or_page (other 0) ≡ table_or_page desc)
      low-0 =
          let room : 8 * start + 0 < 8 * length ram = grind (arith, in-ram) in
          grind (
            arith,
            word-is,
            valid-is ram start,
            valid-is (with_bit 0) start,
            flip-turned ram (8 * start + 0) room,
            table-is ram start,
            table-is (with_bit 0) start,
            flip-kept ram (8 * start + 0) (8 * start + 1),
          )

      low-1 : (valid (other 1) ≡ valid desc) × (table_or_page (other 1) ≡ not (table_or_page desc))
      low-1 =
          let room : 8 * start + 1 < 8 * length ram = grind (arith, in-ram) in
          grind (
            arith,
            word-is,
            valid-is ram start,
            valid-is (with_bit 1) start,
            flip-turned ram (8 * start + 1) room,
            table-is ram start,
            table-is (with_bit 1) start,
            flip-kept ram (8 * start + 1) (8 * start + 0),
          )

      low-above : (i : ℕ) → 1 ≤ i → valid (other i) ≡ valid desc
      low-above i h = grind (arith, word-is, valid-is ram start, valid-is (with_bit i) start, flip-kept ram (8 * start + i) (8 * start + 0))

      bit-0 : matters 0 ≡ leads p l desc
      bit-0 = grind (arith, change-is 0, low-0)

      bit-1 : leads p l desc ≡ false → matters 1 ≡ valid desc
      bit-1 t = grind (arith, change-is 1, low-1)

      no-bit : valid desc ≡ false → leads p l desc ≡ false → (i : ℕ) → i < 64 → matters i ≡ false
      no-bit v t zero h = bit-0 ∙ t
      no-bit v t (suc i) h = grind (arith, change-is (suc i), low-above (suc i))

      found-at : (i : ℕ) → i < 64 → ((j : ℕ) → j < i → matters j ≡ false) → matters i ≡ true → first_flip q base ram ≡ Some (record { pa = at; bit = i })
      unfolding first_flip first_in
      found-at i h none change =
          let found = find-here (λ f. changes q base ram (number_of_bit base f)) 64 (λ j. record { pa = at; bit = j }) i h none change in
          rw (descriptors-are, in-ram, found) refl

      found-by : (v t : Bool) → valid desc ≡ v → leads p l desc ≡ t → first_flip q base ram ≡ told_by at v t
      unfolding first_flip lookup_next first_in
      found-by v true ev et = found-at 0 (omega arith) (λ j h. absurd (omega arith)) (bit-0 ∙ et)
      found-by true false ev et = found-at 1 (omega arith) (λ j h. let z : j ≡ 0 = omega arith in rw z (bit-0 ∙ et)) (bit-1 et ∙ ev)
      found-by false false ev et =
          let none = find-nowhere (λ f. changes q base ram (number_of_bit base f)) 64 (λ j. record { pa = at; bit = j }) (no-bit ev et) in
          rw (descriptors-are, word, invalid-next p va l desc ev, in-ram, none) refl

-- WHAT IS FOUND, told by the first table and the word read in it

abbrev told_in : ℕ → Bool → Option ℕ → Option FlippedBit
told_in d blocks None = None
told_in d blocks (Some desc) = told_by d (valid desc) (table_or_page desc || blocks)

abbrev told_at : Question → ℕ → List ℕ → Option Lookup → Option FlippedBit
told_at q base ram None = None
told_at q base ram (Some l) =
    told_in (descriptor_in q l) (has_blocks (params_at q.bank q.regime (address_of q)).largegrain l.level) (word_at base ram 8 (descriptor_in q l))

module _ (q : Question) (base : ℕ) (ram : List ℕ) where
  nothing-read : first_table q ≡ None → descriptors q base ram ≡ []
  unfolding first_table fetches_of fetches_range
  nothing-read e = grind arith

  pub not-begun : first_table q ≡ None → (descriptors q base ram ≡ []) × (first_flip q base ram ≡ None)
  unfolding first_flip
  not-begun e = (nothing-read e, rw (nothing-read e) refl)

  pub fetched : (l : Lookup) → first_table q ≡ Some l → slice_get (descriptors q base ram) 0 ≡ Some (descriptor_in q l)
  fetched l e = first-fetched q base l (begun q l e) ram

  pub outside : (l : Lookup) → first_table q ≡ Some l → word_at base ram 8 (descriptor_in q l) ≡ None → first_flip q base ram ≡ None
  outside l e n = first-outside q base l (begun q l e) ram n

  told-word : (l : Lookup) (desc : ℕ) → first_table q ≡ Some l → word_at base ram 8 (descriptor_in q l) ≡ Some desc
      → first_flip q base ram ≡ told_in (descriptor_in q l) (has_blocks (params_at q.bank q.regime (address_of q)).largegrain l.level) (Some desc)
  told-word l desc e w = found-by q base l (begun q l e) ram desc w _ _ refl refl

  told : first_flip q base ram ≡ told_at q base ram (first_table q)
  told = go (first_table q) refl
    where
      go : (t : Option Lookup) → first_table q ≡ t → first_flip q base ram ≡ told_at q base ram t
      go None e = (not-begun e).1
      go (Some l) e = by-word (word_at base ram 8 (descriptor_in q l)) refl
        where
          by-word : (w : Option ℕ) → word_at base ram 8 (descriptor_in q l) ≡ w
              → first_flip q base ram ≡ told_in (descriptor_in q l) (has_blocks (params_at q.bank q.regime (address_of q)).largegrain l.level) w
          by-word None w = outside l e w
          by-word (Some desc) w = told-word l desc e w

  pub no-other : (f : FlippedBit) → first_flip q base ram ≡ Some f → (slice_get (descriptors q base ram) 0 ≡ Some f.pa) × (f.bit ≤ 1)
  no-other f h = grind (arith, told, fetched)

-- an access of another kind or for another view finds the same
pub any-access : (q : Question) (user : Bool) (kind : Kind) (base : ℕ) (ram : List ℕ)
    → first_flip (record q { user = user; kind = kind }) base ram ≡ first_flip q base ram
unfolding first_table
any-access q user kind base ram = told (record q { user = user; kind = kind }) base ram ∙ sym (told q base ram)

-- BITS 1:0 of the word

pub bits-11 : EachFirst (λ blocks desc bit_of found. bits desc 1 0 ≡ 3 → found ≡ Some (bit_of 0))
bits-11 q base ram l desc e word h = grind (arith, told-word q base ram l desc e word)

pub bits-10 : EachFirst (λ blocks desc bit_of found. bits desc 1 0 ≡ 2 → found ≡ Some (bit_of 0))
bits-10 q base ram l desc e word h = grind (arith, told-word q base ram l desc e word)

pub bits-01-block : EachFirst (λ blocks desc bit_of found. bits desc 1 0 ≡ 1 → blocks ≡ true → found ≡ Some (bit_of 0))
bits-01-block q base ram l desc e word h k = grind (arith, told-word q base ram l desc e word)

pub bits-01 : EachFirst (λ blocks desc bit_of found. bits desc 1 0 ≡ 1 → blocks ≡ false → found ≡ Some (bit_of 1))
bits-01 q base ram l desc e word h k = grind (arith, told-word q base ram l desc e word)

pub bits-00-block : EachFirst (λ blocks desc bit_of found. bits desc 1 0 ≡ 0 → blocks ≡ true → found ≡ Some (bit_of 0))
bits-00-block q base ram l desc e word h k = grind (arith, told-word q base ram l desc e word)

pub bits-00 : EachFirst (λ blocks desc bit_of found. bits desc 1 0 ≡ 0 → blocks ≡ false → found ≡ None)
bits-00 q base ram l desc e word h k = grind (arith, told-word q base ram l desc e word)

pub ruleset first_laws = (any-access, not-begun, fetched, outside, bits-11, bits-10, bits-01-block, bits-01, bits-00-block, bits-00, no-other)
