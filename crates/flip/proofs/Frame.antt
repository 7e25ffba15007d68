-- A flipped bit that no descriptor of the walk has changes no answer; so where nothing is found, no bit of RAM changes it.
use Rattle.std.specs.Prelude.{◌≡◌, ◌≢◌, Bool, List, [], ◌∷◌, length, Option, None}
use Rattle.std.specs.List.{All}
use Rattle.std.proofs.lemmas.Bool.{not-false, le-leb}
use Rattle.std.proofs.lemmas.List.Elements.{All-head, All-tail}
use Rattle.std.proofs.Common.{subst, refl, sym, arith, eqb-true}
use Rattle.std.proofs.Math.Bool.{true, false}
use Prim.Native.Nat.{ℕ, ◌+◌, ◌-◌, ◌*◌, ◌/◌, ◌<◌, ◌≤◌}
use mathlib.Core.List.{Memᴰ}
use Rattle.word.specs.Ram.{within, word_at}
use Rattle.walk.specs.Regime.{stage1_on, untagged}
use Rattle.walk.specs.Walk.{walk_of, fresh_of, fetches_of}
use Rattle.walk.proofs.Loop.{bytes-agree}
use Rattle.tlb.specs.Answers.{Answer}
use Rattle.tlb.specs.Translate.{fresh_answer}
use Rattle.flip.specs.Question.{answer_on, same_answer}
use Rattle.flip.specs.Flip.{flipped, number_of_bit, find_map, changes, descriptors, first_in, first_flip}
use Rattle.flip.specs.Laws.{IsOutside}
use Rattle.flip.specs.declared.{Question.Question}
use Rattle.flip.proofs.Flipping.{length-flipped, other-byte}
use Rattle.flip.proofs.Search.{find-none}

-- a fact of all is one of each member
pub all-mem : {A : Type 0} (P : A → Type 0) (ds : List A) → All P ds → (d : A) → Memᴰ d ds → P d
all-mem P [] h d m = elim m [ ]
all-mem P (x ∷ ds) h d (Memᴰ.head e) = subst P (sym e) (All-head P x ds h)
all-mem P (x ∷ ds) h d (Memᴰ.tail m) = all-mem P ds (All-tail P x ds h) d m

-- ELSEWHERE

module _ (q : Question) (base n : ℕ) (ram : List ℕ) where
  abbrev address : ℕ
  address = untagged q.bank.tcr q.regime q.va

  not-of : (d : ℕ) → IsOutside base ram n d → base ≤ d → d + 8 ≤ base + length ram → (i : ℕ) → i < 8 → d - base + i ≢ n / 8
  not-of d h low high i k = grind (arith, le-leb)

  walk-same : ((d : ℕ) → Memᴰ d (fetches_of q.bank q.regime address (word_at base ram 8)) → IsOutside base ram n d)
      → walk_of q.bank q.regime address (word_at base ram 8) ≡ walk_of q.bank q.regime address (word_at base (flipped ram n) 8)
  walk-same h =
      bytes-agree q.bank q.regime address base ram (flipped ram n) (sym (length-flipped ram n))
      (λ a m low high i k. sym (other-byte ram n (a - base + i) (not-of a (h a m) low high i k)))

  pub outside-all : ((d : ℕ) → Memᴰ d (descriptors q base ram) → IsOutside base ram n d) → answer_on q base (flipped ram n) ≡ answer_on q base ram
  unfolding fresh_answer fresh_of
  outside-all h = go (stage1_on q.bank q.regime) refl
    where
      go : (on : Bool) → stage1_on q.bank q.regime ≡ on → answer_on q base (flipped ram n) ≡ answer_on q base ram
      go true e = rw (walk-same (rw e at h)) refl
      go false e = rw e refl

pub elsewhere : (q : Question) (base : ℕ) (ram : List ℕ) (n : ℕ) → All (IsOutside base ram n) (descriptors q base ram)
    → answer_on q base (flipped ram n) ≡ answer_on q base ram
elsewhere q base ram n h = outside-all q base n ram (all-mem (IsOutside base ram n) (descriptors q base ram) h)

-- NONE ANYWHERE

pub same-is : (a b : Answer) → same_answer a b ≡ true → a ≡ b
same-is a b e = grind (arith, eqb-true)

none-each : {A B : Type 0} (f : A → Option B) (ds : List A) → find_map f ds ≡ None → (d : A) → Memᴰ d ds → f d ≡ None
none-each f [] e d m = elim m [ ]
none-each f (x ∷ ds) e d (Memᴰ.head r) = grind (arith, r)
none-each f (x ∷ ds) e d (Memᴰ.tail m) = none-each f ds (grind arith) d m

module _ (q : Question) (base : ℕ) (ram : List ℕ) (none : first_flip q base ram ≡ None) (n : ℕ) where
  -- were it one of such a descriptor, it would be found
  bit-of : (d : ℕ) → 8 * (d - base) ≤ n → n < 8 * (d - base) + 64 → within base (length ram) 8 d ≡ true → first_in q base ram d ≡ None
      → changes q base ram n ≡ false
  unfolding first_in
  bit-of d low high w e =
      let b : 8 * (d - base) + (n - 8 * (d - base)) ≡ n = omega arith in
      rw b at (find-none (λ f. changes q base ram (number_of_bit base f)) 64 (λ i. record { pa = d; bit = i }) (rw w at e) (n - 8 * (d - base)) (omega arith))

  each-outside : changes q base ram n ≡ true → (d : ℕ) → Memᴰ d (descriptors q base ram) → IsOutside base ram n d
  unfolding first_flip
  each-outside e d m w =
      let off = λ (low : 8 * (d - base) ≤ n) (high : n < 8 * (d - base) + 64).
      bit-of d low high w (none-each (first_in q base ram) (descriptors q base ram) none d m) in
      grind (arith, off)

  pub none-anywhere : answer_on q base (flipped ram n) ≡ answer_on q base ram
  none-anywhere = go (changes q base ram n) refl
    where
      go : (b : Bool) → changes q base ram n ≡ b → answer_on q base (flipped ram n) ≡ answer_on q base ram
      go true e = outside-all q base n ram (each-outside e)
      go false e = same-is _ _ (not-false _ e)

pub ruleset frame_laws = (elsewhere, none-anywhere)
