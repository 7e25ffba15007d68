-- The search of a descriptor's bits, and of the descriptors.
use Rattle.std.specs.Prelude.{if◌then◌else◌, ◌≡◌, refl, ℕ, ◌+◌, ◌-◌, ◌*◌, ◌<◌, ◌≤◌, Bool, true, false, List, drop, length, Option, Some, None, is_some}
use Rattle.std.proofs.Common.{sym, ap, ◌∙◌, arith}
use borrow.Author.Count.{below_none, below_more}
use Rattle.std.specs.Option.{option_or}
use Rattle.word.specs.Ram.{within, word_at}
use Rattle.walk.specs.Answers.{Visited}
use Rattle.walk.specs.Walk.{fetches_of}
use Rattle.walk.specs.Order.{params_at}
use Rattle.walk.specs.Regime.{stage1_on}
use Rattle.walk.specs.Regime.{untagged}
use Rattle.walk.specs.State.{visit_of, seen_as}
use Rattle.walk.specs.declared.table.Visit.{Visit}
use Rattle.walk.proofs.Order.{visit-some, visit-none, visits-end}
use Rattle.tlb.specs.Answers.{Answer}
use Rattle.flip.specs.Question.{answer_on, same_answer}
use Rattle.flip.specs.Flip.{flipped, changes, number_of_bit, find_map, first_in, first_flip}
use Rattle.flip.specs.declared.{FlippedBit.FlippedBit, Question.Question}
use Rattle.flip.proofs.Search.{find-here, find-nowhere}

module _ (q : Question) (base : ℕ) (ram : List ℕ) where
  -- no bit of the eight bytes from at that is below n changes the answer
  abbrev pub NoneBelow : ℕ → ℕ → Type 0
  NoneBelow at n = (i : ℕ) → i < n → changes q base ram (8 * at + i) ≡ false

  pub none-below-0 : (at : ℕ) → NoneBelow at 0
  none-below-0 at = below_none (λ i. changes q base ram (8 * at + i) ≡ false)

  module _ (answer : Answer) (is : answer ≡ answer_on q base ram) (at bit : ℕ) (r : Answer) (ran : r ≡ answer_on q base (flipped ram (8 * at + bit))) where
    pub here-changes : same_answer r answer ≡ false → changes q base ram (8 * at + bit) ≡ true
    here-changes h = rw (← is, ← ran, h) refl

    pub here-keeps : same_answer r answer ≡ true → changes q base ram (8 * at + bit) ≡ false
    here-keeps h = rw (← is, ← ran, h) refl

  pub none-more : (at bit : ℕ) → NoneBelow at bit → changes q base ram (8 * at + bit) ≡ false → NoneBelow at (bit + 1)
  none-more at bit b h = below_more (λ i. changes q base ram (8 * at + i) ≡ false) bit b h

  module _ (d : ℕ) (x : Option ℕ) (e : x ≡ (if within base (length ram) 8 d then Some (d - base) else None)) where
    pub outside : x ≡ None → None ≡ first_in q base ram d
    unfolding first_in
    outside h = grind arith

    inside : (at : ℕ) → x ≡ Some at → (within base (length ram) 8 d ≡ true) × (at ≡ d - base)
    inside at h = grind arith

    module _ (at : ℕ) (h : x ≡ Some at) where
      pub found-bit : (bit : ℕ) → bit < 64 → NoneBelow at bit → changes q base ram (8 * at + bit) ≡ true
          → Some (record { pa = d; bit = bit }) ≡ first_in q base ram d
      unfolding first_in
      found-bit bit l b c =
          let p = inside at h in
          rw (p.0) (sym (find-here (λ f. changes q base ram (number_of_bit base f)) 64 (λ i. record { pa = d; bit = i }) bit l (rw (p.1) at b) (rw (p.1) at c)))

      pub found-none : NoneBelow at 64 → None ≡ first_in q base ram d
      unfolding first_in
      found-none b = grind (arith, find-nowhere (λ f. changes q base ram (number_of_bit base f)) 64 (λ i. record { pa = d; bit = i }))

pub ruleset bits_tried = (outside, here-changes, here-keeps, none-below-0, none-more, found-bit, found-none)

-- THE DESCRIPTORS

module _ (q : Question) (base : ℕ) (ram : List ℕ) where
  pub stage-off : (x : Bool) → x ≡ stage1_on q.bank q.regime → x ≡ false → None ≡ first_flip q base ram
  unfolding first_flip
  stage-off x e h = rw (← e, h) refl

  -- what the descriptors from the n-th on give
  abbrev pub rest_from : ℕ → Option FlippedBit
  rest_from n = find_map (first_in q base ram) (drop n (fetches_of q.bank q.regime (untagged q.bank.tcr q.regime q.va) (word_at base ram 8)))

  pub rest-begins : (x : Bool) → x ≡ stage1_on q.bank q.regime → x ≡ true → first_flip q base ram ≡ rest_from 0
  unfolding first_flip
  rest-begins x e h = rw (← e, h) refl

  pub rest-ends : (n : ℕ) → 4 ≤ n → n ≤ 4 → first_flip q base ram ≡ rest_from n → None ≡ first_flip q base ram
  rest-ends n a b h =
      let e : n ≡ 4 = omega arith in
      sym ((rw e at h) ∙ ap (find_map (first_in q base ram)) (visits-end q.bank q.regime (untagged q.bank.tcr q.regime q.va) (word_at base ram 8)))

  module _ (va n : ℕ) (is : va ≡ untagged q.bank.tcr q.regime q.va) (so : first_flip q base ram ≡ rest_from n) (v : Visited)
      (seen : seen_as (params_at q.bank q.regime va) v ≡ visit_of q.bank q.regime va (word_at base ram 8) n) where
    pub rest-past : v ≡ None → None ≡ first_flip q base ram
    rest-past e =
        let gone = visit-none q.bank q.regime va (word_at base ram 8) n (rw e at seen) in
        sym (so ∙ ap (find_map (first_in q base ram)) (rw is at gone))

    at-visit : (w : Visit) → v ≡ Some w → first_flip q base ram ≡ option_or (first_in q base ram w.at) (rest_from (n + 1))
    at-visit w e =
        let more = visit-some q.bank q.regime va (word_at base ram 8) n w (rw e at seen) in
        so ∙ ap (find_map (first_in q base ram)) (rw is at more)

    pub rest-found : (w : Visit) → v ≡ Some w → (r : Option FlippedBit) → r ≡ first_in q base ram w.at → is_some r ≡ true → r ≡ first_flip q base ram
    rest-found w e r h s = grind (arith, at-visit w e)

    pub rest-more : (w : Visit) → v ≡ Some w → (r : Option FlippedBit) → r ≡ first_in q base ram w.at → is_some r ≡ false → first_flip q base ram ≡ rest_from (n + 1)
    rest-more w e r h s = grind (arith, at-visit w e)

pub ruleset descriptors_tried = (stage-off, rest-begins, rest-ends, rest-past, rest-found, rest-more)
