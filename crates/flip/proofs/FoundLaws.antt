-- What is found, by conditions, both ways.
use Rattle.std.specs.Prelude.{◌≡◌, ◌≢◌, refl, ℕ, ◌+◌, ◌<◌, ◌≤◌, Bool, true, false, not, List, length, Option, Some, None, slice_get, slice_index}
use Rattle.std.proofs.Common.{inl, inr, sym, ap, ◌∙◌, arith}
use Rattle.word.specs.Tables.{table}
use Rattle.word.specs.Ram.{within, word_at}
use Rattle.word.proofs.RamLaws.{within_low, within-high}
use Rattle.walk.specs.Regime.{stage1_on, untagged}
use Rattle.walk.specs.Walk.{fetches_of}
use Rattle.tlb.specs.Answers.{Answer}
use Rattle.flip.specs.Question.{answer_on, same_answer}
use Rattle.flip.specs.Flip.{changes, number_of_bit, bits_of, find_map, first_in, first_flip}
use Rattle.flip.specs.Found.{turned, Earlier, IsBitOf, NoneBefore}
use Rattle.flip.specs.declared.{FlippedBit.FlippedBit, Question.Question}
use Rattle.flip.proofs.Frame.{same-is, none-anywhere}
use Rattle.flip.proofs.Search.{find-none, found-passes, found-all, found-before, place, first-gives, first-stands, first-before}

module _ (q : Question) (base : ℕ) (ram : List ℕ) where
  abbrev fetched : List ℕ
  fetched = fetches_of q.bank q.regime (untagged q.bank.tcr q.regime q.va) (word_at base ram 8)

  abbrev bit_of : ℕ → ℕ → FlippedBit
  bit_of d b = record { pa = d; bit = b }

  abbrev matters : FlippedBit → Bool
  matters f = changes q base ram (number_of_bit base f)

  bits-are : (d : ℕ) → bits_of d ≡ table 64 (bit_of d)
  bits-are d = refl

  in-word : (d : ℕ) (f : FlippedBit) → first_in q base ram d ≡ Some f
      → (within base (length ram) 8 d ≡ true) × ((f.pa ≡ d) × ((f.bit < 64) × (matters f ≡ true)))
  unfolding first_in
  in-word d f e =
      grind (
        arith,
        bits-are d,
        found-passes matters 64 (bit_of d) f,
        found-all matters (λ f. f.pa ≡ d) 64 (bit_of d) f (λ i l. refl),
        found-all matters (λ f. f.bit < 64) 64 (bit_of d) f (λ i l. l),
      )

  in-before : (d : ℕ) (f : FlippedBit) → first_in q base ram d ≡ Some f → (b : ℕ) → b < f.bit → matters (bit_of d b) ≡ false
  unfolding first_in
  in-before d f e = grind (arith, bits-are d, found-before matters (λ f. f.bit) 64 0 (bit_of d) f (λ i. omega arith))

  in-none : (d : ℕ) → first_in q base ram d ≡ None → within base (length ram) 8 d ≡ true → (b : ℕ) → b < 64 → matters (bit_of d b) ≡ false
  unfolding first_in
  in-none d e w = find-none matters 64 (bit_of d) (rw (w, bits-are d) at e)

  is-on : (f : FlippedBit) → first_flip q base ram ≡ Some f → (stage1_on q.bank q.regime ≡ true) × (find_map (first_in q base ram) fetched ≡ Some f)
  unfolding first_flip
  is-on f e = grind arith

  lies-inside : (n : ℕ) (g : FlippedBit) → IsBitOf q base ram n g → within base (length ram) 8 g.pa ≡ true
  lies-inside n g b = let lo : base ≤ g.pa = b.begins in let hi : g.pa + 8 ≤ base + length ram = b.ends in grind arith

  same-equal : (a b : Answer) → not (same_answer a b) ≡ false → a ≡ b
  same-equal a b e = grind (arith, same-is)

  same-place : (n m d e : ℕ) → m ≡ n → slice_get fetched n ≡ Some d → slice_get fetched m ≡ Some e → d ≡ e
  same-place n m d e z a b = cc

  module _ (f : FlippedBit) (e : first_flip q base ram ≡ Some f) where
    abbrev number : ℕ
    number = place (first_in q base ram) fetched

    found-in : first_in q base ram (slice_index fetched number) ≡ Some f
    found-in = first-gives (first_in q base ram) fetched f (is-on f e).1

    pub found-changes : turned q base ram f ≢ answer_on q base ram
    found-changes h = let w = in-word (slice_index fetched number) f found-in in grind arith

    place-found : IsBitOf q base ram number f
    place-found =
        let w = in-word (slice_index fetched number) f found-in in
        let s = first-stands (first_in q base ram) fetched f (is-on f e).1 in
        record {
          on = (is-on f e).0;
          fetched = s ∙ ap Some (sym w.1.0);
          begins = grind (arith, within_low);
          ends = grind (arith, within-high);
          bit = w.1.1.0;
        }

    before-found : NoneBefore q base ram number f
    before-found m g b (inl l) =
        same-equal _ _ (in-none g.pa (first-before (first_in q base ram) fetched m g.pa l b.fetched) (lies-inside m g b) g.bit b.bit)
    before-found m g b (inr p) =
        let w = in-word (slice_index fetched number) f found-in in
        let d = same-place number m f.pa g.pa p.0 place-found.fetched b.fetched in
        same-equal _ _ (rw (← w.1.0, d) at (in-before (slice_index fetched number) f found-in g.bit p.1))

  pub found-none : first_flip q base ram ≡ None → (n : ℕ) (f : FlippedBit) → IsBitOf q base ram n f → turned q base ram f ≡ answer_on q base ram
  found-none e n f b = none-anywhere q base ram e (number_of_bit base f)

  pub found-first : (f : FlippedBit) → first_flip q base ram ≡ Some f → (n : ℕ) × (IsBitOf q base ram n f × NoneBefore q base ram n f)
  found-first f e = (number f e, (place-found f e, before-found f e))

  pub none-found : ((n : ℕ) (f : FlippedBit) → IsBitOf q base ram n f → turned q base ram f ≡ answer_on q base ram) → first_flip q base ram ≡ None
  none-found h = go (first_flip q base ram) refl
    where
      go : (x : Option FlippedBit) → first_flip q base ram ≡ x → first_flip q base ram ≡ None
      go None e = e
      go (Some f) e = absurd (found-changes f e (h (number f e) f (place-found f e)))

  pub bit-found : (n : ℕ) (f : FlippedBit) → IsBitOf q base ram n f → turned q base ram f ≢ answer_on q base ram → NoneBefore q base ram n f
      → first_flip q base ram ≡ Some f
  bit-found n f b c none = go (first_flip q base ram) refl
    where
      go : (x : Option FlippedBit) → first_flip q base ram ≡ x → first_flip q base ram ≡ Some f
      go None e = absurd (c (found-none e n f b))
      go (Some g) e =
          let not-later : Earlier (number g e) g n f → ⊥ = λ l. found-changes g e (none (number g e) g (place-found g e) l) in
          let not-sooner : Earlier n f (number g e) g → ⊥ = λ l. c (before-found g e n f b l) in
          let same = same-place n (number g e) f.pa g.pa in
          grind (arith, not-later, not-sooner, same, b.fetched, (place-found g e).fetched)
