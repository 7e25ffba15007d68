-- A core out of its own words: nothing is lost but what no word holds.
use Rattle.std.specs.Prelude.{if◌then◌else◌, ◌==◌, slice_index, slice_index_or}
use Rattle.std.proofs.Common.{◌≡◌, ℕ, zero, suc, ◌+◌, ◌-◌, ◌*◌, ◌/◌, ◌%◌, ◌^◌, ◌<◌, ◌≤◌, Bool, true, false, ltb, List, [], ◌∷◌, length, Option, Some}
use Rattle.std.proofs.Common.{None, sym, refl, ap, ◌∙◌, arith, lt-ltb, le-ltb, ltb-true, ltb-false, mod-eq_of_lt}
use Rattle.std.proofs.lemmas.List.{get_or_past}
use Rattle.word.specs.Bits.{flag, bit_on, field}
use Rattle.word.specs.Tables.{table, table_at, table-past}
use Rattle.tlb.specs.Tlb.{hint_at, entry_at, blank, no_hint}
use Rattle.tlb.specs.declared.{count.Tally.Tally, entry.Entry.Entry, hint.FetchHint.FetchHint, Inval.Inval}
use Rattle.tlb.specs.declared.Inval.TheVariants.{All, Page, Asid}
use Rattle.cpu.specs.declared.Core.{Core}
use Rattle.saved.specs.CoreOf.{word, level_in, pending_of, hint_in, entry_of, entry_in, core_on, core_by, core_of}
use Rattle.saved.specs.WordsOf.{level_words, pending_kind, pending_value, fetch_known, fetch_or_zeros, hint_word, attributes, entry_word, word_of}
use Rattle.saved.specs.WordsOf.{words_of, held}
use Rattle.saved.specs.Places.{WORDS, GENERAL, LEVEL, HINTS, HINT-PA, ENTRIES, ENTRY-GENERATION, ENTRY-ATTRIBUTES, ENTRY-PA, LEVEL-HITS}
use Rattle.saved.specs.Fits.{EntryFits, FetchFits, PendingFits, Fits}
use Rattle.saved.proofs.Filling.{table_is}

-- A WORD OF A CORE BY ITS PLACE

module _ (c : Core) where
  pub general_word : (n : ℕ) → n < 31 → word_of c (GENERAL + n) ≡ slice_index c.x n
  unfolding word_of
  general_word n h =
      rw (le-ltb (GENERAL + n) 37 (omega arith), lt-ltb (GENERAL + n) LEVEL (omega arith))
      (let z : GENERAL + n - GENERAL ≡ n = omega arith in ap (slice_index c.x) z)

  pub hint_words : (i k : ℕ) → i < 512 → k < 2 → word_of c (HINTS + i * 2 + k) ≡ hint_word (hint_at c.tlb i) k
  unfolding word_of
  hint_words i k h l =
      let p : ℕ = HINTS + i * 2 + k in
      let at : (p - HINTS) / 2 ≡ i = omega arith in
      let part : (p - HINTS) % 2 ≡ k = omega arith in
      rw (le-ltb p 37 (omega arith), le-ltb p LEVEL (omega arith), le-ltb p HINTS (omega arith), lt-ltb p ENTRIES (omega arith))
      (λ q. hint_word (hint_at c.tlb (at q)) (part q))

  pub entry_words : (j k : ℕ) → j < 1024 → k < 4 → word_of c (ENTRIES + j * 4 + k) ≡ entry_word (entry_at c.tlb j) k
  unfolding word_of
  entry_words j k h l =
      let p : ℕ = ENTRIES + j * 4 + k in
      let at : (p - ENTRIES) / 4 ≡ j = omega arith in
      let part : (p - ENTRIES) % 4 ≡ k = omega arith in
      rw (
        le-ltb p 37 (omega arith),
        le-ltb p LEVEL (omega arith),
        le-ltb p HINTS (omega arith),
        le-ltb p ENTRIES (omega arith),
        lt-ltb p LEVEL-HITS (omega arith),
      )
      (λ q. entry_word (entry_at c.tlb (at q)) (part q))

  pub past_words : (p : ℕ) → WORDS ≤ p → word_of c p ≡ 0
  unfolding word_of
  past_words p h =
      rw (
        le-ltb p 37 (omega arith),
        le-ltb p LEVEL (omega arith),
        le-ltb p HINTS (omega arith),
        le-ltb p ENTRIES (omega arith),
        le-ltb p LEVEL-HITS (omega arith),
      )
      (get_or_past (level_words c) (p - LEVEL-HITS) 0 (omega arith))

  -- among the saved words
  pub word_of_saved : (p : ℕ) → word (words_of c) p ≡ word_of c p
  unfolding words_of
  word_of_saved p = go (ltb p WORDS) refl
    where
      go : (b : Bool) → ltb p WORDS ≡ b → word (table WORDS (word_of c)) p ≡ word_of c p
      go true e = table_at WORDS (word_of c) p 0 (ltb-true p WORDS e)
      go false e = let out : WORDS ≤ p = ltb-false p WORDS e in table-past WORDS (word_of c) p 0 out ∙ sym (past_words p out)

-- PARTS BACK

flag-is : (b : Bool) → (flag b 1 == 1) ≡ b
flag-is true = refl
flag-is false = refl

level-is : (n : ℕ) → n < 2 ^ 8 → level_in n ≡ n
level-is n h = rw (lt-ltb n 256 h)

pending-is : (p : Option Inval) → PendingFits p → pending_of (pending_kind p) (pending_value p) ≡ p
pending-is None h = refl
pending-is (Some All) h = refl
pending-is (Some (Page p)) h = refl
pending-is (Some (Asid n)) h = ap (λ (m : ℕ). Some (Asid m)) (mod-eq_of_lt h)

-- permissions, level, the bit and the ASID out of their word
module _ (e : Entry) (p : e.perms < 2 ^ 8) (l : e.level < 2 ^ 8) (a : e.asid < 2 ^ 16) where
  one_bit : (b : Bool) → flag b 1 ≤ 1
  one_bit true = omega arith
  one_bit false = omega arith

  perms-back : attributes e % 2 ^ 8 ≡ e.perms
  unfolding attributes
  perms-back = let g : flag e.global 1 ≤ 1 = one_bit e.global in omega arith

  level-back : field (attributes e) 8 8 ≡ e.level
  unfolding attributes
  level-back = let g : flag e.global 1 ≤ 1 = one_bit e.global in omega arith

  global-word : attributes e / 2 ^ 16 % 2 ≡ flag e.global 1
  unfolding attributes
  global-word = let g : flag e.global 1 ≤ 1 = one_bit e.global in omega arith

  global-back : bit_on (attributes e) 16 ≡ e.global
  global-back = ap (λ (n : ℕ). n == 1) global-word ∙ flag-is e.global

  asid-back : field (attributes e) 32 16 ≡ e.asid
  unfolding attributes
  asid-back = let g : flag e.global 1 ≤ 1 = one_bit e.global in omega arith

  entry-back : e.generation < 2 ^ 32 → entry_of e.tag e.generation (attributes e) e.pa ≡ e
  entry-back h =
      λ i.
      record {
        tag = e.tag;
        generation = mod-eq_of_lt h i;
        perms = perms-back i;
        level = level-back i;
        global = global-back i;
        asid = asid-back i;
        pa = e.pa;
      }

tallies-back : (xs : List Tally) (d : Tally) → length xs ≡ 4
    → slice_index_or xs 0 d ∷ slice_index_or xs 1 d ∷ slice_index_or xs 2 d ∷ slice_index_or xs 3 d ∷ [] ≡ xs
tallies-back [] d h = absurd (omega (arith, h))
tallies-back (a ∷ []) d h = absurd (omega (arith, h))
tallies-back (a ∷ b ∷ []) d h = absurd (omega (arith, h))
tallies-back (a ∷ b ∷ e ∷ []) d h = absurd (omega (arith, h))
tallies-back (a ∷ b ∷ e ∷ f ∷ []) d h = refl
tallies-back (a ∷ b ∷ e ∷ f ∷ g ∷ xs) d h = absurd (omega (arith, h))

-- inside a list the default does not matter
same-default : {A : Type 0} (xs : List A) (k : ℕ) (e d : A) → k < length xs → slice_index_or xs k e ≡ slice_index_or xs k d
same-default [] k e d h = absurd (omega arith)
same-default (x ∷ xs) zero e d h = refl
same-default (x ∷ xs) (suc k) e d h = same-default xs k e d (omega arith)

-- a list is the table of what stands at its places
table-back : {A : Type 0} (n : ℕ) (f : ℕ → A) (xs : List A) (d : A) → length xs ≡ n → ((k : ℕ) → k < n → f k ≡ slice_index_or xs k d) → table n f ≡ xs
table-back n f xs d l h = sym (table_is f n xs l (λ k e q. same-default xs k e d (omega (arith, l)) ∙ sym (h k q)))

fetch-back : (x : Option FetchHint) → FetchFits x
    → (if fetch_known x == 1 then Some (record { page = (fetch_or_zeros x).page; level = (fetch_or_zeros x).level % 2 ^ 8; pa = (fetch_or_zeros x).pa })
    else None) ≡ x
fetch-back None q = refl
fetch-back (Some f) q = λ i. Some (record { page = f.page; level = mod-eq_of_lt q i; pa = f.pa })

-- THE LAW

module _ (c : Core) (f : Fits c) where
  abbrev w : ℕ → ℕ
  w = word_of c

  general-back : table 31 (λ n. w (GENERAL + n)) ≡ c.x
  general-back = table-back 31 (λ n. w (GENERAL + n)) c.x 0 f.parts.general (general_word c)

  hints-back : table 512 (hint_in w) ≡ c.tlb.hints
  hints-back = table-back 512 (hint_in w) c.tlb.hints no_hint f.parts.hints back
    where
      back : (i : ℕ) → i < 512 → hint_in w i ≡ hint_at c.tlb i
      back i h =
          let k : w (HINTS + i * 2) ≡ (hint_at c.tlb i).key =
          (let z : HINTS + i * 2 ≡ HINTS + i * 2 + 0 = omega arith in ap w z) ∙ hint_words c i 0 h (omega arith) in
          let p : w (HINT-PA + i * 2) ≡ (hint_at c.tlb i).pa =
          (let z : HINT-PA + i * 2 ≡ HINTS + i * 2 + 1 = omega arith in ap w z) ∙ hint_words c i 1 h (omega arith) in
          λ q. record { key = k q; pa = p q }

  entries-back : table 1024 (entry_in w) ≡ c.tlb.entries
  entries-back = table-back 1024 (entry_in w) c.tlb.entries blank f.parts.entries back
    where
      back : (j : ℕ) → j < 1024 → entry_in w j ≡ entry_at c.tlb j
      back j h =
          let e : Entry = entry_at c.tlb j in
          let fits : EntryFits e = f.entries j h in
          let t : w (ENTRIES + j * 4) ≡ e.tag =
          (let z : ENTRIES + j * 4 ≡ ENTRIES + j * 4 + 0 = omega arith in ap w z) ∙ entry_words c j 0 h (omega arith) in
          let g : w (ENTRY-GENERATION + j * 4) ≡ e.generation =
          (let z : ENTRY-GENERATION + j * 4 ≡ ENTRIES + j * 4 + 1 = omega arith in ap w z) ∙ entry_words c j 1 h (omega arith) in
          let a : w (ENTRY-ATTRIBUTES + j * 4) ≡ attributes e =
          (let z : ENTRY-ATTRIBUTES + j * 4 ≡ ENTRIES + j * 4 + 2 = omega arith in ap w z) ∙ entry_words c j 2 h (omega arith) in
          let p : w (ENTRY-PA + j * 4) ≡ e.pa =
          (let z : ENTRY-PA + j * 4 ≡ ENTRIES + j * 4 + 3 = omega arith in ap w z) ∙ entry_words c j 3 h (omega arith) in
          (λ q. entry_of (t q) (g q) (a q) (p q)) ∙ entry-back e fits.perms fits.level fits.asid fits.generation

  by-words : core_by w ≡ held c
  unfolding core_by core_on word_of held
  by-words =
      λ i.
      record {
        privilege =
            record {
              level = level-is c.privilege.level f.parts.level i;
              unprivileged = flag-is c.privilege.unprivileged i;
            };
        flags =
            record {
              nzcv = mod-eq_of_lt f.parts.nzcv i;
              daif = mod-eq_of_lt f.parts.daif i;
              spsel = flag-is c.flags.spsel i;
            };
        pc = c.pc;
        x = general-back i;
        control = (held c).control;
        sys = (held c).sys;
        tlb =
            record {
              generation = mod-eq_of_lt f.parts.generation i;
              asid = mod-eq_of_lt f.parts.asid i;
              entries = entries-back i;
              fetch = fetch-back c.tlb.fetch f.parts.fetch i;
              hints = hints-back i;
              levels = tallies-back c.tlb.levels (record { hits = 0; walks = 0 }) f.parts.levels i;
              flushes = c.tlb.flushes;
              drops = c.tlb.drops;
              epoch = c.tlb.epoch;
              broadcast = pending-is c.tlb.broadcast f.parts.pending i;
            };
        last_pa = c.last_pa;
        abort_pa = c.abort_pa;
      }

  pub saved_again : core_of (words_of c) ≡ held c
  unfolding core_of
  saved_again = (λ i. core_by (λ p. word_of_saved c p i)) ∙ by-words
