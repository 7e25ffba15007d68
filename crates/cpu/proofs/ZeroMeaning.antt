-- A zeroing that is done leaves 64 zero bytes, and so does DC ZVA.
use Rattle.std.specs.Prelude.{◌≡◌, ℕ, zero, suc, ◌+◌, ◌-◌, ◌*◌, ◌/◌, ◌%◌, ◌^◌, ◌<◌, ◌≤◌, true, List, length, ◌≢◌, slice_index}
use Rattle.std.specs.Prelude.{Ok, Err}
use Rattle.std.proofs.Math.Path.{refl, ap}
use Rattle.std.proofs.Common.{sym, ◌∙◌}
use native.Mathlib.Omega.{arith}
use borrow.Author.Tests.{le-leb}
use Rattle.word.specs.Bits.{align_down}
use Rattle.word.specs.Ram.{within, word_at, stored}
use Rattle.tlb.specs.Live.{WellFormed}
use Rattle.tlb.specs.declared.access.Kind.TheVariants.{Write}
use Rattle.tlb.specs.Answers.{Answer}
use Rattle.cpu.specs.Core.{bank_now, reg_of}
use Rattle.cpu.proofs.BytesLaws.{stored-leaves}
use Rattle.cpu.proofs.PageLaws.{step-offset, Gives, gives-page, given, step_gives}
use Rattle.cpu.specs.Memory.{stepped_now, translate_of, write_of, ram_after_write}
use Rattle.cpu.specs.Bare.{Bare, bare_of}
use Rattle.cpu.specs.Says.{store as storing}
use Rattle.cpu.proofs.OpLaws.{ram-length, kept}
use Rattle.cpu.specs.declared.Core.{Core}
use Rattle.cpu.specs.System.{zero_of, zero_ram, sys_of, sys_ram}
use Rattle.word.proofs.RamLaws.{within_low, within-high}
use Rattle.cpu.proofs.ZeroLaws.{one-ram, none-ram, one-done, one-tlb, zeros-there, zeros-stay, store_va, store-va, zero-last, zero-ram-last}
use Rattle.cpu.proofs.ZeroLaws.{zero-done}
use Rattle.std.proofs.Common.{◌⊎◌, inl, inr}
use borrow.Author.Count.{below_more}
use Rattle.cpu.specs.OwnAddress.{LineZeroed, NeverCrosses, Zeroed, ZvaZeroes}

-- the translation that store j makes: of its own address, in the core and the RAM that the stores before it leave
abbrev pub store_answer : Core → ℕ → List ℕ → ℕ → ℕ → Answer
store_answer c base ram va j =
    (translate_of (zero_of j c base ram va).core (word_at base (zero_ram j c base ram va) 8) (va + 8 * j) Write).answer

-- of the first store, in the core and RAM as they stand
pub first-answer : (c : Core) (base : ℕ) (ram : List ℕ) (va : ℕ) → store_answer c base ram va 0 ≡ (translate_of c (word_at base ram 8) va Write).answer
unfolding zero_of zero_ram
first-answer c base ram va = ap (λ (a : ℕ). (translate_of c (word_at base ram 8) a Write).answer) (omega arith)

-- store j of n: where its translation says, eight bytes of RAM that are zero in the end
pub record StoreZeros (c : Core) (base : ℕ) (ram : List ℕ) (va n j : ℕ) : Type 0 where
  pub pa : ℕ
  pub answer : store_answer c base ram va j ≡ Ok pa
  pub inside : within base (length ram) 8 pa ≡ true
  pub zeros : (i : ℕ) → i < 8 → slice_index (zero_ram n c base ram va) (pa + i - base) ≡ 0

-- EACH STORE BY ITS OWN TRANSLATION

module _ (c : Core) (base : ℕ) (ram : List ℕ) (va : ℕ) (even : va % 8 ≡ 0) where
  abbrev core_at : ℕ → Core
  core_at n = (zero_of n c base ram va).core

  abbrev ram_at : ℕ → List ℕ
  ram_at n = zero_ram n c base ram va

  -- RAM keeps its length
  pub zero-length : (n : ℕ) → length (ram_at n) ≡ length ram
  unfolding zero_ram
  zero-length zero = refl
  zero-length (suc n) = grind (arith, zero-ram-last base n c ram va, zero-length n, ram-length (core_at n) base (ram_at n) (storing (store_va va n) 8 0))

  module _ (n : ℕ) (room : va + 8 * suc n ≤ 2 ^ 64) where
    record Last : Type 0 where
      pa : ℕ
      answer : store_answer c base ram va n ≡ Ok pa
      inside : within base (length (ram_at n)) 8 pa ≡ true
      after : ram_at (suc n) ≡ stored base (ram_at n) 8 pa 0

    module _ (e : (zero_of (suc n) c base ram va).answer ≡ Ok tt) where
      last-store : Last
      last-store = grind (arith, one-done, zero-done, one-ram, zero-ram-last, store_va, store-va)

      last-zeros : StoreZeros c base ram va (suc n) n
      last-zeros = let l = last-store in grind (arith, zero-length n, zeros-there base (ram_at n) 8 l.pa l.inside)

      earlier-stay : (j : ℕ) → StoreZeros c base ram va n j → StoreZeros c base ram va (suc n) j
      earlier-stay j z = let l = last-store in grind (arith, zeros-stay base (ram_at n) 8 l.pa, z.zeros)

    -- a byte that the store's translation does not reach is as it was
    module _ (k : ℕ) (none : (pa i : ℕ) → i < 8 → store_answer c base ram va n ≡ Ok pa → base + k ≢ pa + i) where
      store-leaves : (x : Answer) → store_answer c base ram va n ≡ x
          → slice_index (ram_after_write (core_at n) base (ram_at n) (va + 8 * n) 8 0) k ≡ slice_index (ram_at n) k
      store-leaves (Ok pa) e = rw (one-ram (core_at n) base (ram_at n) (va + 8 * n) (omega arith) pa e) (stored-leaves base (ram_at n) 8 pa 0 k (λ i h. none pa i h e))
      store-leaves (Err f) e = rw (none-ram (core_at n) base (ram_at n) (va + 8 * n) (omega arith) f e)

      last-leaves : slice_index (ram_at (suc n)) k ≡ slice_index (ram_at n) k
      last-leaves = let one = store-leaves (store_answer c base ram va n) refl in grind (arith, zero-ram-last base n c ram va, store-va n va)

  -- every store of a zeroing that is done: its eight bytes are zero in the end
  pub zero-each : (n j : ℕ) → va + 8 * n ≤ 2 ^ 64 → (zero_of n c base ram va).answer ≡ Ok tt → j < n → StoreZeros c base ram va n j
  zero-each zero j room e h = absurd (omega arith)
  zero-each (suc n) j room e h =
      below_more (StoreZeros c base ram va (suc n)) n
      (λ i l. earlier-stay n room e i (zero-each n i (omega arith) (zero-done base n c ram va e).0 l)) (last-zeros n room e) j (omega arith)

  -- a byte of RAM that no store's translation reaches is as it was, whether the zeroing is done or stops
  pub zero-others : (n k : ℕ) → va + 8 * n ≤ 2 ^ 64
      → ((j pa i : ℕ) → j < n → i < 8 → store_answer c base ram va j ≡ Ok pa → base + k ≢ pa + i)
      → slice_index (ram_at n) k ≡ slice_index ram k
  unfolding zero_ram
  zero-others zero k room none = refl
  zero-others (suc n) k room none =
      last-leaves n room k (λ pa i. none n pa i (omega arith)) ∙ zero-others n k (omega arith) (λ j pa i h. none j pa i (omega arith))

-- THE EIGHT AGREE

module _ (c : Core) (base : ℕ) (ram : List ℕ) (va : ℕ) where
  -- a store leaves level, mark and registers
  bare-kept : (n : ℕ) → bare_of (zero_of n c base ram va).core ≡ bare_of c
  unfolding zero_of
  bare-kept zero = refl
  bare-kept (suc n) =
      grind (arith, zero-last base n c ram va, bare-kept n, kept (zero_of n c base ram va).core base (zero_ram n c base ram va) (storing (store_va va n) 8 0))

  -- where n stores are done, fewer are
  zero-fewer : (n m : ℕ) → m ≤ n → (zero_of n c base ram va).answer ≡ Ok tt → (zero_of m c base ram va).answer ≡ Ok tt
  unfolding zero_of
  zero-fewer zero m h e = grind arith
  zero-fewer (suc n) m h e =
      below_more (λ k. (zero_of k c base ram va).answer ≡ Ok tt) (suc n) (λ k l. zero-fewer n k (omega arith) (zero-done base n c ram va e).0) e m (omega arith)

-- a store to a page whose frame the cache gives
pub again : (c d : Core) (base : ℕ) (ram : List ℕ) (va pa a : ℕ) → d.privilege ≡ c.privilege → d.control ≡ c.control
    → Gives (bank_now c) c.privilege Write va pa d.tlb → va / 4096 ≡ a / 4096 → a % 8 ≡ 0
    → ((translate_of d (word_at base ram 8) a Write).answer ≡ Ok (pa / 4096 * 4096 + a % 4096))
    × Gives (bank_now c) c.privilege Write va pa (write_of d base ram a 8).core.tlb
unfolding translate_of stepped_now
again c d base ram va pa a ew ec g same even =
    let q = given (bank_now c) c.privilege Write (word_at base ram 8) d.tlb a pa (gives-page (bank_now c) c.privilege Write a same g) in
    rw (one-tlb d base ram a even, ew, ec) (q.0, gives-page (bank_now c) c.privilege Write va (sym same) q.1)

module _ (c : Core) (base : ℕ) (ram : List ℕ) (va pa : ℕ) (well : WellFormed c.tlb) (line : va % 64 ≡ 0) (room : va + 64 ≤ 2 ^ 64)
    (first : (translate_of c (word_at base ram 8) va Write).answer ≡ Ok pa) where
  offset : pa % 4096 ≡ va % 4096
  unfolding translate_of stepped_now
  offset = step-offset (bank_now c) c.privilege (word_at base ram 8) Write c.tlb well va pa first

  pub begins : Gives (bank_now c) c.privilege Write va pa (write_of c base ram va 8).core.tlb
  unfolding translate_of stepped_now
  begins = rw (one-tlb c base ram va (omega arith)) (step_gives (bank_now c) c.privilege Write (word_at base ram 8) c.tlb va well pa first)

  record Agrees (n : ℕ) : Type 0 where
    answer : store_answer c base ram va n ≡ Ok (pa + 8 * n)
    gives : Gives (bank_now c) c.privilege Write va pa (zero_of (suc n) c base ram va).core.tlb

  -- the core after one store more
  core-then : (n : ℕ) → n < 8 → (zero_of n c base ram va).answer ≡ Ok tt
      → (zero_of (suc n) c base ram va).core ≡ (write_of (zero_of n c base ram va).core base (zero_ram n c base ram va) (va + 8 * n) 8).core
  core-then n h e = grind (arith, zero-last, store_va, store-va)

  agree : (n : ℕ) → n < 8 → (zero_of n c base ram va).answer ≡ Ok tt → Agrees n
  unfolding zero_of zero_ram
  agree zero h e =
      let z : va + 8 * 0 ≡ va = omega arith in
      record {
        answer = first-answer c base ram va ∙ first ∙ ap Ok (omega arith);
        gives = rw (core-then 0 h e, z) begins;
      }
  agree (suc n) h e =
      let before = agree n (omega arith) (zero-fewer c base ram va (suc n) n (omega arith) e) in
      let o = offset in
      let k = bare-kept c base ram va (suc n) in
      let q = again c (zero_of (suc n) c base ram va).core base (zero_ram (suc n) c base ram va) va pa (va + 8 * suc n)
      (ap (λ (b : Bare). b.privilege) k) (ap (λ (b : Bare). b.control) k) before.gives (omega arith) (omega arith) in
      record { answer = q.0 ∙ ap Ok (omega arith); gives = rw (core-then (suc n) h e) q.1 }

module _ (c : Core) (base : ℕ) (ram : List ℕ) (va pa : ℕ) (line : va % 64 ≡ 0) (room : va + 64 ≤ 2 ^ 64)
    (e : (zero_of 8 c base ram va).answer ≡ Ok tt) (same : (j : ℕ) → j < 8 → store_answer c base ram va j ≡ Ok (pa + 8 * j)) where
  even : va % 8 ≡ 0
  even = omega arith

  each : (j : ℕ) → j < 8 → (within base (length ram) 8 (pa + 8 * j) ≡ true)
      × ((i : ℕ) → i < 8 → slice_index (zero_ram 8 c base ram va) (pa + 8 * j + i - base) ≡ 0)
  each j h =
      let z = zero-each c base ram va even 8 j (omega arith) e h in
      let q : z.pa ≡ pa + 8 * j = grind (arith, same j h, z.answer) in
      rw (← q) (z.inside, z.zeros)

  leaves : (k : ℕ) → (base + k < pa) ⊎ (pa + 64 ≤ base + k) → slice_index (zero_ram 8 c base ram va) k ≡ slice_index ram k
  leaves k away = zero-others c base ram va even 8 k (omega arith) (λ j q i hj hi f g. grind (arith, same j hj))

  -- where the eight translations agree, the eight stores are one line
  pub zero-agreed : Zeroed base pa ram (zero_ram 8 c base ram va)
  zero-agreed =
      let low = within_low base (length ram) 8 (pa + 8 * 0) (each 0 (omega arith)).0 in
      let high = within-high base (length ram) 8 (pa + 8 * 7) (each 7 (omega arith)).0 in
      record {
        inside = grind (arith, le-leb);
        length-kept = zero-length c base ram va even 8;
        zeros = λ i h. grind (arith, (each (i / 8) (omega arith)).1 (i % 8) (omega arith));
        below = λ k h. leaves k (inl h);
        above = λ k h. leaves k (inr h);
      }

pub zero-line : LineZeroed
zero-line c base ram x well small e =
    let va : ℕ = align_down x 6 in
    let z = zero-each c base ram va (omega arith) 8 0 (omega arith) e (omega arith) in
    let first = sym (first-answer c base ram va) ∙ z.answer in (
      z.pa,
      (
        first,
        zero-agreed c base ram va z.pa (omega arith) (omega arith) e
            (λ j h. (agree c base ram va z.pa well (omega arith) (omega arith) first j h (zero-fewer c base ram va 8 j (omega arith) e)).answer),
      ),
    )

pub zva-zeroes : ZvaZeroes
unfolding sys_of sys_ram
zva-zeroes c base ram op1 crn crm op2 rt well small q e = grind (arith, zero-line c base ram (reg_of c rt) well small)

pub never-crosses : NeverCrosses
never-crosses q x j h = grind arith
