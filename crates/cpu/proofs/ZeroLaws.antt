-- A zeroing store by store: each store's own translation, what the stores before it leave, and what they do to RAM.
use Rattle.std.specs.Prelude.{◌≡◌, ℕ, zero, suc, ◌+◌, ◌-◌, ◌*◌, ◌%◌, ◌^◌, ◌<◌, ◌≤◌, Bool, true, false, List, length, ◌≢◌, slice_index, Ok, Err}
use Rattle.std.specs.Prelude.{Option}
use Rattle.std.proofs.Math.Path.{ap}
use Rattle.std.proofs.Common.{mod-eq_of_lt, arith, suc-add, le-leb, take-append-drop}
use Rattle.std.proofs.Math.Nat.{zero-div}
use Rattle.word.specs.Bits.{wrap}
use Rattle.word.specs.Ram.{within, word_at, stored, written, bytes_of}
use Rattle.word.proofs.RamLaws.{within_low, within-high, written_byte, written_next}
use Rattle.tlb.specs.declared.access.Kind.TheVariants.{Write}
use Rattle.fault.specs.declared.Fault.{Fault}
use Rattle.tlb.specs.Answers.{Answer}
use Rattle.exception.specs.declared.kind.Stop.{Stop}
use Rattle.tlb.specs.declared.work.Work.{Work}
use Rattle.cpu.specs.Core.{Located, after_access, bank_now, Answered}
use Rattle.cpu.specs.Bytes.{crosses, verdict_of, store_ram, store_end, store_ram_end, StoreAnswer}
use Rattle.cpu.proofs.BytesLaws.{stored-leaves, stored-length}
use Rattle.cpu.specs.Memory.{one_page, translate_in, located_of, stepped_now, located_now, translate_of, write_of, ram_after_write}
use Rattle.cpu.specs.declared.Core.{Core}
use Rattle.cpu.specs.System.{done_with, on_stored, zero_of, zero_ram}
use Rattle.cpu.specs.Work.{write_work, zero_work}
use native.Mathlib.Omega.{arith}

module _ (c : Core) (base : ℕ) (ram : List ℕ) (a : ℕ) (even : a % 8 ≡ 0) where
  abbrev answer_for : Answer
  answer_for = (translate_of c (word_at base ram 8) a Write).answer

  pub one-page-only : (on : Bool) → crosses on a 8 ≡ false
  one-page-only on = grind arith

  -- it takes one translation
  pub one-located : located_now c (word_at base ram 8) a 8 Write ≡ one_page a (translate_in (bank_now c) c.privilege (word_at base ram 8) a Write c.tlb)
  unfolding located_now located_of
  one-located = grind arith

  pub one-tlb : (write_of c base ram a 8).core.tlb ≡ (translate_in (bank_now c) c.privilege (word_at base ram 8) a Write c.tlb).tlb
  unfolding write_of after_access
  one-tlb = ap (λ (l : Located). l.tlb) one-located

  -- what it does to RAM, by its translation's answer
  pub one-ram : (pa : ℕ) → answer_for ≡ Ok pa → ram_after_write c base ram a 8 0 ≡ stored base ram 8 pa 0
  unfolding ram_after_write store_ram_end store_ram translate_of stepped_now
  one-ram pa e = grind (arith, one-located)

  pub none-ram : (f : Fault) → answer_for ≡ Err f → ram_after_write c base ram a 8 0 ≡ ram
  unfolding ram_after_write store_ram_end translate_of stepped_now
  none-ram f e = grind (arith, one-located)

  -- a store that is done has an address, of eight bytes of RAM
  pub one-done : (write_of c base ram a 8).answer ≡ Ok tt → (pa : ℕ) × ((answer_for ≡ Ok pa) × (within base (length ram) 8 pa ≡ true))
  unfolding write_of store_end verdict_of translate_of stepped_now
  one-done = grind (arith, one-located)

-- ZEROS

module _ (base : ℕ) (ram : List ℕ) (n pa : ℕ) where
  pub zeros-there : within base (length ram) n pa ≡ true → (i : ℕ) → i < n → slice_index (stored base ram n pa 0) (pa + i - base) ≡ 0
  unfolding stored
  zeros-there w i h = grind (arith, written_byte ram (pa - base) n 0 i, within_low, within-high, zero-div)

  -- a zero byte stays zero
  pub zeros-stay : (k : ℕ) → slice_index ram k ≡ 0 → slice_index (stored base ram n pa 0) k ≡ 0
  unfolding stored
  zeros-stay k z = grind (arith, written_byte ram (pa - base) n 0 (k - (pa - base)), zero-div, within_low, within-high, stored-leaves base ram n pa 0 k)

-- STORE AFTER STORE

pub some_left : (n : ℕ) → (n ≢ 0) → 1 ≤ n
some_left n h = omega arith

pub fewer-left : (n t : ℕ) → (n ≢ 0) → n ≡ t → n - 1 < t
fewer-left n t h e = omega arith

-- the address of store n
abbrev pub store_va : ℕ → ℕ → ℕ
store_va va zero = va
store_va va (suc n) = store_va (wrap (va + 8)) n

-- which is va + 8 * n where the stores end in the address space
pub store-va : (n va : ℕ) → va + 8 * n < 2 ^ 64 → store_va va n ≡ va + 8 * n
store-va zero va h = omega arith
store-va (suc n) va h =
    let w : wrap (va + 8) ≡ va + 8 = mod-eq_of_lt (omega arith) in
    grind (arith, w, store-va n (va + 8))

module _ (base : ℕ) where
  abbrev after : ℕ → Core → List ℕ → ℕ → Answered StoreAnswer
  after n c ram va = zero_of n c base ram va

  abbrev left : ℕ → Core → List ℕ → ℕ → List ℕ
  left n c ram va = zero_ram n c base ram va

  -- n + 1 stores are n, and one more where all of them were done
  pub zero-last : (n : ℕ) (c : Core) (ram : List ℕ) (va : ℕ)
      → after (suc n) c ram va
      ≡ on_stored (after n c ram va).answer (write_of (after n c ram va).core base (left n c ram va) (store_va va n) 8) (after n c ram va)
  unfolding zero_of zero_ram
  zero-last zero c ram va = grind arith
  zero-last (suc n) c ram va = grind (arith, zero-last n (write_of c base ram va 8).core (ram_after_write c base ram va 8 0) (wrap (va + 8)))

  pub zero-ram-last : (n : ℕ) (c : Core) (ram : List ℕ) (va : ℕ)
      → left (suc n) c ram va
      ≡ on_stored (after n c ram va).answer (ram_after_write (after n c ram va).core base (left n c ram va) (store_va va n) 8 0) (left n c ram va)
  unfolding zero_of zero_ram
  zero-ram-last zero c ram va = grind arith
  zero-ram-last (suc n) c ram va = grind (arith, zero-ram-last n (write_of c base ram va 8).core (ram_after_write c base ram va 8 0) (wrap (va + 8)))

  -- where n + 1 are done, n are, and the last is
  pub zero-done : (n : ℕ) (c : Core) (ram : List ℕ) (va : ℕ) → (after (suc n) c ram va).answer ≡ Ok tt
      → ((after n c ram va).answer ≡ Ok tt) × ((write_of (after n c ram va).core base (left n c ram va) (store_va va n) 8).answer ≡ Ok tt)
  zero-done n c ram va e = grind (arith, zero-last)

-- A zeroing, and what it reads, on plain values: no store, one that stops, and one that goes on.
module _ (n : ℕ) (c : Core) (base : ℕ) (ram : List ℕ) (va : ℕ) (w : Work) where
  pub none_is : n ≡ 0 → record { core = c; answer = Ok tt } ≡ zero_of n c base ram va
  unfolding zero_of
  none_is e = grind arith

  pub none_ram : n ≡ 0 → ram ≡ zero_ram n c base ram va
  unfolding zero_ram
  none_ram e = grind arith

  pub none-work : n ≡ 0 → w ≡ zero_work n c base ram va w
  unfolding zero_work
  none-work e = grind arith

  module _ (s : Answered StoreAnswer) (v : Work) (ram' : List ℕ) (h : n ≡ 0 → ⊥) (es : s ≡ write_of c base ram va 8) where
    pub stops-is : (st : Stop) → s.answer ≡ Err st → s ≡ zero_of n c base ram va
    unfolding zero_of
    stops-is st e = grind arith

    pub stops-ram : ram' ≡ ram_after_write c base ram va 8 0 → (st : Stop) → s.answer ≡ Err st → ram' ≡ zero_ram n c base ram va
    unfolding zero_ram
    stops-ram er st e = grind arith

    pub stops-work : v ≡ write_work c base ram va 8 w → (st : Stop) → s.answer ≡ Err st → v ≡ zero_work n c base ram va w
    unfolding zero_work
    stops-work ev st e = grind arith

    module _ (er : ram' ≡ ram_after_write c base ram va 8 0) (next : ℕ) (e : s.answer ≡ Ok tt) (en : next ≡ wrap (va + 8)) where
      pub goes-is : (r : Answered StoreAnswer) → r ≡ zero_of (n - 1) s.core base ram' next → r ≡ zero_of n c base ram va
      unfolding zero_of
      goes-is r el = grind arith

      pub goes-ram : (ys : List ℕ) → ys ≡ zero_ram (n - 1) s.core base ram' next → ys ≡ zero_ram n c base ram va
      unfolding zero_ram
      goes-ram ys el = grind arith

      pub goes-work : v ≡ write_work c base ram va 8 w → (u : Work) → u ≡ zero_work (n - 1) s.core base ram' next v → u ≡ zero_work n c base ram va w
      unfolding zero_work
      goes-work ev u el = grind arith

pub ruleset zero_steps = (none_is, none_ram, none-work, goes-is, goes-ram, goes-work, some_left, fewer-left)

-- A zeroing whose stores are all given their addresses by the cache as it stands, which they leave alone: one store of zeros.

-- a translation that answers and changes nothing
abbrev pub addressed : Core → ℕ → Answered Answer
addressed c pa = record { core = c; answer = Ok pa }

-- one store of eight zero bytes
module _ (c : Core) (base : ℕ) (ram : List ℕ) (a pa : ℕ) (even : a % 8 ≡ 0) (t : translate_of c (word_at base ram 8) a Write ≡ addressed c pa)
    (w : within base (length ram) 8 pa ≡ true) where
  pub write-steady : write_of c base ram a 8 ≡ done_with c
  unfolding write_of translate_of stepped_now after_access store_end verdict_of
  write-steady = grind (arith, one-located)

-- zeros after zeros
stored-inside : (base : ℕ) (ram : List ℕ) (n pa : ℕ) → base ≤ pa → pa + n ≤ base + length ram → stored base ram n pa 0 ≡ written ram (pa - base) n 0
unfolding stored
stored-inside base ram n pa low high = grind (arith, le-leb)

written_none : (xs : List ℕ) (at v : ℕ) → written xs at 0 v ≡ xs
unfolding bytes_of
written_none xs at v = take-append-drop at xs

one-long : (xs : List ℕ) (at : ℕ) → at < length xs → length (written xs at 1 0) ≡ length xs
one-long xs at h = grind (arith, stored-inside 0 xs 1 at, stored-length 0 xs 1 at 0)

-- stores of zeros side by side are one
stored-join : (base : ℕ) (ram : List ℕ) (m n pa : ℕ) → base ≤ pa → pa + (m + n) ≤ base + length ram
    → stored base (stored base ram m pa 0) n (pa + m) 0 ≡ stored base ram (m + n) pa 0
stored-join base ram zero n pa low high = grind (arith, stored-inside, written_none)
stored-join base ram (suc m) n pa low high =
    grind (arith, stored-inside, written_next, one-long, stored-length, stored-join base (stored base ram 1 pa 0) m n (pa + 1), suc-add m n)

-- store after store
module _ (base : ℕ) (c : Core) where
  zero-step : (n : ℕ) (ram : List ℕ) (va pa : ℕ) → va % 8 ≡ 0 → base ≤ pa → pa + 8 * suc n ≤ base + length ram
      → translate_of c (word_at base ram 8) va Write ≡ addressed c pa
      → (zero_of n c base (stored base ram 8 pa 0) (wrap (va + 8)) ≡ done_with c)
      × (zero_ram n c base (stored base ram 8 pa 0) (wrap (va + 8)) ≡ stored base (stored base ram 8 pa 0) (8 * n) (pa + 8) 0)
      → (zero_of (suc n) c base ram va ≡ done_with c) × (zero_ram (suc n) c base ram va ≡ stored base ram (8 * suc n) pa 0)
  unfolding zero_of zero_ram
  zero-step n ram va pa even low high t later =
      grind (arith, write-steady c base ram va pa, one-ram c base ram va, le-leb, stored-join base ram 8 (8 * n) pa)

  -- n stores from va, an address of eight bytes, in the address space
  pub zero-steady : (n : ℕ) (ram : List ℕ) (va pa : ℕ) → va % 8 ≡ 0 → va + 8 * n ≤ 2 ^ 64 → within base (length ram) (8 * n) pa ≡ true
      → ((memory : ℕ → Option ℕ) (j : ℕ) → j < n → translate_of c memory (va + 8 * j) Write ≡ addressed c (pa + 8 * j))
      → (zero_of n c base ram va ≡ done_with c) × (zero_ram n c base ram va ≡ stored base ram (8 * n) pa 0)
  unfolding zero_of zero_ram
  zero-steady zero ram va pa even room w t = grind (arith, stored-inside, written_none, within_low, within-high)
  zero-steady (suc n) ram va pa even room w t =
      let low = within_low base (length ram) (8 * suc n) pa w in
      let high = within-high base (length ram) (8 * suc n) pa w in
      let long = stored-length base ram 8 pa 0 in
      let p : pa + 8 * 0 ≡ pa = omega arith in
      let v : va + 8 * 0 ≡ va = omega arith in
      zero-step n ram va pa even low high (rw (p, v) at (t (word_at base ram 8) 0 (omega arith)))
      (zero-steady n (stored base ram 8 pa 0) (wrap (va + 8)) (pa + 8) (omega arith) (omega arith) (grind (arith, le-leb))
      (λ memory j h.
      let a : wrap (va + 8) + 8 * j ≡ va + 8 * suc j = omega arith in
      let q : pa + 8 + 8 * j ≡ pa + 8 * suc j = omega arith in
      rw (a, q) (t memory (suc j) (omega arith))))
