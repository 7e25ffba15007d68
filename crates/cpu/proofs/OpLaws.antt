-- What every operation leaves as it was, and the cache and RAM after it.
use Rattle.std.proofs.Common.{arith, ap, ◌∙◌, sym}
use Rattle.std.specs.Prelude.{◌≡◌, ℕ, ◌+◌, ◌<◌, List, ◌≢◌, slice_index, refl, Ok, length, [], ◌∷◌, Option}
use Rattle.word.specs.Ram.{word_at}
use Rattle.tlb.specs.declared.access.Kind.TheVariants.{Write, Read}
use Rattle.cpu.specs.Bare.{bare_of}
use Rattle.cpu.specs.Core.{after_access, Located, bank_now}
use Rattle.cpu.specs.Bytes.{address_in, store_ram_end, value_at, load_of, insn_of, load_end, store_end, fetch_end, Placed}
use Rattle.cpu.proofs.BytesLaws.{store-leaves, store_length}
use Rattle.cpu.specs.Memory.{located_now, translate_of, translate_access_of, read_of, write_of, ram_after_write, fetch_of, fetch_pa_of, data_pa_of}
use Rattle.cpu.specs.Memory.{fetch_stepped_now, stepped_now, translate_in, translate_fetch_in, located_of}
use Rattle.cpu.specs.declared.Core.{Core}
use Rattle.cpu.specs.declared.place.Place.{Place}
use Rattle.cpu.specs.Says.{Operation, operation_core, operation_ram, translate, access, load, store, fetch, fetch_pa, data_pa, access_says}
use Rattle.cpu.specs.Says.{fetch_says, insn_says, load_says, store_says, verdict_in, value, done, translated_says, lies, ram_by, said_by, says, translations_of}
use Rattle.cpu.specs.Says.{asks_of}
use Rattle.std.proofs.Math.Path.{refl, ap}
use Rattle.walk.specs.Regime.{stage1_on}
use Rattle.sysreg.specs.Regs.{regime_of}
use Rattle.walk.specs.declared.regime.Bank.{Bank}
use Rattle.tlb.specs.Asks.{Ask, translates, answers, tlb_asks, fetches, answer_of, tlb_ask}
use Rattle.tlb.specs.declared.{access.Kind.Kind, access.Privilege.Privilege, Tlb.Tlb}
use Rattle.tlb.proofs.Asks.{onward-same}
use Rattle.tlb.specs.declared.access.Kind.{Kind}
use Rattle.cpu.specs.Asks.{access_asks, access_at, placed_from, access_now, on_now}

-- THE CACHE is the one that its translations leave, and an access's place is what their answers say

module _ (s : Bank) (privilege : Privilege) (memory : ℕ → Option ℕ) (va n : ℕ) (kind : Kind) (t : Tlb) where
  abbrev asked : List Ask
  asked = access_asks (stage1_on s (regime_of privilege.level)) va n kind

  -- an access's translations are those of its list
  located-asks : located_of s privilege memory va n kind t
      ≡ record { tlb = tlb_asks (access_at s privilege memory) asked t; placed = placed_from va (answers (access_at s privilege memory) asked t) }
  unfolding located_of translate_in
  located-asks = grind (arith, onward-same)

module _ (c : Core) (base : ℕ) (ram : List ℕ) where
  -- one translation
  one-asked : (a : Ask) → tlb_ask (access_now c base ram) a c.tlb ≡ tlb_asks (access_now c base ram) (a ∷ []) c.tlb
  one-asked a = sym (onward-same (answer_of (access_now c base ram) a c.tlb) (tlb_ask (access_now c base ram) a c.tlb))

  accessed : (va n : ℕ) (kind : Kind) → located_now c (word_at base ram 8) va n kind
      ≡ record {
        tlb = tlb_asks (access_now c base ram) (access_asks (on_now c) va n kind) c.tlb;
        placed = placed_from va (answers (access_now c base ram) (access_asks (on_now c) va n kind) c.tlb);
      }
  unfolding located_now
  accessed va n kind = located-asks (bank_now c) c.privilege (word_at base ram 8) va n kind c.tlb

  -- the cache is the one that its translations leave
  pub tlb-after : (o : Operation) → (operation_core c base ram o).tlb ≡ tlb_asks (access_now c base ram) (asks_of (on_now c) o) c.tlb
  unfolding translate_of translate_access_of read_of write_of fetch_of fetch_pa_of data_pa_of stepped_now fetch_stepped_now translate_in translate_fetch_in after_access
  tlb-after (translate va kind) = one-asked (translates kind va)
  tlb-after (access va n kind) = ap (λ (r : Located). r.tlb) (accessed va n kind)
  tlb-after (load va n) = ap (λ (r : Located). r.tlb) (accessed va n Read)
  tlb-after (store va n v) = ap (λ (r : Located). r.tlb) (accessed va n Write)
  tlb-after (fetch va) = one-asked (fetches va)
  tlb-after (fetch_pa va) = one-asked (fetches va)
  tlb-after (data_pa va) = one-asked (translates Read va)

  -- and an access's place is what their answers say
  pub placed_by : (va n : ℕ) (kind : Kind)
      → (located_now c (word_at base ram 8) va n kind).placed ≡ placed_from va (answers (access_now c base ram) (access_asks (on_now c) va n kind) c.tlb)
  placed_by va n kind = ap (λ (r : Located). r.placed) (accessed va n kind)

-- RAM

pub ram-length : (c : Core) (base : ℕ) (ram : List ℕ) (o : Operation) → length (operation_ram c base ram o) ≡ length ram
unfolding ram_after_write store_ram_end
ram-length c base ram o = grind (arith, store_length)

-- THE CORE

-- no operation changes the level, the mark, flags, PC or a register
pub kept : (c : Core) (base : ℕ) (ram : List ℕ) (o : Operation) → bare_of (operation_core c base ram o) ≡ bare_of c
unfolding translate_of translate_access_of read_of write_of fetch_of fetch_pa_of data_pa_of after_access
kept c base ram o = grind arith

-- only a load sets `last_pa`
pub store-last : (c : Core) (base : ℕ) (ram : List ℕ) (va n : ℕ) → (write_of c base ram va n).core.last_pa ≡ c.last_pa
unfolding write_of after_access
store-last c base ram va n = refl

pub fetch-last : (c : Core) (base : ℕ) (ram : List ℕ) (va : ℕ) → (fetch_of c base ram va).core.last_pa ≡ c.last_pa
unfolding fetch_of after_access
fetch-last c base ram va = refl

-- a store changes no byte but its own
pub write-leaves : (c : Core) (base : ℕ) (ram : List ℕ) (va n v k : ℕ)
    → ((place : Place) → (located_now c (word_at base ram 8) va n Write).placed ≡ Ok place
    → (i : ℕ) → i < n → base + k ≢ address_in place i)
    → slice_index (ram_after_write c base ram va n v) k ≡ slice_index ram k
unfolding ram_after_write store_ram_end
write-leaves c base ram va n v k none = grind (arith, store-leaves)

-- What a load, a store and a fetch answer, told as value or fault.
module _ (c : Core) (base : ℕ) (ram : List ℕ) (va n : ℕ) where
  -- a load answers the value of its bytes
  pub load-says : load_says (read_of c base ram va n).answer
      ≡ access_says (located_now c (word_at base ram 8) va n Read).placed (verdict_in base ram va n) va (λ p. value (value_at base ram p n))
  unfolding read_of load_end load_of
  load-says = grind arith

  -- a store that it is done
  pub store-says : store_says (write_of c base ram va n).answer
      ≡ access_says (located_now c (word_at base ram 8) va n Write).placed (verdict_in base ram va n) va (λ p. done)
  unfolding write_of store_end
  store-says = grind arith

pub fetch-says : (c : Core) (base : ℕ) (ram : List ℕ) (va : ℕ)
    → fetch_says (fetch_of c base ram va).answer ≡ insn_says base ram va (fetch_stepped_now c (word_at base ram 8) va).answer
unfolding fetch_of fetch_end insn_of
fetch-says c base ram va = grind arith

-- What the operations answer, and RAM after them, by the answers of their translations.
pub says-by : (c : Core) (base : ℕ) (ram : List ℕ) (o : Operation) → says c base ram o ≡ said_by base ram o (translations_of c base ram o)
unfolding translate_of translate_access_of fetch_pa_of data_pa_of stepped_now fetch_stepped_now translate_in translate_fetch_in
says-by c base ram (translate va kind) = refl
says-by c base ram (access va n kind) = ap (λ (x : Placed). translated_says x lies) (placed_by c base ram va n kind)
says-by c base ram (load va n) =
    load-says c base ram va n
    ∙ ap (λ (x : Placed). access_says x (verdict_in base ram va n) va (λ p. value (value_at base ram p n))) (placed_by c base ram va n Read)
says-by c base ram (store va n v) =
    store-says c base ram va n ∙ ap (λ (x : Placed). access_says x (verdict_in base ram va n) va (λ p. done)) (placed_by c base ram va n Write)
says-by c base ram (fetch va) = fetch-says c base ram va
says-by c base ram (fetch_pa va) = refl
says-by c base ram (data_pa va) = refl

pub ram-by : (c : Core) (base : ℕ) (ram : List ℕ) (o : Operation) → operation_ram c base ram o ≡ ram_by base ram o (translations_of c base ram o)
unfolding ram_after_write
ram-by c base ram (store va n v) = ap (λ (x : Placed). store_ram_end x base ram n v) (placed_by c base ram va n Write)
ram-by c base ram (translate va kind) = refl
ram-by c base ram (access va n kind) = refl
ram-by c base ram (load va n) = refl
ram-by c base ram (fetch va) = refl
ram-by c base ram (fetch_pa va) = refl
ram-by c base ram (data_pa va) = refl
