-- Translations, loads, stores and fetches: the core after each, its answer, and RAM.
use Rattle.std.specs.Prelude.{if◌then◌else◌, ℕ, Option, List, ◌≡◌, false, Some, None}
use Rattle.walk.specs.Regime.{stage1_on}
use Rattle.sysreg.specs.Regs.{regime_of}
use Rattle.walk.specs.declared.regime.Bank.{Bank}
use Rattle.tlb.specs.Translate.{access_of, past_hint_in, translation_in, tlb_after, fetch_in, fetched_in, NeedsWalk, needs_walk}
use Rattle.tlb.specs.declared.{access.Kind.Kind, access.Privilege.Privilege, Tlb.Tlb}
use Rattle.tlb.specs.Answers.{Answer}
use Rattle.tlb.specs.declared.access.Kind.TheVariants.{Fetch, Read, Write}
use Rattle.word.specs.Ram.{word_at}
use Rattle.cpu.specs.Core.{Stepped, Located, after_access, bank_now, Answered}
use Rattle.cpu.specs.Bytes.{next_page, crosses, goes_on, placed_one, placed_both, load_end, store_end, store_ram_end, fetch_end, reached_by}
use Rattle.cpu.specs.Bytes.{FetchAnswer, LoadAnswer, Placed, StoreAnswer, LoadEnd, End}
use Rattle.cpu.specs.declared.Core.{Core}

-- Translations as steps of a cache, on the registers, the level and the RAM of the moment. Exact definitions, on the
-- code's own types. What they mean: `Asks`, which translations an access makes; `PageLaws`, that they go by pages;
-- `OwnAddress`, where each byte then lies.
abbrev pub one_page : ℕ → Stepped → Located
one_page va a = record { tlb = a.tlb; placed = placed_one va a.answer }

abbrev pub both_pages : ℕ → Answer → Stepped → Located
both_pages va a b = record { tlb = b.tlb; placed = placed_both va a b.answer }

module _ (s : Bank) (privilege : Privilege) (memory : ℕ → Option ℕ) where
  -- one translation
  unfoldable pub translate_in : ℕ → Kind → Tlb → Stepped
  translate_in va kind t =
      let a = access_of s privilege va kind memory in record { tlb = tlb_after a t; answer = (translation_in a t).answer }

  -- one that no hint serves
  unfoldable pub past_hint_step : ℕ → Kind → Tlb → Stepped
  past_hint_step va kind t =
      let a = past_hint_in (access_of s privilege va kind memory) t in record { tlb = a.after; answer = a.answer }

  -- that of a fetch, by the fetch hint first
  unfoldable pub translate_fetch_in : ℕ → Tlb → Stepped
  translate_fetch_in va t =
      let a = access_of s privilege va Fetch memory in record { tlb = fetched_in a t; answer = (fetch_in a t).answer }

  -- The translations of an access of n bytes: its page's; and where it crosses and that was allowed, the next page's,
  -- in the cache that the first one left. Both are made before a byte moves.
  unfoldable pub located_of : ℕ → ℕ → Kind → Tlb → Located
  located_of va n kind t =
      let own = translate_in va kind t in
      if goes_on own.answer (crosses (stage1_on s (regime_of privilege.level)) va n) then both_pages va own.answer (translate_in (next_page va) kind own.tlb)
      else one_page va own

-- The core's operations on memory: answer, core and RAM of each. Exact definitions, on the code's own types. What they
-- mean: `OpSays`, the answers; `OpLaws`, what stays as it was; `ByteMeaning`, each byte that moves.

-- its translations: on its own registers, level and cache
unfoldable pub stepped_now : Core → (ℕ → Option ℕ) → ℕ → Kind → Stepped
stepped_now c memory va kind = translate_in (bank_now c) c.privilege memory va kind c.tlb

unfoldable pub fetch_stepped_now : Core → (ℕ → Option ℕ) → ℕ → Stepped
fetch_stepped_now c memory va = translate_fetch_in (bank_now c) c.privilege memory va c.tlb

unfoldable pub located_now : Core → (ℕ → Option ℕ) → ℕ → ℕ → Kind → Located
located_now c memory va n kind = located_of (bank_now c) c.privilege memory va n kind c.tlb

-- TRANSLATIONS change the cache only

abbrev pub with_tlb : Core → Tlb → Core
with_tlb c t = after_access c t c.last_pa c.abort_pa

abbrev pub translated_by : Core → Stepped → Answered Answer
translated_by c a = record { core = with_tlb c a.tlb; answer = a.answer }

unfoldable pub translate_of : Core → (ℕ → Option ℕ) → ℕ → Kind → Answered Answer
translate_of c memory va kind = translated_by c (stepped_now c memory va kind)

-- one that no hint serves
unfoldable pub past_hint_of : Core → (ℕ → Option ℕ) → ℕ → Kind → Answered Answer
past_hint_of c memory va kind = translated_by c (past_hint_step (bank_now c) c.privilege memory va kind c.tlb)

unfoldable pub translate_fetch_of : Core → (ℕ → Option ℕ) → ℕ → Answered Answer
translate_fetch_of c memory va = translated_by c (fetch_stepped_now c memory va)

unfoldable pub translate_access_of : Core → (ℕ → Option ℕ) → ℕ → ℕ → Kind → Answered Placed
translate_access_of c memory va n kind = let a = located_now c memory va n kind in record { core = with_tlb c a.tlb; answer = a.placed }

-- WHERE AN ACCESS WOULD GO: a translation whose fault is told as no more than that

abbrev pub addressed_by : Core → Stepped → Answered (Option ℕ)
addressed_by c a = record { core = with_tlb c a.tlb; answer = reached_by a.answer }

unfoldable pub fetch_pa_of : Core → (ℕ → Option ℕ) → ℕ → Answered (Option ℕ)
fetch_pa_of c memory va = addressed_by c (fetch_stepped_now c memory va)

unfoldable pub data_pa_of : Core → (ℕ → Option ℕ) → ℕ → Answered (Option ℕ)
data_pa_of c memory va = addressed_by c (stepped_now c memory va Read)

-- LOADS AND STORES of n bytes; the tables lie in the same RAM. A13, D3: no address is misaligned, whatever SCTLR_ELx.A
-- and the memory's type. M5: bytes are little-endian, whatever SCTLR_ELx.EE and E0E.

abbrev pub loaded_by : Core → Tlb → LoadEnd → Answered LoadAnswer
loaded_by c t e = record { core = after_access c t e.last_pa e.abort_pa; answer = e.answer }

unfoldable pub read_of : Core → ℕ → List ℕ → ℕ → ℕ → Answered LoadAnswer
read_of c base ram va n =
    let a = located_now c (word_at base ram 8) va n Read in loaded_by c a.tlb (load_end a.placed c.last_pa c.abort_pa base ram va n)

abbrev pub ended_by : {A : Type 0} → Core → Tlb → End A → Answered A
ended_by c t e = record { core = after_access c t c.last_pa e.abort_pa; answer = e.answer }

unfoldable pub write_of : Core → ℕ → List ℕ → ℕ → ℕ → Answered StoreAnswer
write_of c base ram va n =
    let a = located_now c (word_at base ram 8) va n Write in ended_by c a.tlb (store_end a.placed c.abort_pa base ram va n)

-- RAM after a store of the n low bytes of v
unfoldable pub ram_after_write : Core → ℕ → List ℕ → ℕ → ℕ → ℕ → List ℕ
ram_after_write c base ram va n v = store_ram_end (located_now c (word_at base ram 8) va n Write).placed base ram n v

-- FETCHES. M14: from an address that is no multiple of four too. O7: from Device memory too.

unfoldable pub fetch_of : Core → ℕ → List ℕ → ℕ → Answered FetchAnswer
fetch_of c base ram va = let a = fetch_stepped_now c (word_at base ram 8) va in ended_by c a.tlb (fetch_end a.answer c.abort_pa base ram va)

-- A translation that no hint serves, in two parts, on the core: what is at hand, and what needs a walk.
abbrev pub NeedsWalkNow : Core → (ℕ → Option ℕ) → ℕ → Kind → Type 0
NeedsWalkNow c memory va kind = NeedsWalk (access_of (bank_now c) c.privilege va kind memory) c.tlb

-- an answer at hand is that of the translation, and no walk is needed; without one a walk is needed
abbrev pub HandedNow : Core → (ℕ → Option ℕ) → ℕ → Kind → Option Answer → Core → Type 0
HandedNow c memory va kind (Some x) d =
    (record { core = d; answer = x } ≡ past_hint_of c memory va kind)
    × (needs_walk (access_of (bank_now c) c.privilege va kind memory) c.tlb ≡ false)
HandedNow c memory va kind None d = NeedsWalkNow c memory va kind

-- without one the core stays
abbrev pub KeptNow : Core → Option Answer → Core → Type 0
KeptNow c (Some x) d = Unit {0}
KeptNow c None d = d ≡ c
