-- What is set and read, in numbers: PSTATE by an SPSR's word, and each part that has several words.
use Rattle.std.specs.Prelude.{◌≡◌, ℕ, Bool, false, true, [], ◌∷◌, Some, None}
use Rattle.exception.specs.Pstate.{spsr_of, flags}
use Rattle.tlb.specs.declared.entry.Entry.{Entry}
use Rattle.tlb.specs.declared.Inval.TheVariants.{All, Page, Asid}
use Rattle.cpu.specs.declared.Core.{Core}
use Rattle.core_parts.specs.Read.{number_found, pending_words, entry_words, hint_words, fetch_words}
use Rattle.core_parts.specs.Put.{with_flags, inval_named, number_received, moved, number_restamped}

-- PSTATE: what an SPSR's word sets: N, Z, C, V<31:28>, D<9>, A<8>, I<7>, F<6>, SP<0>, and no other bit

abbrev Sets : Core → ℕ → ℕ → ℕ → Bool → Type 0
Sets c psr nzcv daif sp = (with_flags c psr).flags ≡ flags nzcv daif sp

pub record PstateSet (c : Core) : Type 0 where
  pub nzcv : Sets c 0xF000_0000 0xF000_0000 0 false
  pub d : Sets c 0x200 0 0x200 false
  pub a : Sets c 0x100 0 0x100 false
  pub i : Sets c 0x80 0 0x80 false
  pub f : Sets c 0x40 0 0x40 false
  pub sp : Sets c 0x1 0 0 true
  pub others : Sets c 0xFFFF_FFFF_0FFF_FC3E 0 0 false
  pub level_stays : (psr : ℕ) → (with_flags c psr).privilege ≡ c.privilege

-- the word that is read at a level after one was set: its own bits, and the level
abbrev pstate_at : ℕ → Core → ℕ → ℕ
pstate_at level c psr = spsr_of level (with_flags c psr).flags

pub record PstateRead (c : Core) : Type 0 where
  pub el1h : pstate_at 1 c 0xF000_03C5 ≡ 0xF000_03C5
  pub el2t : pstate_at 2 c 0x5000_0288 ≡ 0x5000_0288
  pub at_el3 : pstate_at 3 c 0xFFFF_FFFF_FFFF_FFFF ≡ 0xF000_03CD

-- WHAT IS PENDING: 0 nothing, 1 all, 2 a page, 3 an ASID of 16 bits

pub record PendingNumbers (page value : ℕ) : Type 0 where
  pub nothing : pending_words None ≡ (0 ∷ 0 ∷ [])
  pub all : pending_words (Some All) ≡ (1 ∷ 0 ∷ [])
  pub a_page : pending_words (Some (Page page)) ≡ (2 ∷ page ∷ [])
  pub an_asid : pending_words (Some (Asid 0xABCD)) ≡ (3 ∷ 0xABCD ∷ [])
  pub kind_0 : inval_named 0 value ≡ None
  pub kind_1 : inval_named 1 value ≡ Some All
  pub kind_2 : inval_named 2 page ≡ Some (Page page)
  pub kind_3 : inval_named 3 0xFFFF ≡ Some (Asid 0xFFFF)
  pub kind_4 : inval_named 4 value ≡ None
  pub long_asid : inval_named 3 0x1_0000 ≡ None

-- AN ENTRY AND THE HINTS

abbrev some_entry : ℕ → Entry
some_entry generation = record { tag = 11; generation = generation; perms = 13; level = 3; global = true; asid = 16; pa = 17 }

pub record EntryNumbers : Type 0 where
  pub words : entry_words (some_entry 12) ≡ (11 ∷ 12 ∷ 13 ∷ 3 ∷ 1 ∷ 16 ∷ 17 ∷ [])
  pub hint : hint_words (record { key = 21; pa = 22 }) ≡ (21 ∷ 22 ∷ [])
  pub fetch_hint : fetch_words (Some (record { page = 31; level = 3; pa = 32 })) ≡ (1 ∷ 31 ∷ 3 ∷ 32 ∷ [])
  pub no_fetch_hint : fetch_words None ≡ (0 ∷ 0 ∷ 0 ∷ 0 ∷ [])
  -- from generation 12 to 40
  pub live : moved 12 40 (some_entry 12) ≡ some_entry 40
  pub dead : entry_words (moved 12 40 (some_entry 40)) ≡ (0 ∷ 0 ∷ 0 ∷ 0 ∷ 0 ∷ 0 ∷ 0 ∷ [])

-- THE NUMBERS: 0 done, 6 no register, 64 no broadcast, or no generation of 32 bits

pub record Answers (value : ℕ) : Type 0 where
  pub register : number_found (Some value) ≡ 0
  pub no_register : number_found None ≡ 6
  pub broadcast : number_received (inval_named 1 value) ≡ 0
  pub no_broadcast : number_received (inval_named 4 value) ≡ 64
  pub last_generation : number_restamped 0xFFFF_FFFF ≡ 0
  pub past_generation : number_restamped 0x1_0000_0000 ≡ 64
