-- What the words of a core say, in numbers: what is pending, an entry's attributes, and a level.
use Rattle.std.specs.Prelude.{◌≡◌, ℕ, Bool, false, true, List, Option, Some, None, slice_index}
use Rattle.tlb.specs.declared.{entry.Entry.Entry, hint.FetchHint.FetchHint, Inval.Inval}
use Rattle.tlb.specs.declared.Inval.TheVariants.{All, Page, Asid}
use Rattle.cpu.specs.declared.Core.{Core}
use Rattle.saved.specs.CoreOf.{entry_of, core_of}
use Rattle.saved.specs.WordsOf.{attributes, word_of}

-- WHAT IS PENDING: words 75 and 76

abbrev pending_on : Core → Option Inval → Core
pending_on c what = record c { tlb = record c.tlb { broadcast = what } }

pub record PendingWords (c : Core) (kind value : ℕ) : Type 0 where
  pub word_75 : word_of c 75 ≡ kind
  pub word_76 : word_of c 76 ≡ value

-- 0 nothing, 1 all, 2 a page, 3 an ASID; and the page or the ASID
pub record PendingSaved (c : Core) (page asid : ℕ) : Type 0 where
  pub nothing : PendingWords (pending_on c None) 0 0
  pub all : PendingWords (pending_on c (Some All)) 1 0
  pub a_page : PendingWords (pending_on c (Some (Page page))) 2 page
  pub an_asid : PendingWords (pending_on c (Some (Asid asid))) 3 asid

abbrev pub PendingOf : List ℕ → ℕ → ℕ → Option Inval → Type 0
PendingOf words kind value what = slice_index words 75 ≡ kind → slice_index words 76 ≡ value → (core_of words).tlb.broadcast ≡ what

-- of an ASID 16 bits count, and any other kind is nothing
pub record PendingRestored (words : List ℕ) (value : ℕ) : Type 0 where
  pub nothing : PendingOf words 0 value None
  pub all : PendingOf words 1 value (Some All)
  pub a_page : PendingOf words 2 value (Some (Page value))
  pub an_asid : PendingOf words 3 0xFFFF_FFFF_FFFF_ABCD (Some (Asid 0xABCD))
  pub no_kind : PendingOf words 4 value None

-- THE FETCH HINT: words 81 to 84

abbrev fetch_on : Core → Option FetchHint → Core
fetch_on c hint = record c { tlb = record c.tlb { fetch = hint } }

pub record FetchWords (c : Core) (is page level pa : ℕ) : Type 0 where
  pub word_81 : word_of c 81 ≡ is
  pub word_82 : word_of c 82 ≡ page
  pub word_83 : word_of c 83 ≡ level
  pub word_84 : word_of c 84 ≡ pa

pub record FetchSaved (c : Core) (page level pa : ℕ) : Type 0 where
  pub one : FetchWords (fetch_on c (Some (record { page = page; level = level; pa = pa }))) 1 page level pa
  pub none : FetchWords (fetch_on c None) 0 0 0 0

-- any word but 1 is no hint
pub record FetchRestored (words : List ℕ) (page pa : ℕ) : Type 0 where
  pub one : slice_index words 81 ≡ 1 → slice_index words 82 ≡ page → slice_index words 83 ≡ 3 → slice_index words 84 ≡ pa
      → (core_of words).tlb.fetch ≡ Some (record { page = page; level = 3; pa = pa })
  pub none : slice_index words 81 ≡ 0 → (core_of words).tlb.fetch ≡ None
  pub no_other : slice_index words 81 ≡ 2 → (core_of words).tlb.fetch ≡ None

-- AN ENTRY'S ATTRIBUTES, each field with all its bits set

abbrev with_attributes : ℕ → ℕ → Bool → ℕ → Entry
with_attributes perms level global asid = record { tag = 1; generation = 2; perms = perms; level = level; global = global; asid = asid; pa = 3 }

pub record AttributesSaved : Type 0 where
  pub perms : attributes (with_attributes 0xFF 0 false 0) ≡ 0xFF
  pub level : attributes (with_attributes 0 0xFF false 0) ≡ 0xFF00
  pub global : attributes (with_attributes 0 0 true 0) ≡ 0x1_0000
  pub asid : attributes (with_attributes 0 0 false 0xFFFF) ≡ 0xFFFF_0000_0000

pub record AttributesRestored : Type 0 where
  pub perms : entry_of 1 2 0xFF 3 ≡ with_attributes 0xFF 0 false 0
  pub level : entry_of 1 2 0xFF00 3 ≡ with_attributes 0 0xFF false 0
  pub global : entry_of 1 2 0x1_0000 3 ≡ with_attributes 0 0 true 0
  pub asid : entry_of 1 2 0xFFFF_0000_0000 3 ≡ with_attributes 0 0 false 0xFFFF
  pub no_field : entry_of 1 2 0xFFFF_0000_FFFE_0000 3 ≡ with_attributes 0 0 false 0

-- THE LEVEL: word 68. One that no byte holds is 255, which is refused.

abbrev pub LevelOf : List ℕ → ℕ → ℕ → Type 0
LevelOf words value level = slice_index words 68 ≡ value → (core_of words).privilege.level ≡ level

pub record LevelRestored (words : List ℕ) : Type 0 where
  pub el3 : LevelOf words 3 3
  pub last : LevelOf words 0xFF 0xFF
  pub past : LevelOf words 0x103 0xFF
