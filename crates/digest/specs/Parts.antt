-- The words that the digests of a core are taken of.
use Rattle.std.specs.Prelude.{if◌then◌else◌, ℕ, ◌-◌, ◌^◌, Bool, not, ◌&&◌, List, [], ◌∷◌, ◌++◌, ◌==◌, slice_index, Option, Some, None}
use Rattle.word.specs.Bits.{flag}
use Rattle.tlb.specs.Tlb.{entry_at, hint_at}
use Rattle.tlb.specs.declared.{entry.Entry.Entry, hint.FetchHint.FetchHint, Tlb.Tlb}
use Rattle.digest.specs.Fold.{gathered}
use Rattle.cpu.specs.declared.Core.{Core}
use Rattle.saved.specs.Places.{LEVEL}
use Rattle.saved.specs.WordsOf.{word_of}

-- a word of a list
abbrev pub word_alone : List ℕ → ℕ → List ℕ
word_alone ws i = slice_index ws i ∷ []

-- the registers, the flags and the general registers: the words of a core before its level
abbrev pub core_word : Core → ℕ → List ℕ
core_word c place = word_of c place ∷ []

abbrev pub register_words : Core → List ℕ
register_words c = gathered (core_word c) LEVEL 0

-- an entry answers where it has a tag and is of the present generation
abbrev pub live : Entry → ℕ → Bool
live e generation = not (e.tag == 0) && e.generation == generation

-- the slot of an entry, and the entry
abbrev pub record_words : ℕ → Entry → List ℕ
record_words j e = j ∷ e.tag ∷ e.perms ∷ e.level ∷ flag e.global 1 ∷ e.asid ∷ e.pa ∷ []

unfoldable pub entry_words : Tlb → ℕ → List ℕ
entry_words c j = if live (entry_at c j) c.generation then record_words j (entry_at c j) else []

-- the live entries by rising slot
abbrev pub entries_words : Tlb → List ℕ
entries_words c = gathered (entry_words c) 1024 0

unfoldable pub hint_words : Tlb → ℕ → List ℕ
hint_words c i = if (hint_at c i).key == 2 ^ 64 - 1 then [] else i ∷ (hint_at c i).key ∷ (hint_at c i).pa ∷ []

unfoldable pub fetch_words : Option FetchHint → List ℕ
fetch_words None = []
fetch_words (Some f) = f.page ∷ f.level ∷ f.pa ∷ []

-- the data hints that are set, by rising slot, then the fetch hint
abbrev pub hints_words : Tlb → List ℕ
hints_words c = gathered (hint_words c) 512 0 ++ fetch_words c.fetch
