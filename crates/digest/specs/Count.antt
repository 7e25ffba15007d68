-- How many there are of the things that a digest is taken of.
use Rattle.std.specs.Prelude.{ℕ, zero, suc, ◌+◌, ◌-◌, ◌^◌, Bool, not, List, ◌==◌, slice_index, Option, Some, None}
use Rattle.word.specs.Bits.{flag}
use Rattle.tlb.specs.Tlb.{entry_at, hint_at}
use Rattle.tlb.specs.declared.{hint.Hint.Hint, hint.FetchHint.FetchHint, Tlb.Tlb}
use Rattle.digest.specs.Parts.{live}

-- of how many of n things from thing i on it holds
unfoldable pub how_many : (ℕ → Bool) → ℕ → ℕ → ℕ
how_many p zero i = 0
how_many p (suc n) i = flag (p i) 1 + how_many p n (i + 1)

-- the live entries
abbrev pub live_at : Tlb → ℕ → Bool
live_at c j = live (entry_at c j) c.generation

abbrev pub live_entries : Tlb → ℕ
live_entries c = how_many (live_at c) 1024 0

-- a hint whose key is all ones is none
abbrev pub set : Hint → Bool
set h = not (h.key == 2 ^ 64 - 1)

abbrev pub set_at : Tlb → ℕ → Bool
set_at c i = set (hint_at c i)

-- the data hints that are set, and the fetch hint
abbrev pub set_data_hints : Tlb → ℕ
set_data_hints c = how_many (set_at c) 512 0

abbrev pub how_many_fetch : Option FetchHint → ℕ
how_many_fetch None = 0
how_many_fetch (Some f) = 1

abbrev pub set_hints : Tlb → ℕ
set_hints c = set_data_hints c + how_many_fetch c.fetch

-- the counts of a census that are not 0
abbrev pub some_at : List ℕ → ℕ → Bool
some_at counts i = not (slice_index counts i == 0)

abbrev pub counts_found : List ℕ → ℕ
counts_found counts = how_many (some_at counts) 129 0
