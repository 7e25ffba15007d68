-- What the pages of a window are answered, as runs.
use Rattle.std.specs.Prelude.{◌≡◌, ℕ, ◌+◌, ◌*◌, List, map, Ok, Err}
use Rattle.std.specs.List.{flat_map, range_with_len}
use Rattle.word.specs.Bits.{wrap}
use Rattle.tlb.specs.Answers.{Answer}
use Rattle.windows_report.specs.declared.run.Run.{Run}

-- where a run ends that begins at an address
abbrev pub end_of : Run → ℕ → ℕ
end_of r va = wrap (va + wrap (r.pages * 4096))

-- so many pages on: as many times 4 KiB, or the same fault
abbrev pub further : Answer → ℕ → Answer
further (Ok pa) k = Ok (pa + 4096 * k)
further (Err f) k = Err f

-- a page that a run goes on with
abbrev pub Continues : Run → Answer → Type 0
Continues r next = next ≡ further r.first r.pages

-- a run's pages, one by one
abbrev pub pages_in : Run → List Answer
pages_in r = map (further r.first) (range_with_len 0 r.pages)

-- those of all runs, in their order
unfoldable pub written : List Run → List Answer
written l = flat_map pages_in l
