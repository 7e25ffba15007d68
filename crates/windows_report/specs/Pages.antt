-- What the pages of a window are answered.
use Rattle.std.specs.Prelude.{◌≡◌, ℕ, ◌+◌, ◌*◌, ◌≤◌, ◌<◌, ◌^◌, false, List, map, Option}
use Rattle.std.specs.List.{range_with_len}
use Rattle.word.specs.Bits.{wrap}
use Rattle.sysreg.specs.Regs.{regime_of}
use Rattle.tlb.specs.Answers.{Answer}
use Rattle.tlb.specs.Translate.{fresh_answer}
use Rattle.tlb.specs.declared.access.Kind.TheVariants.{Write}
use Rattle.cpu.specs.Core.{bank_now}
use Rattle.cpu.specs.declared.Core.{Core}
use Rattle.windows.specs.Pages.{page_answer}
use Rattle.windows.specs.declared.list.Window.{Window}

-- where page j begins
abbrev pub address_of : Window → ℕ → ℕ
address_of w j = wrap (w.start + wrap (j * 4096))

abbrev pub answer_at : Core → (ℕ → Option ℕ) → Window → ℕ → Answer
answer_at c memory w j = fresh_answer (bank_now c) (regime_of c.privilege.level) false Write (address_of w j) memory

-- all pages, in order
abbrev pub answers_of : Core → (ℕ → Option ℕ) → Window → List Answer
answers_of c memory w = map (answer_at c memory w) (range_with_len 0 w.pages)

-- of a window that does not pass 2^64 each is answered what the library translates
abbrev pub as_translated : Type 0
as_translated =
    (c : Core) (memory : ℕ → Option ℕ) (w : Window) (j : ℕ) → w.start + 4096 * w.pages ≤ 2 ^ 64 → j < w.pages
    → answer_at c memory w j ≡ page_answer (bank_now c) (regime_of c.privilege.level) memory w j
