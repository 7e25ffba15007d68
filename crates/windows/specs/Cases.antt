-- Worked lists, each as one computed statement.
use Rattle.std.specs.Prelude.{◌≡◌, refl, ℕ, ◌^◌, ◌-◌, Some, None, List, [], ◌∷◌, ◌++◌, Ok, Err}
use Rattle.fault.specs.First.{first}
use Rattle.word.specs.Ram.{word_at, little_endian, bytes_of}
use Rattle.word.specs.Tables.{table}
use Rattle.sysreg.specs.declared.regs.Control.{Control}
use Rattle.walk.specs.Regime.{untagged, pa_size}
use Rattle.walk.specs.Table.{range_of, params_of, table_next, leaf_permissions, leaf_translation, leaf_result, level_next, descaddr, lookup_next}
use Rattle.walk.specs.Table.{walk_from, walk_range, table_walk}
use Rattle.walk.specs.Walk.{walk_of, fresh_of}
use Rattle.tlb.specs.Translate.{fresh_answer}
use Rattle.cpu.specs.declared.check.Check.TheVariants as Check
use Rattle.windows.specs.List.{list_of}
use Rattle.windows.specs.Pairs.{pair}
use Rattle.windows.specs.Right.{bytes_of_windows}
use Rattle.windows.specs.Windows.{Found, found_in, windows_of}
use Rattle.windows.specs.declared.list.Window.{Window}
use Rattle.windows.specs.declared.list.Malformed.TheVariants.{Length, Count, Start, Pages, End}
use Rattle.windows.specs.declared.WindowsError.TheVariants as Error

-- the EL1&0 regime with 30 address bits, tables of 4 KiB pages at 0x1000: level 2 is the first
pub control : ℕ → Control
control sctlr =
    record {
      sctlr = 0 ∷ sctlr ∷ 0 ∷ 0 ∷ [];
      tcr = 0 ∷ 34 ∷ 0 ∷ 0 ∷ [];
      ttbr0 = 0 ∷ 0x1000 ∷ 0 ∷ 0 ∷ [];
      ttbr1_el1 = 0;
      scr_el3 = 0;
      hcr_el2 = 0;
    }

-- The last entry of that table, and six of the table of level 3 at 0x2000 that it names: a page at 0x80000000, the same page again, the next,
-- a page that may not be written, none, and the second page again.
pub pages : List ℕ
pages =
    bytes_of 8 0x2003
    ++ (bytes_of 8 0x80000403
    ++ (bytes_of 8 0x80000403 ++ (bytes_of 8 0x80001403 ++ (bytes_of 8 0x80002483 ++ (bytes_of 8 0 ++ bytes_of 8 0x80001403)))))

-- the first three entries of the table: none, a block at 0x80000000, and the same block again
pub blocks : List ℕ
blocks = bytes_of 8 0 ++ (bytes_of 8 0x80000401 ++ bytes_of 8 0x80000401)

-- a window of so many pages
pub of : ℕ → ℕ → Window
of start pages = record { start = start; pages = pages }

-- the answer at a level with stage 1 on, over the pages
pub paged : ℕ → List Window → Found
paged level ws = windows_of (control 1) level 0x1FF8 pages (bytes_of_windows ws)

pub faulting : ℕ → ℕ → ℕ → Found
faulting i j status = Err (Error.Page (record { window = i; page = j; fault = first status }))

-- THE BYTES OF A LIST: two windows, their first addresses before their lengths; then each that is refused
abbrev pub WorkedBytes : Type 0
WorkedBytes =
    (list_of (2 ∷ 0 ∷ 0 ∷ 0x10 ∷ 0 ∷ 0 ∷ 0 ∷ 0 ∷ 0 ∷ 0 ∷ 0 ∷ 0x20 ∷ 0 ∷ 0 ∷ 0 ∷ 0 ∷ 0 ∷ 0x80 ∷ 3 ∷ 0 ∷ 16 ∷ 0 ∷ [])
    ≡ Ok (record { start = 0x1000; pages = 3 } ∷ record { start = 0x8000000000002000; pages = 16 } ∷ []))
    × (list_of (0 ∷ 0 ∷ []) ≡ Ok [])
    × (list_of (0 ∷ []) ≡ Err Length)
    × (list_of (0 ∷ 0 ∷ 0 ∷ []) ≡ Err Length)
    × (list_of (65 ∷ 0 ∷ []) ≡ Err Count)
    × (list_of (64 ∷ 0 ∷ []) ≡ Err Length)
    × (list_of (1 ∷ 0 ∷ 0 ∷ 0x08 ∷ 0 ∷ 0 ∷ 0 ∷ 0 ∷ 0 ∷ 0 ∷ 0 ∷ 0 ∷ []) ≡ Err (Start 0))
    × (list_of (1 ∷ 0 ∷ 0 ∷ 0x10 ∷ 0 ∷ 0 ∷ 0 ∷ 0 ∷ 0 ∷ 0 ∷ 0 ∷ 0 ∷ []) ≡ Err (Pages 0))
    × (list_of (1 ∷ 0 ∷ 0 ∷ 0x10 ∷ 0 ∷ 0 ∷ 0 ∷ 0 ∷ 0 ∷ 0 ∷ 17 ∷ 0 ∷ []) ≡ Err (Pages 0))
    × (list_of (1 ∷ 0 ∷ 0 ∷ 0xF0 ∷ 0xFF ∷ 0xFF ∷ 0xFF ∷ 0xFF ∷ 0xFF ∷ 0xFF ∷ 1 ∷ 0 ∷ []) ≡ Ok (record { start = 0xFFFFFFFFFFFFF000; pages = 1 } ∷ []))
    × (list_of (1 ∷ 0 ∷ 0 ∷ 0xF0 ∷ 0xFF ∷ 0xFF ∷ 0xFF ∷ 0xFF ∷ 0xFF ∷ 0xFF ∷ 2 ∷ 0 ∷ []) ≡ Err (End 0))

pub worked-bytes : WorkedBytes
unfolding list_of table little_endian
worked-bytes = (refl, refl, refl, refl, refl, refl, refl, refl, refl, refl, refl)

-- ANSWERS
--   no window, and one alone
--   windows 0 and 2 share a page, 1 and 2 too: the first pair, at EL1 and at EL0, whose own rights do not count
--   a window that maps one page twice, beside one that lies apart; three windows of which 1 and 2 share
--   a page that may not be written in window 1 beside a pair (0, 2); the second page of a window; a page that is not mapped
--   a level that there is not, before all else; a window of RAM that passes 2^64, before the list
--   a list that is not right, before a page that faults
abbrev pub WorkedAnswers : Type 0
WorkedAnswers =
    (paged 1 [] ≡ Ok None)
    × (paged 1 (of 0x3FE00000 3 ∷ []) ≡ Ok None)
    × (paged 1 (of 0x3FE00000 1 ∷ of 0x3FE02000 1 ∷ of 0x3FE01000 2 ∷ []) ≡ Ok (Some (pair 0 2)))
    × (paged 0 (of 0x3FE00000 1 ∷ of 0x3FE02000 1 ∷ of 0x3FE01000 2 ∷ []) ≡ Ok (Some (pair 0 2)))
    × (paged 1 (of 0x3FE00000 2 ∷ of 0x3FE02000 1 ∷ []) ≡ Ok None)
    × (paged 1 (of 0x3FE00000 1 ∷ of 0x3FE02000 1 ∷ of 0x3FE05000 1 ∷ []) ≡ Ok (Some (pair 1 2)))
    × (paged 1 (of 0x3FE00000 1 ∷ of 0x3FE03000 1 ∷ of 0x3FE01000 1 ∷ []) ≡ faulting 1 0 0x0F)
    × (paged 1 (of 0x3FE00000 2 ∷ of 0x3FE02000 3 ∷ []) ≡ faulting 1 1 0x0F)
    × (paged 1 (of 0x3FE04000 1 ∷ []) ≡ faulting 0 0 0x07)
    × (paged 4 [] ≡ Err (Error.Check Check.Level))
    × (windows_of (control 1) 1 (2 ^ 64 - 8) pages [] ≡ Err (Error.Check Check.Window))
    × (paged 1 (of 0x3FE04000 1 ∷ of 0x3FE00000 0 ∷ []) ≡ Err (Error.List (Pages 1)))

pub worked-answers : WorkedAnswers
unfolding control pages of paged faulting bytes_of_windows windows_of list_of found_in fresh_answer table fresh_of walk_of table_walk walk_range walk_from lookup_next
    level_next leaf_result leaf_translation leaf_permissions table_next descaddr range_of params_of pa_size untagged word_at little_endian bytes_of
worked-answers = (refl, refl, refl, refl, refl, refl, refl, refl, refl, refl, refl, refl)

-- BLOCKS AND STAGE 1 OFF
--   windows 0 and 2 meet in a 2 MiB block through two addresses; the same at other places in the block
--   stage 1 off: a page is its own; one beyond 2^44 is none, as the last page of all, where a window may end
--   at EL2 and EL3, where stage 1 is off, each page of the windows of above is its own: another regime's answer
abbrev pub WorkedBlocks : Type 0
WorkedBlocks =
    (windows_of (control 1) 1 0x1000 blocks (bytes_of_windows (of 0x200000 2 ∷ of 0x210000 1 ∷ of 0x401000 1 ∷ [])) ≡ Ok (Some (pair 0 2)))
    × (windows_of (control 1) 1 0x1000 blocks (bytes_of_windows (of 0x200000 2 ∷ of 0x210000 1 ∷ of 0x402000 1 ∷ [])) ≡ Ok None)
    × (windows_of (control 0) 1 0x1000 blocks (bytes_of_windows (of 0x200000 2 ∷ of 0x400000 1 ∷ of 0x201000 1 ∷ [])) ≡ Ok (Some (pair 0 2)))
    × (windows_of (control 0) 1 0x1000 blocks (bytes_of_windows (of 0xFFFFFFFFFFFFF000 1 ∷ [])) ≡ faulting 0 0 0x00)
    × (paged 2 (of 0x3FE00000 1 ∷ of 0x3FE02000 1 ∷ of 0x3FE01000 2 ∷ []) ≡ Ok (Some (pair 1 2)))
    × (paged 3 (of 0x3FE00000 1 ∷ of 0x3FE02000 1 ∷ of 0x3FE01000 2 ∷ []) ≡ Ok (Some (pair 1 2)))

pub worked-blocks : WorkedBlocks
unfolding control pages blocks of paged faulting bytes_of_windows windows_of list_of found_in fresh_answer table fresh_of walk_of table_walk walk_range walk_from lookup_next
    level_next leaf_result leaf_translation leaf_permissions table_next descaddr range_of params_of pa_size untagged word_at little_endian bytes_of
worked-blocks = (refl, refl, refl, refl, refl, refl)
