-- Worked flips, each as one computed statement.
use Rattle.std.specs.Prelude.{◌≡◌, refl, ℕ, ◌^◌, ◌-◌, Bool, true, false, Option, Some, None, List, [], ◌∷◌, ◌++◌, Result, Ok, Err}
use Rattle.fault.specs.First.{first}
use Rattle.word.specs.Ram.{word_at, little_endian, bytes_of}
use Rattle.word.specs.Tables.{table}
use Rattle.sysreg.specs.declared.regs.Control.{Control}
use Rattle.walk.specs.Regime.{untagged, pa_size}
use Rattle.walk.specs.Table.{range_of, params_of, table_next, leaf_permissions, leaf_translation, leaf_result, level_next, descaddr, lookup_next}
use Rattle.walk.specs.Table.{walk_from, walk_range, table_walk}
use Rattle.walk.specs.Walk.{walk_of, fresh_of, fetches_from, fetches_range, fetches_of}
use Rattle.tlb.specs.Translate.{fresh_answer}
use Rattle.tlb.specs.declared.access.Kind.{Kind}
use Rattle.tlb.specs.declared.access.Kind.TheVariants.{Read, Write, Fetch}
use Rattle.cpu.specs.declared.check.Check.{Check}
use Rattle.flip.specs.Question.{question_of, answer_on}
use Rattle.flip.specs.Flip.{flipped, changes, first_in, first_flip, flip_of}
use Rattle.flip.specs.declared.{FlippedBit.FlippedBit, Question.Question}

-- SCTLR_EL1.M set, TCR_EL1 and TTBR0_EL1 as given; EL2 and EL3 with stage 1 off
pub control : ℕ → ℕ → Control
control tcr ttbr0 =
    record {
      sctlr = 0 ∷ 1 ∷ 0 ∷ 0 ∷ [];
      tcr = 0 ∷ tcr ∷ 0 ∷ 0 ∷ [];
      ttbr0 = 0 ∷ ttbr0 ∷ 0 ∷ 0 ∷ [];
      ttbr1_el1 = 0;
      scr_el3 = 0;
      hcr_el2 = 0;
    }

abbrev pub Found : Type 0
Found = Result (Option FlippedBit) Check

abbrev pub bit : ℕ → ℕ → Found
bit pa b = Ok (Some (record { pa = pa; bit = b }))

-- a read at EL1 of 0x40001234: TCR, and the window of RAM; the first table is at 0x1000
pub read : ℕ → ℕ → List ℕ → Found
read tcr base ram = flip_of (control tcr 0x1000) 1 base ram 0x40001234 Read false

-- ONE DESCRIPTOR, of which its bits 1:0 and its level decide
--   a block at level 1; none, 1, 10 and 11 there, where a block may stand
--   none and 1 at level 0, at level 1 with 64 KiB, and at level 3 of a walk that begins there
abbrev pub WorkedDescriptors : Type 0
WorkedDescriptors =
    (read 25 0x1008 (bytes_of 8 0x80000401) ≡ bit 0x1008 0)
    × (read 25 0x1008 (bytes_of 8 0) ≡ bit 0x1008 0)
    × (read 25 0x1008 (bytes_of 8 1) ≡ bit 0x1008 0)
    × (read 25 0x1008 (bytes_of 8 2) ≡ bit 0x1008 0)
    × (read 25 0x1008 (bytes_of 8 3) ≡ bit 0x1008 0)
    × (read 16 0x1000 (bytes_of 8 0) ≡ Ok None)
    × (read 16 0x1000 (bytes_of 8 1) ≡ bit 0x1000 1)
    × (read 0x4010 0x1000 (bytes_of 8 0) ≡ Ok None)
    × (read 0x4010 0x1000 (bytes_of 8 1) ≡ bit 0x1000 1)
    × (flip_of (control 0x4027 0x1000) 1 0x1000 (bytes_of 8 0) 0x1234 Read false ≡ Ok None)
    × (flip_of (control 0x4027 0x1000) 1 0x1000 (bytes_of 8 1) 0x1234 Read false ≡ bit 0x1000 1)

pub worked-descriptors : WorkedDescriptors
unfolding control read flip_of first_flip first_in flipped fresh_answer table fresh_of walk_of table_walk walk_range walk_from lookup_next
    level_next leaf_result leaf_translation leaf_permissions table_next descaddr range_of params_of pa_size untagged word_at little_endian bytes_of
    fetches_of fetches_range fetches_from
worked-descriptors = (refl, refl, refl, refl, refl, refl, refl, refl, refl, refl, refl)

-- TABLES
--   a table of level 2 and a page below it: bit 0 of either changes the answer, and the table's is found
--   a table of level 2 that maps itself: one word is read at levels 2 and 3, and bit 10, the access flag, counts at level 3 alone
--   the word of another table, which is read at level 2 alone: bit 10 changes nothing
pub two_levels : List ℕ
two_levels = bytes_of 8 0x2003 ++ bytes_of 8 0x80000403

abbrev pub paged : ℕ → Question
paged va = question_of (control 34 0x1000) 1 va Read false

abbrev pub WorkedTables : Type 0
WorkedTables =
    (first_flip (paged 0x3FE00000) 0x1FF8 two_levels ≡ Some (record { pa = 0x1FF8; bit = 0 }))
    × (changes (paged 0x3FE00000) 0x1FF8 two_levels 0 ≡ true)
    × (changes (paged 0x3FE00000) 0x1FF8 two_levels 64 ≡ true)
    × (answer_on (paged 0x234) 0x1000 (bytes_of 8 0x1003) ≡ Err (first 0x0B))
    × (answer_on (paged 0x234) 0x1000 (flipped (bytes_of 8 0x1003) 10) ≡ Ok 0x1234)
    × (changes (paged 0x234) 0x1000 (bytes_of 8 0x1003) 10 ≡ true)
    × (changes (paged 0x234) 0x1000 (bytes_of 8 0x2003) 10 ≡ false)

pub worked-tables : WorkedTables
unfolding control two_levels flip_of first_flip first_in flipped fresh_answer table fresh_of walk_of table_walk walk_range walk_from lookup_next
    level_next leaf_result leaf_translation leaf_permissions table_next descaddr range_of params_of pa_size untagged word_at little_endian bytes_of
    fetches_of fetches_range fetches_from
worked-tables = (refl, refl, refl, refl, refl, refl, refl)

-- VIEWS AND ACCESSES, of a block that EL0 may not read and EL1 may write
--   judged by EL0's rights a fault, and by EL1's an address, at EL1 and at EL0; the bit that is found is the same
--   bit 6 gives EL0 the right, and bit 7 takes that to write away
pub block : List ℕ
block = bytes_of 8 0x80000401

abbrev pub asked_at : ℕ → Kind → Bool → Question
asked_at level kind user = question_of (control 25 0x1000) level 0x40001234 kind user

abbrev pub WorkedViews : Type 0
WorkedViews =
    (answer_on (asked_at 1 Read false) 0x1008 block ≡ Ok 0x80001234)
    × (answer_on (asked_at 1 Read true) 0x1008 block ≡ Err (first 0x0D))
    × (answer_on (asked_at 0 Read false) 0x1008 block ≡ Ok 0x80001234)
    × (answer_on (asked_at 0 Read true) 0x1008 block ≡ Err (first 0x0D))
    × (flip_of (control 25 0x1000) 1 0x1008 block 0x40001234 Read true ≡ bit 0x1008 0)
    × (flip_of (control 25 0x1000) 0 0x1008 block 0x40001234 Fetch false ≡ bit 0x1008 0)
    × (changes (asked_at 1 Read true) 0x1008 block 6 ≡ true)
    × (changes (asked_at 1 Read false) 0x1008 block 6 ≡ false)
    × (changes (asked_at 1 Write false) 0x1008 block 7 ≡ true)
    × (changes (asked_at 1 Read false) 0x1008 block 7 ≡ false)

pub worked-views : WorkedViews
unfolding control block flip_of first_flip first_in flipped fresh_answer table fresh_of walk_of table_walk walk_range walk_from lookup_next
    level_next leaf_result leaf_translation leaf_permissions table_next descaddr range_of params_of pa_size untagged word_at little_endian bytes_of
    fetches_of fetches_range fetches_from
worked-views = (refl, refl, refl, refl, refl, refl, refl, refl, refl, refl)

-- NOTHING IS READ
--   a descriptor that is cut by the window's end, or by its begin
--   an address out of range, a base beyond the output size, walks disabled
--   stage 1 off, at EL2 and at EL3; a level that there is not, before all else; a window that passes 2^64
abbrev pub WorkedNothing : Type 0
WorkedNothing =
    (read 25 0x1008 (0x01 ∷ 0x04 ∷ 0 ∷ 0x80 ∷ 0 ∷ 0 ∷ 0 ∷ []) ≡ Ok None)
    × (read 25 0x1009 (bytes_of 8 0x80000401) ≡ Ok None)
    × (flip_of (control 25 0x1000) 1 0x1008 block 0x8000000000 Read false ≡ Ok None)
    × (flip_of (control 25 0x100000000) 1 0x1008 block 0x40001234 Read false ≡ Ok None)
    × (read 0x99 0x1008 block ≡ Ok None)
    × (flip_of (control 25 0x1000) 2 0x1008 block 0x40001234 Read false ≡ Ok None)
    × (flip_of (control 25 0x1000) 3 0x1008 block 0x40001234 Read false ≡ Ok None)
    × (flip_of (control 25 0x1000) 4 (2 ^ 64 - 7) block 0x40001234 Read false ≡ Err Check.Level)
    × (read 25 (2 ^ 64 - 7) block ≡ Err Check.Window)
    × (read 25 (2 ^ 64 - 8) block ≡ Ok None)

pub worked-nothing : WorkedNothing
unfolding control block read flip_of first_flip first_in flipped fresh_answer table fresh_of walk_of table_walk walk_range walk_from lookup_next
    level_next leaf_result leaf_translation leaf_permissions table_next descaddr range_of params_of pa_size untagged word_at little_endian bytes_of
    fetches_of fetches_range fetches_from
worked-nothing = (refl, refl, refl, refl, refl, refl, refl, refl, refl, refl)
