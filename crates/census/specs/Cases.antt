-- Worked censuses, as one computed statement. SCTLR_EL1.M set, TTBR0_EL1 0x1000, a window of two words at 0x1000: 0, and a 1 GiB block at 0x80000000.
use Rattle.std.specs.Prelude.{◌≡◌, ℕ, ◌+◌, ◌^◌, [], ◌∷◌, ◌++◌, slice_index, refl, Bool, false, ◌||◌, List, ◌==◌}
use Rattle.word.specs.Ram.{word_at, little_endian, bytes_of}
use Rattle.word.specs.Tables.{table}
use Rattle.sysreg.specs.declared.regs.Control.{Control}
use Rattle.walk.specs.Regime.{untagged, pa_size}
use Rattle.walk.specs.Table.{range_of, params_of, table_next, leaf_permissions, leaf_translation, leaf_result, level_next, descaddr, lookup_next}
use Rattle.walk.specs.Table.{walk_from, walk_range, table_walk}
use Rattle.walk.specs.Walk.{walk_of, fresh_of}
use Rattle.sysreg.specs.declared.regs.Regime.TheVariants.{El1}
use Rattle.walk.specs.declared.regime.Bank.{Bank}
use Rattle.census.specs.Count.{how_many, census_of, census_at}

pub registers : ℕ → ℕ → Bank
registers sctlr tcr = record { sctlr = sctlr; tcr = tcr; ttbr0 = 0x1000; ttbr1_el1 = 0; scr_el3 = 0; hcr_el2 = 0 }

-- one place of a census: SCTLR, TCR, the first address, the number of pages, the place
pub counted : ℕ → ℕ → ℕ → ℕ → ℕ → ℕ
unfolding registers
counted sctlr tcr first pages place =
    slice_index (census_of (registers sctlr tcr) El1 (word_at 0x1000 (bytes_of 8 0 ++ bytes_of 8 0x80000401) 8) first pages) place

--   the last page below 1 GiB, which is not mapped, and the first of the block, by an address within the former
--   the last page of the lower range, whose descriptor lies outside RAM, and the first beyond it
--   TBI0 set, TBI1 clear: a page whose tag is kept, then one whose tag is dropped and which is address 0
--   TBI1 set, TBI0 clear: a page whose tag is dropped, then one whose tag is kept and which no range holds
--   the last page of all, by an address within it
--   stage 1 off: three pages; the last below 2^44 and the next; a tag that TBI0 drops, one that it does not
--   no page
abbrev pub WorkedPlaces : Type 0
WorkedPlaces =
    (counted 1 25 0x3FFFF123 2 0x05
    ∷ counted 1 25 0x3FFFF123 2 (64 + 0x3C)
    ∷ counted 1 25 0x7FFFFFF000 2 0x15
    ∷ counted 1 25 0x7FFFFFF000 2 0x04
    ∷ counted 1 (25 + 2 ^ 37) 0x12FFFFFFFFFFF000 2 0x04
    ∷ counted 1 (25 + 2 ^ 37) 0x12FFFFFFFFFFF000 2 0x05
    ∷ counted 1 (25 + 2 ^ 38) 0x12FFFFFFFFFFF000 2 0x14
    ∷ counted 1 (25 + 2 ^ 38) 0x12FFFFFFFFFFF000 2 0x04
    ∷ counted 1 25 0xFFFFFFFFFFFFFFFF 1 0x14
    ∷ counted 0 25 0x3FFFF123 3 128
    ∷ counted 0 25 0xFFFFFFFF123 2 128
    ∷ counted 0 25 0xFFFFFFFF123 2 0x00
    ∷ counted 0 (25 + 2 ^ 37) 0x5A00000000001000 1 128
    ∷ counted 0 25 0x5A00000000001000 1 0x00
    ∷ counted 1 25 0x3FFFF123 0 0x05
    ∷ [])
    ≡ (1 ∷ 1 ∷ 1 ∷ 1 ∷ 1 ∷ 1 ∷ 1 ∷ 1 ∷ 1 ∷ 3 ∷ 1 ∷ 1 ∷ 1 ∷ 1 ∷ 0 ∷ [])

pub worked-places : WorkedPlaces
unfolding counted registers census_of table how_many fresh_of walk_of table_walk walk_range walk_from lookup_next level_next leaf_result leaf_translation
    leaf_permissions table_next descaddr range_of params_of pa_size untagged word_at little_endian bytes_of
worked-places = refl

-- Each level's own regime and registers: EL1&0's tables as above, EL2's outside RAM, EL3's stage 1 off. The first page of the block at EL0, EL1, EL2, EL3.
pub control : Control
control =
    record {
      sctlr = 0 ∷ 1 ∷ 1 ∷ 0 ∷ [];
      tcr = 0 ∷ 25 ∷ 25 ∷ 25 ∷ [];
      ttbr0 = 0 ∷ 0x1000 ∷ 0x2000 ∷ 0x1000 ∷ [];
      ttbr1_el1 = 0;
      scr_el3 = 0;
      hcr_el2 = 0;
    }

pub counted_at : ℕ → ℕ → ℕ
unfolding control
counted_at level place = slice_index (census_at control level (word_at 0x1000 (bytes_of 8 0 ++ bytes_of 8 0x80000401) 8) 0x40000000 1) place

abbrev pub WorkedLevels : Type 0
WorkedLevels = (counted_at 0 (64 + 0x3C) ∷ counted_at 1 (64 + 0x3C) ∷ counted_at 2 0x15 ∷ counted_at 3 128 ∷ []) ≡ (1 ∷ 1 ∷ 1 ∷ 1 ∷ [])

pub worked-levels : WorkedLevels
unfolding counted_at control census_of table how_many fresh_of walk_of table_walk walk_range walk_from lookup_next level_next leaf_result leaf_translation
    leaf_permissions table_next descaddr range_of params_of pa_size untagged word_at little_endian bytes_of
worked-levels = refl

-- Which permission bytes a leaf can have: fourteen, by the manual's tables of every attribute. So of the 64 places of permission bytes all others stay 0.
abbrev pub among : ℕ → List ℕ → Bool
among n [] = false
among n (x ∷ xs) = n == x || among n xs

-- EL0's rights in the low three bits, privileged ones in the high: r 1, w 2, x 4
abbrev pub possible : List ℕ
possible = 8 ∷ 9 ∷ 12 ∷ 13 ∷ 24 ∷ 27 ∷ 28 ∷ 31 ∷ 40 ∷ 41 ∷ 44 ∷ 45 ∷ 56 ∷ 60 ∷ []
