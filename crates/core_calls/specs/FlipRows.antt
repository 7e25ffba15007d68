-- The number and the words of a flip, in numbers.
use Rattle.std.specs.Prelude.{◌≡◌, ℕ, List, [], ◌∷◌, Option}
use Rattle.word.specs.Ram.{bytes_of}
use Rattle.sysreg.specs.Regs.{levels}
use Rattle.cpu.specs.Cases.{at}
use Rattle.cpu.specs.declared.Core.{Core}
use Rattle.core_calls.specs.Flip.{Flipped, flip_number, flip_words, flip_in}

-- the number and then the words, which were 7, 8 and 9
abbrev told : Option Flipped → List ℕ
told found = flip_number found ∷ flip_words found (7 ∷ 8 ∷ 9 ∷ [])

-- a core at a level, with TCR_EL1 as given and a table of EL1 at 0x1000; at EL2 stage 1 is off
abbrev core : ℕ → ℕ → Core
core tcr level =
    record (at level 0x1000) {
      control =
          record {
            sctlr = levels 1 0 0;
            tcr = levels tcr 0 0;
            ttbr0 = levels 0x1000 0 0;
            ttbr1_el1 = 0;
            scr_el3 = 0;
            hcr_el2 = 0;
          };
    }

-- of 0x40001234, where RAM holds one word; then the words of kind and view
abbrev row : ℕ → ℕ → ℕ → ℕ → ℕ → ℕ → List ℕ
row tcr level base word kind user = told (flip_in (core tcr level) base (bytes_of 8 word) 0x40001234 kind user)

pub record FlipRows : Type 0 where
  -- a block of level 1, the second word of its table: its bit 0; and by a fetch in EL0's view
  pub block : row 25 1 0x1008 0x80000401 1 0 ≡ (0 ∷ 1 ∷ 0x1008 ∷ 0 ∷ [])
  pub fetch : row 25 0 0x1008 0x80000401 4 1 ≡ (0 ∷ 1 ∷ 0x1008 ∷ 0 ∷ [])
  -- where no block may stand, bit 1 of 1, and nothing of 0
  pub second : row 16 1 0x1000 1 2 0 ≡ (0 ∷ 1 ∷ 0x1000 ∷ 1 ∷ [])
  pub none : row 16 1 0x1000 0 1 0 ≡ (0 ∷ 0 ∷ 0 ∷ 0 ∷ [])
  pub off : row 25 2 0x1008 0x80000401 1 0 ≡ (0 ∷ 0 ∷ 0 ∷ 0 ∷ [])
  -- a level above 3, and a window of RAM that passes 2^64
  pub level : row 25 4 0xFFFFFFFFFFFFFFF9 0x80000401 1 0 ≡ (1 ∷ 7 ∷ 8 ∷ 9 ∷ [])
  pub ram : row 25 1 0xFFFFFFFFFFFFFFF9 0x80000401 1 0 ≡ (2 ∷ 7 ∷ 8 ∷ 9 ∷ [])
  -- words that name no kind and no view, before both
  pub kind : row 25 4 0xFFFFFFFFFFFFFFF9 0x80000401 3 0 ≡ (64 ∷ 7 ∷ 8 ∷ 9 ∷ [])
  pub view : row 25 4 0xFFFFFFFFFFFFFFF9 0x80000401 1 2 ≡ (64 ∷ 7 ∷ 8 ∷ 9 ∷ [])
