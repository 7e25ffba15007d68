-- The walk over lent words.
use Rattle.std.specs.Prelude.{if◌then◌else◌, Bool, List, [], ◌∷◌, ℕ, ◌+◌, get_or, slice_set, length, Result, Ok, Err}
use Rattle.word.specs.Bits.{flag}
use Rattle.word.specs.Ram.{word_at}
use Rattle.walk.specs.Walk.{walk_of, fetches_of}
use Rattle.walk.specs.declared.{regime.Bank.Bank, level.Leaf.Leaf}
use Rattle.sysreg.specs.declared.regs.Regime.{Regime}
use Rattle.sysreg.specs.declared.regs.NoSuchRegime.{NoSuchRegime}
use Rattle.sysreg.specs.Regs.{regime_at}
use Rattle.cpu.specs.Check.{passes}
use Rattle.walk.specs.Answers.{Walked}

-- SCTLR, TCR and TTBR0 of the regime, TTBR1_EL1, SCR_EL3, HCR_EL2
abbrev pub bank_at : List ℕ → Bank
bank_at ws =
    record {
      sctlr = get_or ws 0 0;
      tcr = get_or ws 1 0;
      ttbr0 = get_or ws 2 0;
      ttbr1_el1 = get_or ws 3 0;
      scr_el3 = get_or ws 4 0;
      hcr_el2 = get_or ws 5 0;
    }

-- a leaf as words, and the descriptors read
abbrev pub leaf_after : Leaf → ℕ → List ℕ
leaf_after leaf reads = leaf.oa ∷ leaf.desc ∷ leaf.perms ∷ leaf.level ∷ flag leaf.global 1 ∷ reads ∷ []

abbrev pub code_of : Walked → ℕ
code_of (Ok leaf) = 0
code_of (Err status) = 256 + status

-- of a fault the sixth word alone
abbrev pub words_of : Walked → ℕ → List ℕ → List ℕ
words_of (Ok leaf) reads out = leaf_after leaf reads
words_of (Err status) reads out = slice_set out 5 reads

abbrev pub walk_at : List ℕ → Regime → ℕ → ℕ → List ℕ → Walked
walk_at ws r va base ram = walk_of (bank_at ws) r va (word_at base ram 8)

abbrev pub reads_at : List ℕ → Regime → ℕ → ℕ → List ℕ → ℕ
reads_at ws r va base ram = length (fetches_of (bank_at ws) r va (word_at base ram 8))

abbrev pub code_in : Result Regime NoSuchRegime → Bool → List ℕ → ℕ → ℕ → List ℕ → ℕ
code_in (Err e) past ws va base ram = 64
code_in (Ok r) past ws va base ram = if past then 2 else code_of (walk_at ws r va base ram)

abbrev pub words_in : Result Regime NoSuchRegime → Bool → List ℕ → ℕ → ℕ → List ℕ → List ℕ → List ℕ
words_in (Err e) past ws va base ram out = out
words_in (Ok r) past ws va base ram out = if past then out else words_of (walk_at ws r va base ram) (reads_at ws r va base ram) out

-- 64 for a number that names no regime, 2 for a window that passes 2^64, 0 for a leaf, 256 plus a fault's status
unfoldable pub walk_code : List ℕ → ℕ → ℕ → ℕ → List ℕ → ℕ
walk_code ws number va base ram = code_in (regime_at number) (passes base (length ram)) ws va base ram

-- what is written of a walk, and nothing where there is none
unfoldable pub walk_words : List ℕ → ℕ → ℕ → ℕ → List ℕ → List ℕ → List ℕ
walk_words ws number va base ram out = words_in (regime_at number) (passes base (length ram)) ws va base ram out
