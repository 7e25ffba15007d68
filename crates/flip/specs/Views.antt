-- By which registers and which view a call asks, level by level. The laws are the contract of `theorems::views`.
use Rattle.std.specs.Prelude.{ℕ, ◌+◌, Bool, List, length, Option, Result, slice_index}
use Rattle.sysreg.specs.declared.regs.{Regime.Regime, Control.Control}
use Rattle.tlb.specs.declared.access.Kind.{Kind}
use Rattle.cpu.specs.declared.check.Check.{Check}
use Rattle.flip.specs.Question.{question_of}
use Rattle.flip.specs.Flip.{first_flip, flip_of}
use Rattle.flip.specs.declared.{FlippedBit.FlippedBit, Question.Question}

-- by the registers that stand at a level's place, in a regime, judged by EL0's rights or not
abbrev pub asked : Control → ℕ → Kind → ℕ → Regime → Bool → Question
asked control va kind i regime user =
    record {
      bank =
          record {
            sctlr = slice_index control.sctlr i;
            tcr = slice_index control.tcr i;
            ttbr0 = slice_index control.ttbr0 i;
            ttbr1_el1 = control.ttbr1_el1;
            scr_el3 = control.scr_el3;
            hcr_el2 = control.hcr_el2;
          };
      regime = regime;
      user = user;
      kind = kind;
      va = va;
    }

-- a fact of every question that a call asks: at a level for a view; and of the questions by the registers of a place, in a regime, for a view
abbrev pub EachView : ((ℕ → Bool → Question) → (ℕ → Regime → Bool → Question) → Type 0) → Type 0
EachView P =
    (control : Control) (va : ℕ) (kind : Kind) → P (λ level user. question_of control level va kind user) (asked control va kind)

-- a fact of every call: of the level, where RAM ends, what is found, and what the first flip of its question is
abbrev pub EachAsked : (ℕ → ℕ → Result (Option FlippedBit) Check → Option FlippedBit → Type 0) → Type 0
EachAsked P =
    (control : Control) (level base : ℕ) (ram : List ℕ) (va : ℕ) (kind : Kind) (user : Bool)
    → P level (base + length ram) (flip_of control level base ram va kind user) (first_flip (question_of control level va kind user) base ram)
