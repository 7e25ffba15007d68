-- A translation that is asked for with nothing cached, and when two answers are one.
use Rattle.std.specs.Prelude.{ℕ, Bool, false, ◌==◌, List, Ok, Err}
use Rattle.word.specs.Ram.{word_at}
use Rattle.sysreg.specs.Regs.{regime_of}
use Rattle.sysreg.specs.declared.regs.{Regime.Regime, Control.Control}
use Rattle.sysreg.specs.declared.regs.Regime.TheVariants.{El1, El2, El3}
use Rattle.walk.specs.Regime.{bank_of}
use Rattle.tlb.specs.Answers.{Answer}
use Rattle.tlb.specs.Translate.{fresh_answer}
use Rattle.tlb.specs.declared.access.Kind.{Kind}
use Rattle.flip.specs.declared.Question.{Question}

-- the view, EL0's or the regime's own: the regimes of EL2 and EL3 have one view
abbrev pub viewed : Regime → Bool → Bool
viewed El1 user = user
viewed El2 user = false
viewed El3 user = false

-- under the registers kept, in the regime of an exception level
abbrev pub question_of : Control → ℕ → ℕ → Kind → Bool → Question
question_of control level va kind user =
    record { bank = bank_of control (regime_of level); regime = regime_of level; user = viewed (regime_of level) user; kind = kind; va = va }

-- the fresh answer over a window of RAM
abbrev pub answer_on : Question → ℕ → List ℕ → Answer
answer_on q base ram = fresh_answer q.bank q.regime q.user q.kind q.va (word_at base ram 8)

-- address and address, or status and status
abbrev pub same_answer : Answer → Answer → Bool
same_answer (Ok a) (Ok b) = a == b
same_answer (Err f) (Err g) = f.fsc == g.fsc
same_answer (Ok a) (Err g) = false
same_answer (Err f) (Ok b) = false
