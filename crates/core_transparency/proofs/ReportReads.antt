-- The reads of a report on a core that calls made are those of the core after the list.
use Rattle.std.specs.Prelude.{◌≡◌, refl, List, ℕ, ◌<◌, ◌≤◌, get_or}
use Rattle.std.proofs.Common.{ap, ◌∙◌, arith}
use Rattle.exception.specs.declared.{kind.Exception.Exception, kind.Stop.Stop}
use Rattle.cpu.specs.declared.Core.{Core}
use Rattle.cpu.specs.declared.{call.Reply.Reply}
use Rattle.cpu.specs.declared.call.Reply.TheVariants.{Refused, Done, Value, Faults, Fault, Stopped}
use Rattle.cpu.specs.Step.{step_of}
use Rattle.cpu.specs.EveryCallEnds.{Outcome, number, says, outcome_of, Ran, is-undefined, is-unimplemented, valued, unreached, stopped, wrote-ram}
use Rattle.cpu.specs.EveryCallEnds.{Ended, is-refused, has-run}
use Rattle.cpu.proofs.EveryCallEnds.{each_call_ends}
use Rattle.history.specs.Instance.{window_of}
use Rattle.transparency.specs.Reads.{reads_on}
use Rattle.transparency.proofs.CallReads.{call-reads}
use Rattle.call_words.specs.Replies.{code_by, reads_by, words_by, step_words}
use Rattle.core_transparency.specs.OnCore.{made-core}
use Rattle.core_transparency.specs.Reads.{reads_on_core, step_reads_on_core}

-- the number of a refusal is one of a check
abbrev Numbered : Outcome → Type 0
Numbered (number n) = (0 < n) × (n ≤ 7)
Numbered (says s) = Unit {0}

module _ (c : Core) (ram : List ℕ) where
  ran-numbered : (d : Core) (after : List ℕ) (o : Outcome) → Ran c ram d after o → Numbered o
  ran-numbered _ _ _ is-undefined = tt
  ran-numbered _ _ _ is-unimplemented = tt
  ran-numbered _ _ _ (valued d v) = tt
  ran-numbered _ _ _ (unreached d) = tt
  ran-numbered _ _ _ (stopped d a f) = tt
  ran-numbered _ _ _ (wrote-ram d after s w) = tt

  ended-numbered : (n : ℕ) (d : Core) (after : List ℕ) (o : Outcome) → Ended c ram n d after o → Numbered o
  ended-numbered _ _ _ _ (is-refused n l) = (omega arith, l)
  ended-numbered _ _ _ _ (has-run d after o r) = ran-numbered d after o r

-- a number that is none from 1 to 255 is of a reply that reports what was read
told : (r : Reply) (reads old : ℕ) → Numbered (outcome_of r) → (0 < code_by r → code_by r < 256 → ⊥) → reads_by r reads old ≡ reads
told (Refused n) reads old b h = let l = b.0 in let u = b.1 in absurd (h l (omega (arith, u)))
told Done reads old b h = refl
told (Value v) reads old b h = refl
told Faults reads old b h = refl
told (Fault addr f) reads old b h = refl
told (Stopped Stop.Unimplemented) reads old b h = absurd (h (omega arith) (omega arith))
told (Stopped (Stop.Exception (Exception.DataAbort a))) reads old b h = refl
told (Stopped (Stop.Exception (Exception.InsnAbort a))) reads old b h = refl
told (Stopped (Stop.Exception Exception.Undefined)) reads old b h = absurd (h (omega arith) (omega arith))
told (Stopped (Stop.Exception (Exception.Svc imm))) reads old b h = absurd (h (omega arith) (omega arith))
told (Stopped (Stop.Exception (Exception.Hvc imm))) reads old b h = absurd (h (omega arith) (omega arith))
told (Stopped (Stop.Exception (Exception.Smc imm))) reads old b h = absurd (h (omega arith) (omega arith))
told (Stopped (Stop.Exception (Exception.Brk imm))) reads old b h = absurd (h (omega arith) (omega arith))
told (Stopped (Stop.Exception Exception.PcAlignment)) reads old b h = absurd (h (omega arith) (omega arith))

-- and so is an answer whose first word is none of 5, 6 and 7
worded : (r : Reply) (reads : ℕ) → (4 < get_or (step_words r reads) 0 0 → get_or (step_words r reads) 0 0 < 8 → ⊥)
    → get_or (step_words r reads) 4 0 ≡ reads
unfolding words_by
worded (Refused n) reads h = absurd (h (omega arith) (omega arith))
worded Done reads h = refl
worded (Value v) reads h = refl
worded Faults reads h = refl
worded (Fault addr f) reads h = refl
worded (Stopped Stop.Unimplemented) reads h = absurd (h (omega arith) (omega arith))
worded (Stopped (Stop.Exception (Exception.DataAbort a))) reads h = refl
worded (Stopped (Stop.Exception (Exception.InsnAbort a))) reads h = refl
worded (Stopped (Stop.Exception Exception.Undefined)) reads h = absurd (h (omega arith) (omega arith))
worded (Stopped (Stop.Exception (Exception.Svc imm))) reads h = absurd (h (omega arith) (omega arith))
worded (Stopped (Stop.Exception (Exception.Hvc imm))) reads h = absurd (h (omega arith) (omega arith))
worded (Stopped (Stop.Exception (Exception.Smc imm))) reads h = absurd (h (omega arith) (omega arith))
worded (Stopped (Stop.Exception (Exception.Brk imm))) reads h = absurd (h (omega arith) (omega arith))
worded (Stopped (Stop.Exception Exception.PcAlignment)) reads h = absurd (h (omega arith) (omega arith))

-- with 5, 6 and 7 the fifth word is 0
blank : (r : Reply) (reads : ℕ) → 4 < get_or (step_words r reads) 0 0 → get_or (step_words r reads) 0 0 < 8 → get_or (step_words r reads) 4 0 ≡ 0
unfolding words_by
blank (Refused n) reads l h = refl
blank Done reads l h = absurd (omega arith)
blank (Value v) reads l h = absurd (omega arith)
blank Faults reads l h = absurd (omega arith)
blank (Fault addr f) reads l h = absurd (omega arith)
blank (Stopped Stop.Unimplemented) reads l h = refl
blank (Stopped (Stop.Exception (Exception.DataAbort a))) reads l h = absurd (omega arith)
blank (Stopped (Stop.Exception (Exception.InsnAbort a))) reads l h = absurd (omega arith)
blank (Stopped (Stop.Exception Exception.Undefined)) reads l h = refl
blank (Stopped (Stop.Exception (Exception.Svc imm))) reads l h = refl
blank (Stopped (Stop.Exception (Exception.Hvc imm))) reads l h = refl
blank (Stopped (Stop.Exception (Exception.Smc imm))) reads l h = refl
blank (Stopped (Stop.Exception (Exception.Brk imm))) reads l h = refl
blank (Stopped (Stop.Exception Exception.PcAlignment)) reads l h = refl

pub reads-on-core : reads_on_core
reads-on-core c list m x base ram n old new ys d p h =
    let r : Reply = (step_of c base ram x).reply in
    p.reads
    ∙ told r (reads_on c (window_of base ram) x) old.reads (ended-numbered c ram _ _ _ _ (each_call_ends c base ram x)) (rw p.code at h)
    ∙ ap (λ (k : Core). reads_on k (window_of base ram) x) (made-core c list m) ∙ call-reads list (window_of base ram) x

pub step-reads-on-core : step_reads_on_core
step-reads-on-core c list m x base ram n old v ys d p =
    let r : Reply = (step_of c base ram x).reply in
    let w : ℕ = reads_on c (window_of base ram) x in (
      λ h. ap (λ (l : List ℕ). get_or l 4 0) p.answer ∙ worded r w (rw p.answer at h)
          ∙ ap (λ (k : Core). reads_on k (window_of base ram) x) (made-core c list m) ∙ call-reads list (window_of base ram) x,
      λ l u. ap (λ (l : List ℕ). get_or l 4 0) p.answer ∙ blank r w (rw p.answer at l) (rw p.answer at u),
    )
