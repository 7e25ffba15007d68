-- How a promise is met: by the call's exact definition.
use Rattle.std.specs.Prelude.{◌≡◌, List, ℕ, true}
use Rattle.std.proofs.Common.{refl, ap, ◌∙◌, arith}
use Rattle.cpu.specs.declared.Core.{Core}
use Rattle.cpu.specs.declared.{call.Call.Call, call.Reply.Reply}
use Rattle.cpu.specs.Step.{Stepped, step_of, ram_after}
use Rattle.cpu.specs.EveryCallEnds.{outcome_of}
use Rattle.transparency.specs.Faithful.{FaithfulCall}
use Rattle.transparency.proofs.Faithful.{faithful-step}
use Rattle.cpu.specs.Work.{step_work}
use Rattle.tlb.specs.Translate.{no_work}
use Rattle.tlb.specs.declared.work.Work.{Work}
use Rattle.call_words.specs.Replies.{code_by, value_by, reads_by, step_words}
use Rattle.call_words.specs.declared.reply.Report.{Report}
use Rattle.quick.specs.Says.{unread}
use Rattle.call_words.specs.declared.op.DecodedCall.{DecodedCall}
use Rattle.call_words.specs.declared.op.DecodedCall.TheVariants.{Known, Unknown}
use Rattle.core_calls.specs.Promise.{Promise, Setting, StepPromise}
use Rattle.core_calls.proofs.Unchanged.{still, step-still, number-still, value-still, reads-still, words-still}

-- THE LAW: a call by the number and the word of its step, its core and its bytes

module _ (x : Call) (base : ℕ) (ram : List ℕ) (c : Core) where
  abbrev s : Stepped
  s = step_of c base ram x

  abbrev w : Work
  w = step_work c base ram x no_work

  pub by-number : (n : ℕ) (old new : Report) (ys : List ℕ) (d : Core) → n ≡ code_by s.reply → new.value ≡ value_by s.reply old.value
      → new.reads ≡ reads_by s.reply w.reads old.reads → ys ≡ ram_after c base ram x → d ≡ s.core → Promise (Known x) base ram c n old new ys d
  unfolding FaithfulCall
  by-number n old new ys d en ev er ey ed =
      record {
        code = en;
        value = ev;
        reads = er;
        bytes = ey;
        core = ed;
        unchanged = λ l h.
            let t : still (outcome_of s.reply) ≡ true = number-still s.reply (rw en at l) (rw en at h) in
            let (a, b) = step-still c base ram x t in
            let report : new ≡ old = λ i. record { value = (ev ∙ value-still s.reply old.value t) i; reads = (er ∙ reads-still s.reply w.reads old.reads t) i } in
            (ed ∙ a, (ey ∙ b, report));
        faithful = λ list e.
            record { reply = s.reply; number_is = en; value_is = ev; faithful = faithful-step c base ram x s ys refl ey list e };
      }

  pub by-words : (old v ys : List ℕ) (d : Core) → v ≡ step_words s.reply w.reads → ys ≡ ram_after c base ram x → d ≡ s.core
      → StepPromise (Known x) base ram c 0 old v ys d
  unfolding FaithfulCall
  by-words old v ys d ev ey ed =
      record {
        code = refl;
        answer = ev;
        bytes = ey;
        core = ed;
        unnamed = λ l. absurd (omega arith);
        unchanged = λ l h.
            let t : still (outcome_of s.reply) ≡ true = words-still s.reply w.reads (rw ev at l) (rw ev at h) in
            let (a, b) = step-still c base ram x t in
            (ed ∙ a, ey ∙ b);
        faithful = λ list e. record { reply = s.reply; reads = w.reads; words_are = ev; faithful = faithful-step c base ram x s ys refl ey list e };
      }

  pub by-step : (d : Core) (r : Reply) (k : Work) (old v ys : List ℕ) → record { core = d; reply = r } ≡ s → ys ≡ ram_after c base ram x → k ≡ w
      → v ≡ step_words r k.reads → StepPromise (Known x) base ram c 0 old v ys d
  by-step d r k old v ys e ey ek ev =
      by-words old v ys d (ev ∙ (λ i. step_words (e i).reply (ek i).reads)) ey (ap (λ (q : Stepped). q.core) e)

-- WORDS THAT NAME NO CALL

pub unnamed : (base : ℕ) (ram : List ℕ) (c : Core) (old : Report) → Promise Unknown base ram c 64 old old ram c
unnamed base ram c old =
    record { code = refl; value = refl; reads = refl; bytes = refl; core = refl; unchanged = λ l h. (refl, (refl, refl)); faithful = tt }

pub unnamed-step : (base : ℕ) (ram : List ℕ) (c : Core) (old : List ℕ) → StepPromise Unknown base ram c 64 old old ram c
unnamed-step base ram c old =
    record {
      code = refl;
      answer = refl;
      bytes = refl;
      core = refl;
      unnamed = λ l. (refl, (refl, refl));
      unchanged = λ l h. (refl, refl);
      faithful = tt;
    }

pub unnamed-setting : (c : Core) (p : DecodedCall) → Unknown ≡ p → Setting p c 64 c
unnamed-setting c p e = rw (← e) (record { on = λ base ram v. unnamed base ram c (unread v) })

-- the call that words name
pub of-words-step : (p q : DecodedCall) (base : ℕ) (ram : List ℕ) (c : Core) (n : ℕ) (old v ys : List ℕ) (d : Core) → p ≡ q
    → StepPromise q base ram c n old v ys d → StepPromise p base ram c n old v ys d
of-words-step p q base ram c n old v ys d e t = rw e t

pub of-words-setting : (p q : DecodedCall) (c : Core) (n : ℕ) (d : Core) → p ≡ q → Setting q c n d → Setting p c n d
of-words-setting p q c n d e t = rw e t
