-- Every call by eight words keeps its promise; and which numbers and replies refuse.
use Rattle.std.specs.Prelude.{◌≡◌, refl, ℕ, suc, ◌<◌, ◌≤◌, Bool, true, false, List, nat_lt, ◌&&◌, Result, Ok, Err, get_or}
use Rattle.std.proofs.Common.{sym, ap, ◌∙◌, arith}
use Rattle.tlb.specs.Translate.{no_work}
use Rattle.tlb.specs.declared.work.Work.{Work}
use Rattle.cpu.specs.Check.{core_of, number_of, refuses}
use Rattle.cpu.specs.EveryCallEnds.{Outcome, number, says, outcome_of, Wrote, did, faulted, Ended, is-refused, has-run, Ran, is-undefined}
use Rattle.cpu.specs.EveryCallEnds.{is-unimplemented, valued, unreached, stopped, wrote-ram}
use Rattle.cpu.specs.Says.{Said, call, misaligned}
use Rattle.cpu.specs.Step.{step_of, ram_after}
use Rattle.cpu.specs.Work.{step_work}
use Rattle.cpu.specs.declared.{Core.Core, call.Call.Call, call.Reply.Reply, check.Check.Check}
use Rattle.cpu.proofs.EveryCallEnds.{each_call_ends}
use Rattle.cluster.specs.Cluster.{core_in, four_after, four_reply, four_ram, four_work}
use Rattle.call_words.specs.Replies.{code_by, words_by, step_words}
use Rattle.call_words.specs.declared.op.DecodedCall.{DecodedCall}
use Rattle.call_words.specs.declared.op.DecodedCall.TheVariants.{Known, Unknown}
use Rattle.core_calls.proofs.Promised.{by-words}
use Rattle.cluster_calls.specs.Four.{is_refusal, cores_stepped}
use Rattle.cluster_calls.specs.Promise.{ClusterStep}
use Rattle.cluster.specs.Faithful.{FaithfulFour}
use Rattle.cluster.proofs.Faithful.{faithful_four}
use Rattle.cluster.proofs.Refused.{below}
use Rattle.cluster_calls.proofs.OnCore.{above, of-four, of-none, not-asked}

-- WHICH REPLIES REFUSE

-- what no operation says: an exception that is neither an abort nor Undefined
abbrev plain : Outcome → Bool
plain (number n) = nat_lt 0 n && nat_lt n 8
plain (says (call imm)) = false
plain (says misaligned) = false
plain (says s) = true

wrote-plain : (ram after : List ℕ) (s : Said) → Wrote ram after s → plain (says s) ≡ true
wrote-plain ram _ _ (did after h) = refl
wrote-plain ram _ _ (faulted after address status h) = refl

ran-plain : (c d : Core) (ram after : List ℕ) (o : Outcome) → Ran c ram d after o → plain o ≡ true
ran-plain c _ ram _ _ is-undefined = refl
ran-plain c _ ram _ _ is-unimplemented = refl
ran-plain c _ ram _ _ (valued d v) = refl
ran-plain c _ ram _ _ (unreached d) = refl
ran-plain c _ ram _ _ (stopped d address status) = refl
ran-plain c _ ram _ _ (wrote-ram d after s w) = wrote-plain ram after s w

number-plain : (n : ℕ) → suc n ≤ 7 → plain (number (suc n)) ≡ true
number-plain n h = grind arith

ended-plain : (c d : Core) (ram after : List ℕ) (n : ℕ) (o : Outcome) → Ended c ram n d after o → plain o ≡ true
ended-plain c _ ram _ _ _ (is-refused n h) = number-plain n h
ended-plain c _ ram _ _ _ (has-run d after o r) = ran-plain c d ram after o r

pub step-plain : (c : Core) (base : ℕ) (ram : List ℕ) (x : Call) → plain (outcome_of (step_of c base ram x).reply) ≡ true
step-plain c base ram x = ended-plain c _ ram _ _ _ (each_call_ends c base ram x)

number-refuses : (r : Reply) → plain (outcome_of r) ≡ true → is_refusal (code_by r) ≡ refuses r
number-refuses r h = grind arith

words-stop : (r : Reply) (reads : ℕ) → plain (outcome_of r) ≡ true
    → 4 < get_or (step_words r reads) 0 0 → get_or (step_words r reads) 0 0 < 8 → refuses r ≡ true
unfolding words_by
words-stop r reads p l h = grind arith

pub step-refuses : (c : Core) (base : ℕ) (ram : List ℕ) (x : Call) → is_refusal (code_by (step_of c base ram x).reply) ≡ refuses (step_of c base ram x).reply
step-refuses c base ram x = number-refuses (step_of c base ram x).reply (step-plain c base ram x)

pub words-refuse : (c : Core) (base : ℕ) (ram : List ℕ) (x : Call) (reads : ℕ)
    → 4 < get_or (step_words (step_of c base ram x).reply reads) 0 0 → get_or (step_words (step_of c base ram x).reply reads) 0 0 < 8
    → refuses (step_of c base ram x).reply ≡ true
words-refuse c base ram x reads l h = words-stop (step_of c base ram x).reply reads (step-plain c base ram x) l h

-- THE STEP

refused-four : (cs : List Core) (n base : ℕ) (ram : List ℕ) (x : Call) → refuses (step_of (core_in cs n) base ram x).reply ≡ true → four_after cs n base ram x ≡ cs
refused-four cs n base ram x t = grind arith

stepped-off : (p : DecodedCall) (cs : List Core) (n base : ℕ) (ram : List ℕ) → nat_lt 3 n ≡ true → cs ≡ cores_stepped p cs n base ram
stepped-off (Known x) cs n base ram t = rw t refl
stepped-off Unknown cs n base ram t = refl

module _ (base : ℕ) (ram : List ℕ) (cs : List Core) (n : ℕ) (q : Result ℕ Check) where
  pub step-on : (i : ℕ) (p : DecodedCall) (x : Call) (r : Reply) (w0 w : Work) (old v ys : List ℕ) (ds : List Core)
      → q ≡ core_of n → q ≡ Ok i → p ≡ Known x → ds ≡ four_after cs n base ram x → r ≡ four_reply cs n base ram x → ys ≡ four_ram cs n base ram x
      → w ≡ four_work cs n base ram x w0 → w0 ≡ no_work → v ≡ step_words r w.reads → ClusterStep p base ram cs n 0 old v ys ds
  unfolding FaithfulFour
  step-on i p x r w0 w old v ys ds a b named es er ey ew e0 ev =
      let (f, s, m) = below n q i a b in
      let c : Core = core_in cs n in
      let r-is : r ≡ (step_of c base ram x).reply = er ∙ sym (of-four n _ _ f) in
      let y-is : ys ≡ ram_after c base ram x = ey ∙ sym (of-four n _ _ f) in
      let w-is : w ≡ step_work c base ram x no_work = ew ∙ sym (of-four n _ _ f) ∙ ap (step_work c base ram x) e0 in
      let v-is : v ≡ step_words (step_of c base ram x).reply (step_work c base ram x no_work).reads =
      ev ∙ (λ j. step_words (r-is j) (w-is j).reads) in
      let stays : 4 < get_or v 0 0 → get_or v 0 0 < 8 → refuses (step_of c base ram x).reply ≡ true =
      λ l h. words-refuse c base ram x (step_work c base ram x no_work).reads (rw v-is at l) (rw v-is at h) in
      rw named
      (record {
        code = of-four n 0 8 f;
        answer = v-is ∙ of-four n _ old f;
        bytes = y-is ∙ of-four n _ ram f;
        cores = es;
        unnamed = λ l. absurd (omega arith);
        unchanged = λ z l h.
            (es ∙ refused-four cs n base ram x (stays l h), ((by-words x base ram c old v ys (step_of c base ram x).core v-is y-is refl).unchanged l h).1);
        faithful = λ low list made.
            record { reply = r; reads = w.reads; words_are = ev; faithful = faithful_four cs n base ram x r ys er ey low list made };
      })

  pub step-none : (i : ℕ) (p : DecodedCall) (old : List ℕ) → q ≡ core_of n → q ≡ Ok i → p ≡ Unknown → ClusterStep p base ram cs n 64 old old ram cs
  step-none i p old a b named =
      let (f, s, m) = below n q i a b in
      rw named
      (record {
        code = of-four n 64 8 f;
        answer = of-four n old old f;
        bytes = of-four n ram ram f;
        cores = refl;
        unnamed = λ l. (refl, (refl, refl));
        unchanged = λ z l h. (refl, refl);
        faithful = tt;
      })

  pub step-off : (e : Check) (k : ℕ) (p : DecodedCall) (old : List ℕ) → q ≡ core_of n → q ≡ Err e → k ≡ number_of e
      → ClusterStep p base ram cs n k old old ram cs
  step-off e k p old a b h =
      let (t, s) = above n q e a b in
      record {
        code = h ∙ s ∙ of-none n _ 8 t;
        answer = of-none n _ old t;
        bytes = of-none n _ ram t;
        cores = stepped-off p cs n base ram t;
        unnamed = λ l. (refl, (refl, refl));
        unchanged = λ z l h. (refl, refl);
        faithful = not-asked p n _ cs t;
      }
