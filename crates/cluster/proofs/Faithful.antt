-- Every list of calls of the four cores is faithful for each of them.
use Rattle.std.specs.Prelude.{if◌then◌else◌, ◌≡◌, refl, ℕ, ◌≤◌, false, List, nat_lt, Some, Result, Ok, length, slice_index_or}
use Rattle.std.proofs.Common.{sym, ap, ap₂, ◌∙◌, arith, subst}
use Rattle.cpu.specs.Core.{fresh_core}
use Rattle.cpu.specs.Check.{core_of}
use Rattle.cpu.specs.Step.{Stepped, step_of, ram_after}
use Rattle.cpu.specs.declared.{Core.Core, call.Call.Call, call.Reply.Reply, check.Check.Check}
use Rattle.cpu.specs.declared.call.Reply.TheVariants.{Refused}
use Rattle.history.specs.Calls.{Bridge, EveryCallFaithful, RepliesByAnswers, SameReplies, InvisibleCalls, run}
use Rattle.history.specs.Faithful.{Faithful, MadeFromAnswers, EveryReplyFaithful}
use Rattle.history.specs.Instance.{real}
use Rattle.history.specs.ModelList.{EveryListModelled}
use Rattle.history.specs.SeenFrom.{Part, makes, part_of, if_made}
use Rattle.history.specs.Window.{Ram, window_of}
use Rattle.history.proofs.EveryCall.{every_call_faithful}
use Rattle.history.proofs.EveryReply.{same-replies, invisible-calls}
use Rattle.history.proofs.Faithful.{every-reply-faithful, every-list-modelled}
use Rattle.history.proofs.Instance.{real-laws, fresh-asid}
use Rattle.history.proofs.SeenFrom.{seen-bridge, seen-replies, seen-made}
use Rattle.transparency.specs.Instance.{replies}
use Rattle.transparency.specs.Machine.{machine}
use Rattle.transparency.specs.Replies.{outcome, outcome_of}
use Rattle.transparency.specs.Says.{says_in}
use Rattle.transparency.proofs.Alone.{alone-same}
use Rattle.transparency.proofs.Answered.{reply-is}
use Rattle.transparency.proofs.Bridge.{bridge}
use Rattle.cluster.specs.Cluster.{core_in, four_reply, four_ram}
use Rattle.cluster.specs.Faithful.{FaithfulFour}
use Rattle.cluster.specs.Machines.{sharing, core_machine, core_replies, core_says, fresh_cores, fresh_bares, numbered, lents}
use Rattle.cluster.proofs.Refused.{at-default, below}
use Rattle.cluster.proofs.Runs.{same-after}

module _ (k : ℕ) where
  pub core-bridge : Bridge real (core_machine k)
  core-bridge = seen-bridge real machine sharing k bridge

  pub same-answers : RepliesByAnswers real (core_machine k) (core_replies k)
  same-answers = seen-replies real machine sharing k replies alone-same

  made-so : MadeFromAnswers real (core_machine k) (core_replies k) (core_says k)
  made-so = seen-made real machine sharing k replies says_in reply-is

  pub every-translation : EveryCallFaithful real (core_machine k) fresh_cores
  unfolding fresh_core
  every-translation = every_call_faithful real (core_machine k) core-bridge real-laws fresh_cores refl fresh-asid (omega arith)

  pub every-reply : SameReplies real (core_machine k) (core_replies k) fresh_cores
  unfolding fresh_core
  every-reply = same-replies real (core_machine k) core-bridge real-laws fresh_cores refl fresh-asid (omega arith) (core_replies k) same-answers

  pub invisible-lists : InvisibleCalls real (core_machine k) (core_replies k) fresh_cores
  unfolding fresh_core
  invisible-lists =
      invisible-calls real (core_machine k) core-bridge real-laws fresh_cores refl fresh-asid (omega arith) (core_replies k) same-answers

  pub every-outcome : EveryReplyFaithful real (core_machine k) fresh_cores fresh_bares (core_replies k) (core_says k)
  unfolding fresh_core
  every-outcome =
      every-reply-faithful real (core_machine k) core-bridge real-laws fresh_cores refl fresh-asid (omega arith) (core_replies k) (core_says k)
      same-answers made-so

  pub every-model : EveryListModelled real (core_machine k) fresh_cores fresh_bares
  unfolding fresh_core
  every-model = every-list-modelled real (core_machine k) core-bridge real-laws fresh_cores refl fresh-asid (omega arith)

-- THE PROMISE of a call

own-part : (n : ℕ) → n ≤ 3 → part_of n n ≡ makes
own-part n h = grind arith

low-test : (n : ℕ) → n ≤ 3 → nat_lt 3 n ≡ false
low-test n h = grind arith

pub faithful_four : (cs : List Core) (n base : ℕ) (bytes : List ℕ) (x : Call) (r : Reply) (after : List ℕ)
    → r ≡ four_reply cs n base bytes x → after ≡ four_ram cs n base bytes x → FaithfulFour cs n base bytes x r after
unfolding FaithfulFour
faithful_four cs n base bytes x r after er ea h list ec =
    let m : Ram = window_of base bytes in
    let c : run real (core_machine n) fresh_cores (lents n list) n ≡ core_in cs n =
    ap (λ (f : ℕ → Core). f n) (sym (same-after n list)) ∙ ap (λ ds. core_in ds n) (sym ec) in
    let one : outcome r after ≡ outcome_of (core_in cs n) m x =
    ap₂ outcome
    (er ∙ ap (λ t. if t then Refused 8 else (step_of (core_in cs n) base bytes x).reply) (low-test n h))
    (ea ∙ ap (λ t. if t then bytes else ram_after (core_in cs n) base bytes x) (low-test n h)) in
    let said : if_made real machine sharing n (part_of n n) (outcome_of (run real (core_machine n) fresh_cores (lents n list) n) m x) ≡ Some (outcome r after) =
    ap₂ (λ (p : Part) (d : Core). if_made real machine sharing n p (outcome_of d m x)) (own-part n h) c ∙ ap Some (sym one) in
    subst (Faithful real (core_machine n) fresh_cores fresh_bares (core_replies n) (core_says n) (lents n list) m (numbered n x)) said
    (every-outcome n (lents n list) m (numbered n x))

-- of the core in the place i that the number names
pub faithful-made : (cs : List Core) (n : ℕ) (q : Result ℕ Check) (i : ℕ) (z : Core) (base : ℕ) (bytes : List ℕ) (x : Call) (d : Core) (r : Reply)
    (after : List ℕ) → length cs ≡ 4 → q ≡ core_of n → q ≡ Ok i → record { core = d; reply = r } ≡ step_of (slice_index_or cs i z) base bytes x
    → after ≡ ram_after (slice_index_or cs i z) base bytes x → FaithfulFour cs n base bytes x r after
faithful-made cs n q i z base bytes x d r after l a b e ea =
    let (low, s, h) = below n q i a b in
    let c : slice_index_or cs i z ≡ core_in cs n = at-default cs i z l (rw s h) ∙ ap (core_in cs) s in
    faithful_four cs n base bytes x r after
    (ap (λ (p : Stepped). p.reply) e
    ∙ ap (λ (k : Core). (step_of k base bytes x).reply) c
    ∙ ap (λ t. if t then Refused 8 else (step_of (core_in cs n) base bytes x).reply) (sym low))
    (ea
    ∙ ap (λ (k : Core). ram_after k base bytes x) c
    ∙ ap (λ t. if t then bytes else ram_after (core_in cs n) base bytes x) (sym low))
