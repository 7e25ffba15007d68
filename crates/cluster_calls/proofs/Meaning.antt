-- The calls are the cluster's steps; and their rows, computed.
use Rattle.std.specs.Prelude.{if◌then◌else◌, ◌≡◌, refl, ℕ, Bool, true, false, List, nat_lt, length, slice_set}
use Rattle.std.proofs.Common.{arith}
use Rattle.tlb.specs.Tlb.{invalidate_of, flush_of}
use Rattle.tlb.specs.Translate.{no_work}
use Rattle.cpu.specs.Check.{missed_of, refuses}
use Rattle.cpu.specs.Core.{fresh_core}
use Rattle.cpu.specs.System.{set_level}
use Rattle.cpu.specs.Step.{step_of, run_of}
use Rattle.cpu.specs.Work.{step_work}
use Rattle.cpu.specs.declared.{Core.Core, call.Call.Call}
use Rattle.cpu.specs.declared.call.Reply.TheVariants.{Refused}
use Rattle.call_words.specs.Replies.{code_by, value_by, reads_by}
use Rattle.call_words.specs.declared.op.DecodedCall.TheVariants.{Known}
use Rattle.cluster.specs.Cluster.{core_in, delivered_of, four_after, four_reply, four_work}
use Rattle.cluster.proofs.Refused.{set-refused}
use Rattle.cluster.proofs.Runs.{low-four}
use Rattle.cluster_calls.specs.Four.{is_refusal, delivered_after, number_on, value_on, reads_on, cores_on}
use Rattle.cluster_calls.specs.Rows.{ClusterRows}
use Rattle.cluster_calls.specs.Steps.{calls_are_steps}
use Rattle.cluster_calls.proofs.Steps.{step-refuses}

by-number : (cs : List Core) (i : ℕ) (d : Core) (k : ℕ) (r : Bool) → is_refusal k ≡ r → (r ≡ true → slice_set cs i d ≡ cs)
    → delivered_after k (slice_set cs i d) i ≡ (if r then cs else delivered_of (slice_set cs i d) i)
by-number cs i d k true e same = rw e (same refl)
by-number cs i d k false e same = rw e refl

module _ (cs : List Core) (i base : ℕ) (ram : List ℕ) (x : Call) (l : length cs ≡ 4) where
  -- on one of the four
  on-four : nat_lt 3 i ≡ false
      → delivered_after (code_by (step_of (core_in cs i) base ram x).reply) (slice_set cs i (step_of (core_in cs i) base ram x).core) i
      ≡ (if refuses (step_of (core_in cs i) base ram x).reply then cs else delivered_of (slice_set cs i (step_of (core_in cs i) base ram x).core) i)
  on-four f =
      by-number cs i (step_of (core_in cs i) base ram x).core (code_by (step_of (core_in cs i) base ram x).reply)
      (refuses (step_of (core_in cs i) base ram x).reply) (step-refuses (core_in cs i) base ram x) (λ t. set-refused cs i base ram x l (low-four i f) t)

  pub cores-step : cores_on (Known x) cs i base ram ≡ four_after cs i base ram x
  cores-step = go (nat_lt 3 i) refl
    where
      go : (b : Bool) → nat_lt 3 i ≡ b
          → (if b then cs else delivered_after (code_by (step_of (core_in cs i) base ram x).reply) (slice_set cs i (step_of (core_in cs i) base ram x).core) i)
          ≡ (if b then cs else if refuses (step_of (core_in cs i) base ram x).reply then cs
          else delivered_of (slice_set cs i (step_of (core_in cs i) base ram x).core) i)
      go true e = refl
      go false e = on-four e

  number-step : number_on (Known x) cs i base ram ≡ code_by (four_reply cs i base ram x)
  number-step = grind arith

  value-step : (old : ℕ) → value_on (Known x) cs i base ram old ≡ value_by (four_reply cs i base ram x) old
  value-step old = grind arith

  reads-step : (old : ℕ) → reads_on (Known x) cs i base ram old ≡ reads_by (four_reply cs i base ram x) (four_work cs i base ram x no_work).reads old
  reads-step old = go (nat_lt 3 i)
    where
      go : (b : Bool) → (if b then old else reads_by (step_of (core_in cs i) base ram x).reply (step_work (core_in cs i) base ram x no_work).reads old)
          ≡ reads_by (if b then Refused 8 else (step_of (core_in cs i) base ram x).reply)
          (if b then no_work else step_work (core_in cs i) base ram x no_work).reads old
      go true = refl
      go false = refl

pub calls-are-steps : calls_are_steps
calls-are-steps cs i base ram x l = (number-step cs i base ram x l, value-step cs i base ram x l, reads-step cs i base ram x l, refl, cores-step cs i base ram x l)

-- the rows, computed
pub rows : ClusterRows
unfolding step_of run_of missed_of set_level fresh_core invalidate_of flush_of
rows =
    record {
      first = refl;
      second = refl;
      third = refl;
      last = refl;
      none = refl;
      named = refl;
      checked = refl;
      cleared = refl;
      heard = refl;
      refused = refl;
      unheard = refl;
      other = refl;
      numbers = refl;
    }
