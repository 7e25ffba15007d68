-- What a call on the core i of the four cores cs promises.
use Rattle.std.specs.Prelude.{◌≡◌, List, ℕ, ◌<◌, ◌≤◌, get_or}
use Rattle.cpu.specs.declared.{Core.Core, call.Call.Call, call.Reply.Reply}
use Rattle.transparency.specs.Replies.{outcome}
use Rattle.cluster.specs.Cluster.{core_in, Turn, cluster_after}
use Rattle.cluster.specs.Faithful.{FaithfulAfter}
use Rattle.call_words.specs.Replies.{code_by, value_by, step_words}
use Rattle.call_words.specs.declared.reply.Report.{Report}
use Rattle.call_words.specs.declared.op.DecodedCall.{DecodedCall}
use Rattle.call_words.specs.declared.op.DecodedCall.TheVariants.{Known, Unknown}
use Rattle.quick.specs.Says.{unread}
use Rattle.core_calls.specs.Named.{call_ram, call_code, call_words}
use Rattle.cluster_calls.specs.Four.{if_core, number_on, value_on, reads_on, ram_on, cores_on, cores_stepped}

-- FAITHFULNESS for the core i, as `FaithfulNumber` and `FaithfulWords` of a single core, after a list of calls on all four

pub record FaithfulNumber (list : List Turn) (i base : ℕ) (ram : List ℕ) (x : Call) (n old v : ℕ) (ys : List ℕ) : Type 0 where
  pub reply : Reply
  pub number_is : n ≡ code_by reply
  pub value_is : v ≡ value_by reply old
  pub faithful : FaithfulAfter list i base ram x (outcome reply ys)

pub record FaithfulWords (list : List Turn) (i base : ℕ) (ram : List ℕ) (x : Call) (v ys : List ℕ) : Type 0 where
  pub reply : Reply
  pub reads : ℕ
  pub words_are : v ≡ step_words reply reads
  pub faithful : FaithfulAfter list i base ram x (outcome reply ys)

-- whatever list of calls left the four cores; nothing is asked of a number above 3, nor of words that name no call
abbrev pub AfterEveryTurns : DecodedCall → ℕ → (List Turn → Call → Type 0) → List Core → Type 0
AfterEveryTurns (Known x) i promise cs = i ≤ 3 → (list : List Turn) → cs ≡ cluster_after list → promise list x
AfterEveryTurns Unknown i promise cs = Unit {0}

-- THE CALLS

-- A call that gives a number n and a report, which was old, and leaves the bytes ys and the cores ds.
--   unchanged   a number from 1 to 255, 8 among them, says that nothing was written
pub record ClusterPromise (call : DecodedCall) (base : ℕ) (ram : List ℕ) (cs : List Core) (i n : ℕ) (old new : Report) (ys : List ℕ) (ds : List Core) : Type 0 where
  pub code : n ≡ number_on call cs i base ram
  pub value : new.value ≡ value_on call cs i base ram old.value
  pub reads : new.reads ≡ reads_on call cs i base ram old.reads
  pub bytes : ys ≡ ram_on call cs i base ram
  pub cores : ds ≡ cores_on call cs i base ram
  pub unchanged : 0 < n → n < 256 → (ds ≡ cs) × ((ys ≡ ram) × (new ≡ old))
  pub faithful : AfterEveryTurns call i (λ list x. FaithfulNumber list i base ram x n old.value new.value ys) cs

-- a call that is handed neither RAM nor a report, whatever RAM stands there
pub record ClusterSetting (call : DecodedCall) (cs : List Core) (i n : ℕ) (ds : List Core) : Type 0 where
  pub on : (base : ℕ) (ram : List ℕ) (v : ℕ) → ClusterPromise call base ram cs i n (unread v) (unread v) ram ds

-- Every call by eight words: 0, and in five its answer and what it read.
--   unnamed     with another number, 8 for the core's or 64 for the words, nothing is written
--   unchanged   where the answer is a refusal, Undefined or Unimplemented (5, 6, 7), nothing of the cores and no byte
pub record ClusterStep (call : DecodedCall) (base : ℕ) (ram : List ℕ) (cs : List Core) (i n : ℕ) (old v ys : List ℕ) (ds : List Core) : Type 0 where
  pub code : n ≡ if_core i (call_code call) 8
  pub answer : v ≡ if_core i (call_words call (core_in cs i) base ram old) old
  pub bytes : ys ≡ if_core i (call_ram call (core_in cs i) base ram) ram
  pub cores : ds ≡ cores_stepped call cs i base ram
  pub unnamed : 0 < n → (ds ≡ cs) × ((ys ≡ ram) × (v ≡ old))
  pub unchanged : n ≡ 0 → 4 < get_or v 0 0 → get_or v 0 0 < 8 → (ds ≡ cs) × (ys ≡ ram)
  pub faithful : AfterEveryTurns call i (λ list x. FaithfulWords list i base ram x v ys) cs
