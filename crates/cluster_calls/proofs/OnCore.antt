-- How a call on one of four cores keeps its promise: by that of the call on the core alone.
use Rattle.std.specs.Prelude.{if◌then◌else◌, ◌≡◌, refl, ℕ, zero, suc, ◌<◌, ◌≤◌, Bool, true, false, List, [], ◌∷◌, nat_lt, Option, None, Result, Ok, Err, length, slice_index_or, slice_set}
use Rattle.std.proofs.Common.{sym, ap, ◌∙◌, arith, subst}
use Rattle.cpu.specs.Check.{core_of, number_of}
use Rattle.cpu.specs.Step.{step_of}
use Rattle.cpu.specs.declared.{Core.Core, call.Call.Call, check.Check.Check}
use Rattle.cpu.specs.declared.call.Reply.TheVariants.{Refused}
use Rattle.tlb.specs.declared.Inval.{Inval}
use Rattle.cluster.specs.Cluster.{core_in, delivered_by, delivered_of, Turn}
use Rattle.cluster.specs.Faithful.{FaithfulFour}
use Rattle.cluster.proofs.Faithful.{faithful_four}
use Rattle.call_words.specs.declared.reply.Report.{Report}
use Rattle.call_words.specs.declared.op.DecodedCall.{DecodedCall}
use Rattle.call_words.specs.declared.op.DecodedCall.TheVariants.{Known, Unknown}
use Rattle.core_calls.specs.Named.{call_number, call_value, call_ram}
use Rattle.quick.specs.Says.{unread}
use Rattle.core_calls.specs.Promise.{Promise, Setting}
use Rattle.cluster_calls.specs.Four.{is_refusal, is_quiet, delivered_after, if_core}
use Rattle.cluster_calls.specs.Promise.{ClusterPromise, ClusterSetting, FaithfulNumber, AfterEveryTurns}
use Rattle.cluster.proofs.Refused.{below, at-default, set-same}
use Rattle.cluster_calls.proofs.Quiet.{Quiet}

-- THE NUMBER OF A CORE

-- none of the four
pub above : (n : ℕ) (q : Result ℕ Check) (e : Check) → q ≡ core_of n → q ≡ Err e → (nat_lt 3 n ≡ true) × (number_of e ≡ 8)
above n q e a b = grind arith

-- what a refused call leaves pending stays there
pub refused-stays : (k : ℕ) (cs : List Core) (i : ℕ) → 0 < k → k < 256 → delivered_after k cs i ≡ cs
refused-stays k cs i low high = rw (lt k low high) refl
  where
    lt : (k : ℕ) → 0 < k → k < 256 → is_refusal k ≡ true
    lt k low high = grind arith

-- one of the four: the first of two things, else the second
pub of-four : {A : Type 0} (n : ℕ) (some none : A) → nat_lt 3 n ≡ false → some ≡ if_core n some none
of-four n some none f = rw f refl

pub of-none : {A : Type 0} (n : ℕ) (some none : A) → nat_lt 3 n ≡ true → none ≡ if_core n some none
of-none n some none t = rw t refl

-- FAITHFULNESS

module _ (base : ℕ) (ram : List ℕ) (cs : List Core) (n k old v : ℕ) (ys : List ℕ) where
  faithful-on : (call : DecodedCall) → nat_lt 3 n ≡ false → k ≡ call_number call (core_in cs n) base ram
      → v ≡ call_value call (core_in cs n) base ram old → ys ≡ call_ram call (core_in cs n) base ram
      → AfterEveryTurns call n (λ list x. FaithfulNumber list n base ram x k old v ys) cs
  unfolding FaithfulFour
  faithful-on (Known x) f ek ev ey = λ low list made.
      record {
        reply = (step_of (core_in cs n) base ram x).reply;
        number_is = ek;
        value_is = ev;
        faithful =
            faithful_four cs n base ram x (step_of (core_in cs n) base ram x).reply ys (of-four n _ (Refused 8) f) (ey ∙ of-four n _ ram f) low list made;
      }
  faithful-on Unknown f ek ev ey = tt

no-core : (n : ℕ) → nat_lt 3 n ≡ true → n ≤ 3 → ⊥
no-core n t h = grind arith

pub not-asked : (call : DecodedCall) (n : ℕ) (promise : List Turn → Call → Type 0) (cs : List Core) → nat_lt 3 n ≡ true → AfterEveryTurns call n promise cs
not-asked (Known x) n promise cs t = λ low list made. absurd (no-core n t low)
not-asked Unknown n promise cs t = tt

-- THE LAW

module _ (call : DecodedCall) (base : ℕ) (ram : List ℕ) (cs : List Core) (n : ℕ) where
  kept : (k : ℕ) (d : Core) (ds : List Core) → length cs ≡ 4 → n < 4 → d ≡ core_in cs n → ds ≡ delivered_after k (slice_set cs n d) n
      → 0 < k → k < 256 → ds ≡ cs
  kept k d ds l m e es low high =
      es ∙ refused-stays k (slice_set cs n d) n low high ∙ ap (slice_set cs n) e ∙ set-same cs n l m

  on-core : (k : ℕ) (old new : Report) (ys : List ℕ) (d : Core) (ds : List Core) → length cs ≡ 4 → nat_lt 3 n ≡ false → n < 4
      → Promise call base ram (core_in cs n) k old new ys d → ds ≡ delivered_after k (slice_set cs n d) n
      → ClusterPromise call base ram cs n k old new ys ds
  on-core k old new ys d ds l f m p es =
      record {
        code = p.code ∙ of-four n _ 8 f;
        value = p.value ∙ of-four n _ old.value f;
        reads = p.reads ∙ of-four n _ old.reads f;
        bytes = p.bytes ∙ of-four n _ ram f;
        cores = es ∙ (λ j. delivered_after (p.code j) (slice_set cs n (p.core j)) n) ∙ of-four n _ cs f;
        unchanged = λ low high. let (a, b) = p.unchanged low high in (kept k d ds l m a es low high, b);
        faithful = faithful-on base ram cs n k old.value new.value ys call f p.code p.value p.bytes;
      }

  pub off-core : (q : Result ℕ Check) (e : Check) (k : ℕ) (old : Report) → q ≡ core_of n → q ≡ Err e → k ≡ number_of e
      → ClusterPromise call base ram cs n k old old ram cs
  off-core q e k old a b h =
      let (t, s) = above n q e a b in
      record {
        code = h ∙ s ∙ of-none n _ 8 t;
        value = of-none n _ old.value t;
        reads = of-none n _ old.reads t;
        bytes = of-none n _ ram t;
        cores = of-none n _ cs t;
        unchanged = λ low high. (refl, (refl, refl));
        faithful = not-asked call n _ cs t;
      }

  pub by-core : (q : Result ℕ Check) (i : ℕ) (z : Core) (k : ℕ) (old new : Report) (ys : List ℕ) (d : Core) (ds : List Core)
      → length cs ≡ 4 → q ≡ core_of n → q ≡ Ok i → Promise call base ram (slice_index_or cs i z) k old new ys d
      → ds ≡ delivered_after k (slice_set cs i d) i → ClusterPromise call base ram cs n k old new ys ds
  by-core q i z k old new ys d ds l a b p es =
      let (f, s, m) = below n q i a b in
      on-core k old new ys d ds l f m
      (subst (λ (c : Core). Promise call base ram c k old new ys d) (at-default cs i z l (rw s m) ∙ ap (core_in cs) s) p)
      (es ∙ ap (λ (j : ℕ). delivered_after k (slice_set cs j d) j) s)

-- A CALL THAT LEAVES NOTHING PENDING, where nothing was

quiet-four : (cs : List Core) (i : ℕ) (d : Core) → length cs ≡ 4 → i < 4 → d.tlb.broadcast ≡ None → delivered_of (slice_set cs i d) i ≡ slice_set cs i d
quiet-four (a ∷ b ∷ c ∷ e ∷ []) zero d l h q = ap (λ (v : Option Inval). delivered_by v (slice_set (a ∷ b ∷ c ∷ e ∷ []) 0 d) 0) q
quiet-four (a ∷ b ∷ c ∷ e ∷ []) (suc zero) d l h q = ap (λ (v : Option Inval). delivered_by v (slice_set (a ∷ b ∷ c ∷ e ∷ []) 1 d) 1) q
quiet-four (a ∷ b ∷ c ∷ e ∷ []) (suc (suc zero)) d l h q = ap (λ (v : Option Inval). delivered_by v (slice_set (a ∷ b ∷ c ∷ e ∷ []) 2 d) 2) q
quiet-four (a ∷ b ∷ c ∷ e ∷ []) (suc (suc (suc zero))) d l h q = ap (λ (v : Option Inval). delivered_by v (slice_set (a ∷ b ∷ c ∷ e ∷ []) 3 d) 3) q
quiet-four cs i d l h q = absurd (omega arith)

quiet-is : (cs : List Core) (n : ℕ) (b : Bool) → b ≡ is_quiet cs n → b ≡ true → (nat_lt 3 n ≡ false) × (n < 4) × ((core_in cs n).tlb.broadcast ≡ None)
quiet-is cs n b e t = grind arith

quiet-after : (k : ℕ) (cs : List Core) (i : ℕ) → delivered_of cs i ≡ cs → cs ≡ delivered_after k cs i
quiet-after k cs i e = go (is_refusal k)
  where
    go : (r : Bool) → cs ≡ (if r then cs else delivered_of cs i)
    go true = refl
    go false = sym e

module _ (call : DecodedCall) (base : ℕ) (ram : List ℕ) (cs : List Core) (n : ℕ) (z : Core) (l : length cs ≡ 4) (keeps : Quiet call) (b : Bool)
    (is : b ≡ is_quiet cs n) (yes : b ≡ true) where
  pub quiet-core : (k : ℕ) (old new : Report) (ys : List ℕ) (d : Core) → Promise call base ram (slice_index_or cs n z) k old new ys d
      → ClusterPromise call base ram cs n k old new ys (slice_set cs n d)
  quiet-core k old new ys d p =
      let (f, m, none) = quiet-is cs n b is yes in
      let there : slice_index_or cs n z ≡ core_in cs n = at-default cs n z l m in
      let p : Promise call base ram (core_in cs n) k old new ys d = subst (λ (c : Core). Promise call base ram c k old new ys d) there p in
      let left : d.tlb.broadcast ≡ None = ap (λ (x : Core). x.tlb.broadcast) p.core ∙ keeps (core_in cs n) base ram none in
      on-core call base ram cs n k old new ys d (slice_set cs n d) l f m p (quiet-after k (slice_set cs n d) n (quiet-four cs n d l m left))

module _ (call : DecodedCall) (cs : List Core) (n : ℕ) where
  pub set-off : (q : Result ℕ Check) (e : Check) (k : ℕ) → q ≡ core_of n → q ≡ Err e → k ≡ number_of e → ClusterSetting call cs n k cs
  set-off q e k a b h = record { on = λ base ram v. off-core call base ram cs n q e k (unread v) a b h }

  pub set-on : (q : Result ℕ Check) (i : ℕ) (z : Core) (k : ℕ) (d : Core) (ds : List Core)
      → length cs ≡ 4 → q ≡ core_of n → q ≡ Ok i → Setting call (slice_index_or cs i z) k d
      → ds ≡ delivered_after k (slice_set cs i d) i → ClusterSetting call cs n k ds
  set-on q i z k d ds l a b p es =
      record { on = λ base ram v. by-core call base ram cs n q i z k (unread v) (unread v) ram d ds l a b (p.on base ram v) es }
