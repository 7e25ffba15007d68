-- A call that is refused leaves all four cores.
use Rattle.std.specs.Prelude.{◌≡◌, ℕ, zero, suc, ◌<◌, Bool, true, false, List, [], ◌∷◌, nat_lt, Result, Ok, length, slice_index_or, slice_set}
use Rattle.std.proofs.Common.{refl, sym, ap, ◌∙◌, arith}
use Rattle.cpu.specs.declared.{Core.Core, call.Call.Call, call.Reply.Reply, check.Check.Check}
use Rattle.cpu.specs.Says.{undefined, unimplemented}
use Rattle.cpu.specs.EveryCallEnds.{Outcome, number, says, outcome_of, Ran}
use Rattle.cpu.specs.Check.{refuses, core_of}
use Rattle.cpu.specs.Step.{Stepped, step_of, ram_after}
use Rattle.cpu.proofs.EveryCallEnds.{each_call_ends}
use Rattle.cluster.specs.Cluster.{core_in, four_after}

abbrev refuses_by : Outcome → Bool
refuses_by (number n) = true
refuses_by (says undefined) = true
refuses_by (says unimplemented) = true
refuses_by (says s) = false

refuses-is : (r : Reply) → refuses r ≡ true → refuses_by (outcome_of r) ≡ true
refuses-is r t = grind arith

module _ (c : Core) (ram : List ℕ) where
  ran-same : (d : Core) (after : List ℕ) (o : Outcome) → Ran c ram d after o → refuses_by o ≡ true → (d ≡ c) × (after ≡ ram)
  ran-same d after o h t = grind arith

pub refused-same : (c : Core) (base : ℕ) (ram : List ℕ) (x : Call) → refuses (step_of c base ram x).reply ≡ true
    → ((step_of c base ram x).core ≡ c) × (ram_after c base ram x ≡ ram)
refused-same c base ram x t =
    let e = each_call_ends c base ram x in
    let u = refuses-is (step_of c base ram x).reply t in
    grind (arith, ran-same)

pub set-same : (cs : List Core) (i : ℕ) → length cs ≡ 4 → i < 4 → slice_set cs i (core_in cs i) ≡ cs
set-same (a ∷ b ∷ c ∷ d ∷ []) zero l h = refl
set-same (a ∷ b ∷ c ∷ d ∷ []) (suc zero) l h = refl
set-same (a ∷ b ∷ c ∷ d ∷ []) (suc (suc zero)) l h = refl
set-same (a ∷ b ∷ c ∷ d ∷ []) (suc (suc (suc zero))) l h = refl
set-same cs i l h = absurd (omega arith)

pub set-refused : (cs : List Core) (i base : ℕ) (ram : List ℕ) (x : Call) → length cs ≡ 4 → i < 4
    → refuses (step_of (core_in cs i) base ram x).reply ≡ true → slice_set cs i (step_of (core_in cs i) base ram x).core ≡ cs
set-refused cs i base ram x l h t =
    ap (slice_set cs i) (refused-same (core_in cs i) base ram x t).0 ∙ set-same cs i l h

pub below : (n : ℕ) (q : Result ℕ Check) (i : ℕ) → q ≡ core_of n → q ≡ Ok i → (nat_lt 3 n ≡ false) × (i ≡ n) × (n < 4)
below n q i a b = grind arith

-- a core that is there, whatever stands for one that is not
pub at-default : (cs : List Core) (i : ℕ) (z : Core) → length cs ≡ 4 → i < 4 → slice_index_or cs i z ≡ core_in cs i
at-default (a ∷ b ∷ c ∷ d ∷ []) zero z l h = refl
at-default (a ∷ b ∷ c ∷ d ∷ []) (suc zero) z l h = refl
at-default (a ∷ b ∷ c ∷ d ∷ []) (suc (suc zero)) z l h = refl
at-default (a ∷ b ∷ c ∷ d ∷ []) (suc (suc (suc zero))) z l h = refl
at-default cs i z l h = absurd (omega arith)

pub kept-four : (cs : List Core) (n : ℕ) (q : Result ℕ Check) (i : ℕ) (z : Core) (base : ℕ) (ram : List ℕ) (x : Call) (d : Core) (r : Reply)
    → length cs ≡ 4 → q ≡ core_of n → q ≡ Ok i → record { core = d; reply = r } ≡ step_of (slice_index_or cs i z) base ram x → refuses r ≡ true
    → slice_set cs i d ≡ four_after cs n base ram x
kept-four cs n q i z base ram x d r l a b e t =
    let (h, s, m) = below n q i a b in
    let m : i < 4 = rw s m in
    let e : record { core = d; reply = r } ≡ step_of (core_in cs i) base ram x = e ∙ ap (λ (c : Core). step_of c base ram x) (at-default cs i z l m) in
    let t : refuses (step_of (core_in cs i) base ram x).reply ≡ true = ap (λ (p : Stepped). refuses p.reply) (sym e) ∙ t in
    let k : slice_set cs i d ≡ cs = ap (λ (p : Stepped). slice_set cs i p.core) e ∙ set-refused cs i base ram x l m t in
    grind arith
