-- Calls grow a list from four fresh cores.
use Rattle.std.specs.Prelude.{if◌then◌else◌, ◌≡◌, refl, ℕ, Bool, true, false, List, [], ◌∷◌, ◌++◌, nat_lt, length, slice_set, Option}
use Rattle.std.proofs.Common.{sym, ap, ◌∙◌}
use Rattle.tlb.specs.declared.Inval.{Inval}
use Rattle.cpu.specs.declared.{Core.Core, call.Call.Call}
use Rattle.history.specs.Window.{window_of}
use Rattle.cluster.specs.Cluster.{core_in, delivered_by, delivered_of, four_after, Turn, cluster_after}
use Rattle.cluster.proofs.EveryCore.{one-longer}
use Rattle.cluster.proofs.Refused.{set-same}
use Rattle.cluster.proofs.Runs.{low-four, quiet-after}
use Rattle.call_words.specs.declared.op.DecodedCall.{DecodedCall}
use Rattle.call_words.specs.declared.op.DecodedCall.TheVariants.{Known, Unknown}
use Rattle.cluster_calls.specs.Four.{is_refusal, if_core, delivered_after, cores_on, cores_stepped}
use Rattle.cluster_calls.specs.Made.{added, fresh, called, set, stepped, counted, found, flipped, made_is_after}
use Rattle.cluster_calls.proofs.Meaning.{cores-step}

long : (cs : List Core) (list : List Turn) → cs ≡ cluster_after list → length cs ≡ 4
long cs list e = ap length e ∙ (quiet-after list).long

nil-right : (l : List Turn) → l ++ [] ≡ l
nil-right [] = refl
nil-right (t ∷ l) = ap (λ (k : List Turn). t ∷ k) (nil-right l)

module _ (n base : ℕ) (ram : List ℕ) (cs ds : List Core) (list : List Turn) (e : cs ≡ cluster_after list) where
  known : (x : Call) → ds ≡ four_after cs n base ram x → ds ≡ cluster_after (list ++ added (Known x) n base ram)
  known x m =
      m ∙ ap (λ (ks : List Core). four_after ks n base ram x) e
      ∙ sym (one-longer list (record { number = n; ram = window_of base ram; call = x }))

  unknown : ds ≡ cs → ds ≡ cluster_after (list ++ added Unknown n base ram)
  unknown m = m ∙ e ∙ ap cluster_after (sym (nil-right list))

  unnamed-same : cores_on Unknown cs n base ram ≡ cs
  unnamed-same = go (nat_lt 3 n) refl
    where
      go : (b : Bool) → nat_lt 3 n ≡ b → (if b then cs else slice_set cs n (core_in cs n)) ≡ cs
      go true f = refl
      go false f = set-same cs n (long cs list e) (low-four n f)

  grown : (call : DecodedCall) → ds ≡ cores_on call cs n base ram → ds ≡ cluster_after (list ++ added call n base ram)
  grown (Known x) m = known x (m ∙ cores-step cs n base ram x (long cs list e))
  grown Unknown m = unknown (m ∙ unnamed-same)

  step-grown : (call : DecodedCall) → ds ≡ cores_stepped call cs n base ram → ds ≡ cluster_after (list ++ added call n base ram)
  step-grown (Known x) m = known x m
  step-grown Unknown m = unknown m

-- with nothing pending nothing is delivered
none-delivered : (list : List Turn) (n k : ℕ) → if_core n (delivered_after k (cluster_after list) n) (cluster_after list) ≡ cluster_after list
none-delivered list n k = go (nat_lt 3 n) (is_refusal k)
  where
    given : (t : Bool) → (if t then cluster_after list else delivered_by (core_in (cluster_after list) n).tlb.broadcast (cluster_after list) n) ≡ cluster_after list
    given true = refl
    given false = ap (λ (v : Option Inval). delivered_by v (cluster_after list) n) ((quiet-after list).quiet n)

    go : (t r : Bool) → (if t then cluster_after list else if r then cluster_after list else delivered_of (cluster_after list) n) ≡ cluster_after list
    go true r = refl
    go false true = refl
    go false false = given (nat_lt 3 n)

stays : (n k : ℕ) (cs ds : List Core) (list : List Turn) → cs ≡ cluster_after list → ds ≡ if_core n (delivered_after k cs n) cs → ds ≡ cluster_after list
stays n k cs ds list e m = m ∙ ap (λ (ks : List Core). if_core n (delivered_after k ks n) ks) e ∙ none-delivered list n k

pub made-is-after : made_is_after
made-is-after _ _ (fresh cs e) = e
made-is-after _ _ (called call base ram cs n k old new ys ds list m p) = grown n base ram cs ds list (made-is-after cs list m) call p.cores
made-is-after _ _ (set call base ram cs n k ds list m p) = grown n base ram cs ds list (made-is-after cs list m) call (p.on base ram 0).cores
made-is-after _ _ (stepped call base ram cs n k old v ys ds list m p) = step-grown n base ram cs ds list (made-is-after cs list m) call p.cores
made-is-after _ _ (counted first pages base ram cs n k old counts ds list m p) = stays n k cs ds list (made-is-after cs list m) p.cores
made-is-after _ _ (found bytes base ram cs n k old words ds list m p) = stays n k cs ds list (made-is-after cs list m) p.cores
made-is-after _ _ (flipped va kind user base ram cs n k old words ys ds list m p) = stays n k cs ds list (made-is-after cs list m) p.cores
