-- Faithfulness as a promise of one call, proved from a bridge.
use Rattle.std.proofs.Common.{arith, sym, ap, subst, ◌∙◌}
use Rattle.std.specs.Prelude.{◌≡◌, List, ◌∷◌, ◌++◌, ◌≤◌}
use Rattle.tlb.specs.Live.{Each}
use Rattle.tlb.specs.Tlb.{fresh}
use Rattle.tlb.specs.declared.Tlb.{Tlb}
use Rattle.history.specs.World.{World, Laws}
use Rattle.history.specs.History.{Step, Event, steps, plain_run, tlb_run}
use Rattle.history.specs.Invisible.{Tidy, answers_run}
use Rattle.history.specs.Calls.{Machine, Lent, Fed, run, lent_of, bare_run, events_fed, showing, plain_of, Bridge, FaithfulIn, Replies}
use Rattle.history.specs.Calls.{RepliesByAnswers}
use Rattle.history.specs.ModelRun.{StandsFor}
use Rattle.history.proofs.Lists.{answers-split}
use Rattle.history.proofs.ModelLaws.{run-stands, fresh-stands}
use Rattle.history.proofs.EveryCall.{shown-lent, shown-shown, run-bare, run-plain, run-tlb, every_call_faithful}
use Rattle.history.proofs.EveryReply.{same-replies}
use Rattle.history.specs.Faithful.{Says, fed_by, events_by, plain_by, events_after, answers_after, answers_at, answers_before, answers_from}
use Rattle.history.specs.Faithful.{MadeFromAnswers, ListShown, EveryReplyFaithful}
use Rattle.history.specs.ModelList.{model_by, EveryListModelled}

pub list-shown : (w : World) (M : Machine w) (c₀ : M.Core) (list : List (Lent w M)) → ListShown w M c₀ list
list-shown w M c₀ list = (shown-shown w M c₀ list, shown-lent w M c₀ list)

module _ (w : World) (M : Machine w) (B : Bridge w M) (c₀ : M.Core) (list : List (Lent w M)) where
  abbrev b₀ : M.Bare
  b₀ = M.bare c₀

  -- the list, as its run shows it, is the list
  lents : lent_of w M (fed_by w M c₀ b₀ list) ≡ list
  lents = shown-lent w M c₀ list

  -- what translations read after the list, and the cache, are what its steps leave
  pub plain-by : plain_of w M (run w M c₀ list) ≡ plain_run w (M.plain b₀) (events_by w M c₀ b₀ list)
  plain-by =
      subst (λ (l : List (Lent w M)). plain_of w M (run w M c₀ l) ≡ plain_run w (M.plain b₀) (events_by w M c₀ b₀ list)) lents
      (run-plain w M B c₀ (fed_by w M c₀ b₀ list) (shown-shown w M c₀ list))

  pub tlb-by : M.tlb (run w M c₀ list) ≡ tlb_run w (M.plain b₀) (events_by w M c₀ b₀ list) (M.tlb c₀)
  tlb-by =
      subst (λ (l : List (Lent w M)). M.tlb (run w M c₀ l) ≡ tlb_run w (M.plain b₀) (events_by w M c₀ b₀ list) (M.tlb c₀)) lents
      (run-tlb w M B c₀ (fed_by w M c₀ b₀ list) (shown-shown w M c₀ list))

  -- a call after the list
  module _ (m : w.Ram) (x : M.Call) where
    abbrev fed : Fed w M
    fed = showing w M (run w M c₀ list) (record { ram = m; call = x })

    fed-shown : fed.later ≡ M.later (run w M c₀ (lent_of w M (fed_by w M c₀ b₀ list))) m x
    fed-shown = ap (λ (l : List (Lent w M)). M.later (run w M c₀ l) m x) (sym lents)

    fed-events : events_fed w M (bare_run w M b₀ (lent_of w M (fed_by w M c₀ b₀ list))) fed ≡ events_after w M c₀ b₀ list m x
    fed-events = ap (λ (l : List (Lent w M)). events_fed w M (bare_run w M b₀ l) fed) lents

    pub said : (A : Replies w M) (says : Says w M A) → MadeFromAnswers w M A says
        → A.reply (run w M c₀ list) m x ≡ says (bare_run w M b₀ list) m (M.later (run w M c₀ list) m x) x (answers_after w M c₀ b₀ list m x)
    said A says made = grind (arith, run-bare, made)

    pub parts : (before : List (Event w)) (m' : w.Ram) (s : Step w) (later : List (Event w))
        → events_after w M c₀ b₀ list m x ≡ before ++ steps m' s ∷ later
        → answers_after w M c₀ b₀ list m x
        ≡ answers_before w M c₀ b₀ list before ++ (answers_at w M c₀ b₀ list before m' s ++ answers_from w M c₀ b₀ list before m' s later)
    parts before m' s later e =
        ap (λ (es : List (Event w)). answers_run w (plain_by w M c₀ b₀ list) es (M.tlb (run w M c₀ list))) e
        ∙ answers-split w (plain_by w M c₀ b₀ list) before m' s later (M.tlb (run w M c₀ list))

-- from a fresh core
module _ (w : World) (M : Machine w) (B : Bridge w M) (laws : Laws w) (c₀ : M.Core) (new : M.tlb c₀ ≡ fresh)
    (zero-asid : w.asid (plain_of w M c₀).regs ≡ 0) (low : (plain_of w M c₀).privilege.level ≤ 3) where
  module _ (list : List (Lent w M)) (m : w.Ram) (x : M.Call) where
    fed-answers : (before : List (Event w)) (m' : w.Ram) (s : Step w) (later : List (Event w))
        → events_after w M c₀ (M.bare c₀) list m x ≡ before ++ steps m' s ∷ later
        → Each (FaithfulIn w M (M.bare c₀) (fed_by w M c₀ (M.bare c₀) list) before m') (answers_at w M c₀ (M.bare c₀) list before m' s)
    fed-answers before m' s later e =
        subst
        (λ (l : List (Lent w M)).
        Each (FaithfulIn w M (M.bare c₀) (fed_by w M c₀ (M.bare c₀) list) before m') (answers_at w M c₀ (M.bare c₀) l before m' s))
        (lents w M B c₀ list)
        (every_call_faithful w M B laws c₀ new zero-asid low (fed_by w M c₀ (M.bare c₀) list) (shown-shown w M c₀ list) (fed w M B c₀ list m x)
        (fed-shown w M B c₀ list m x) before m' s later (fed-events w M B c₀ list m x ∙ e))

    fed-same : (A : Replies w M) → RepliesByAnswers w M A
        → Tidy w (plain_of w M c₀) (events_by w M c₀ (M.bare c₀) list) (events_after w M c₀ (M.bare c₀) list m x)
        → A.reply (run w M c₀ list) m x ≡ A.bare_reply (bare_run w M (M.bare c₀) list) m x
    fed-same A by tidy =
        subst (λ (l : List (Lent w M)). A.reply (run w M c₀ l) m x ≡ A.bare_reply (bare_run w M (M.bare c₀) l) m x) (lents w M B c₀ list)
        (same-replies w M B laws c₀ new zero-asid low A by (fed_by w M c₀ (M.bare c₀) list) (shown-shown w M c₀ list) (fed w M B c₀ list m x)
        (fed-shown w M B c₀ list m x)
        (subst (Tidy w (plain_of w M c₀) (events_by w M c₀ (M.bare c₀) list)) (sym (fed-events w M B c₀ list m x)) tidy))

  pub every-reply-faithful : (A : Replies w M) (says : Says w M A) → RepliesByAnswers w M A → MadeFromAnswers w M A says
      → EveryReplyFaithful w M c₀ (M.bare c₀) A says
  every-reply-faithful A says by made list m x =
      record {
        answered = said w M B c₀ list m x A says made;
        parts = parts w M B c₀ list m x;
        faithful = fed-answers list m x;
        same = fed-same list m x A by;
      }

  -- the cache stands for the plain model
  pub every-list-modelled : EveryListModelled w M c₀ (M.bare c₀)
  every-list-modelled list =
      subst (λ (t : Tlb). StandsFor t (model_by w M c₀ (M.bare c₀) list))
      (sym (tlb-by w M B c₀ list ∙ ap (tlb_run w (plain_of w M c₀) (events_by w M c₀ (M.bare c₀) list)) new))
      (run-stands w laws (events_by w M c₀ (M.bare c₀) list) (plain_of w M c₀) low (fresh-stands w laws))
