-- Faithfulness as a promise of one call, of any machine: what its contract says of the reply, whatever list of calls
-- left the core.
use Rattle.std.specs.Prelude.{◌≡◌, List, ◌∷◌, ◌++◌}
use Rattle.tlb.specs.Asks.{Given}
use Rattle.tlb.specs.Live.{Each}
use Rattle.history.specs.World.{World, Plain}
use Rattle.history.specs.History.{Step, Event, steps, after_event, plain_run, tlb_event, tlb_run, answers}
use Rattle.history.specs.Invisible.{Tidy, answers_run}
use Rattle.history.specs.Calls.{Machine, Lent, Fed, run, lent_of, bare_run, events_run, Shown, shown, plain_of, events_of, FaithfulIn, Replies}

-- what a call replies, made from the state without a cache, RAM at its steps and the answers to its translations
abbrev pub Says : (w : World) (M : Machine w) → Replies w M → Type 0
Says w M A = M.Bare → w.Ram → List w.Ram → M.Call → List Given → A.Reply

-- After a list of calls from the core c₀; b₀ is its state without a cache.
module _ (w : World) (M : Machine w) (c₀ : M.Core) (b₀ : M.Bare) where
  -- the list, each call with RAM at its steps as the run shows it
  abbrev pub fed_by : List (Lent w M) → List (Fed w M)
  fed_by list = shown w M c₀ list

  -- its steps
  abbrev pub events_by : List (Lent w M) → List (Event w)
  events_by list = events_run w M b₀ (fed_by list)

  -- what a translation reads after it, besides RAM and the cache
  abbrev pub plain_by : List (Lent w M) → Plain w
  plain_by list = M.plain (bare_run w M b₀ list)

  -- the steps of a call after the list
  abbrev pub events_after : List (Lent w M) → w.Ram → M.Call → List (Event w)
  events_after list m x = M.events (bare_run w M b₀ list) m (M.later (run w M c₀ list) m x) x

  -- the answers to all its translations
  abbrev pub answers_after : List (Lent w M) → w.Ram → M.Call → List Given
  answers_after list m x = answers_run w (plain_by list) (events_after list m x) (M.tlb (run w M c₀ list))

  -- those of one of its steps, on the RAM m at its start, after the steps before it
  abbrev pub answers_at : List (Lent w M) → List (Event w) → w.Ram → Step w → List Given
  answers_at list before m s =
      answers w (plain_run w (plain_by list) before) m s.asks (tlb_run w (plain_by list) before (M.tlb (run w M c₀ list)))

  -- those of the steps before it, and of those after it
  abbrev pub answers_before : List (Lent w M) → List (Event w) → List Given
  answers_before list before = answers_run w (plain_by list) before (M.tlb (run w M c₀ list))

  abbrev pub answers_from : List (Lent w M) → List (Event w) → w.Ram → Step w → List (Event w) → List Given
  answers_from list before m s later =
      answers_run w (after_event w (steps m s) (plain_run w (plain_by list) before)) later
      (tlb_event w (steps m s) (plain_run w (plain_by list) before)
      (tlb_run w (plain_by list) before (M.tlb (run w M c₀ list))))

  -- A call x on the RAM m, after the list; o is its reply.
  --   answered   the reply is made from the answers to the call's translations
  --   parts      these are the answers of its steps, one after the other: of those before a step, its own, of those after it
  --   faithful   each answer, at each step, whose page meets the premise is that of the core without a cache
  --   same       where all pages do, so is the reply
  pub record Faithful (A : Replies w M) (says : Says w M A) (list : List (Lent w M)) (m : w.Ram) (x : M.Call)
      (o : A.Reply) : Type 0 where
    pub answered : o ≡ says (bare_run w M b₀ list) m (M.later (run w M c₀ list) m x) x (answers_after list m x)
    pub parts : (before : List (Event w)) (m' : w.Ram) (s : Step w) (later : List (Event w))
        → events_after list m x ≡ before ++ steps m' s ∷ later
        → answers_after list m x
        ≡ answers_before list before ++ (answers_at list before m' s ++ answers_from list before m' s later)
    pub faithful : (before : List (Event w)) (m' : w.Ram) (s : Step w) (later : List (Event w))
        → events_after list m x ≡ before ++ steps m' s ∷ later
        → Each (FaithfulIn w M b₀ (fed_by list) before m') (answers_at list before m' s)
    pub same : Tidy w (M.plain b₀) (events_by list) (events_after list m x)
        → o ≡ A.bare_reply (bare_run w M b₀ list) m x

-- WHAT IS TO BE SHOWN of replies: each is made so.
abbrev pub MadeFromAnswers : (w : World) (M : Machine w) (A : Replies w M) → Says w M A → Type 0
MadeFromAnswers w M A says =
    (c : M.Core) (m : w.Ram) (x : M.Call)
    → A.reply c m x
    ≡ says (M.bare c) m (M.later c m x) x (answers_run w (plain_of w M c) (events_of w M c m x) (M.tlb c))

-- WHAT IS PROVED: each list is shown by its run, so fed it is the list; and what a call replies is faithful.
abbrev pub ListShown : (w : World) (M : Machine w) (c₀ : M.Core) → List (Lent w M) → Type 0
ListShown w M c₀ list = Shown w M c₀ (shown w M c₀ list) × (lent_of w M (shown w M c₀ list) ≡ list)

abbrev pub EveryReplyFaithful : (w : World) (M : Machine w) (c₀ : M.Core) (b₀ : M.Bare) (A : Replies w M)
    → Says w M A → Type 0
EveryReplyFaithful w M c₀ b₀ A says =
    (list : List (Lent w M)) (m : w.Ram) (x : M.Call)
    → Faithful w M c₀ b₀ A says list m x (A.reply (run w M c₀ list) m x)
