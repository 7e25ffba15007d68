-- Faithfulness for lists of calls: what a core is to the theory, and the statement.
use Rattle.std.specs.Prelude.{◌≡◌, List, [], ◌∷◌, ◌++◌}
use Rattle.tlb.specs.Live.{Each}
use Rattle.tlb.specs.Asks.{kind_of, address_of, Given}
use Rattle.tlb.specs.declared.Tlb.{Tlb}
use Rattle.history.specs.World.{World, Plain, regime_now, page_now, uncached}
use Rattle.history.specs.History.{Step, Event, steps, plain_run, answers, tlb_run, Settled}
use Rattle.history.specs.Invisible.{answers_run, plain_answers_run, Tidy}

-- A core by its operations' exact definitions, and the core without a cache beside it.
--   step      what a call makes of the core, with RAM as it stands when the call begins
--   later     RAM as it stands when each further step of the call begins: none for most calls, for a zeroing one for each further store begun
--   Bare      the state without a cache: level, mark, registers kept, general registers
--   bare_step  what the call makes of that state
--   plain     the part of it that a translation reads
--   events    the call's steps, each with its RAM: read from the call, the state without a cache and RAM at each step's start
pub record Machine (w : World) : Type 1 where
  pub Core : Type 0
  pub Bare : Type 0
  pub Call : Type 0
  pub bare : Core → Bare
  pub tlb : Core → Tlb
  pub step : Core → w.Ram → Call → Core
  pub later : Core → w.Ram → Call → List w.Ram
  pub plain : Bare → Plain w
  pub bare_step : Bare → w.Ram → Call → Bare
  pub events : Bare → w.Ram → List w.Ram → Call → List (Event w)

-- a call, with RAM as it stands when the call begins
pub record Lent (w : World) (M : Machine w) : Type 0 where
  pub ram : w.Ram
  pub call : M.Call

-- It is fed each step's call and RAM, and no answers: the call, with RAM as it stands
-- when each of its steps begins
pub record Fed (w : World) (M : Machine w) : Type 0 where
  pub lent : Lent w M
  pub later : List w.Ram

module _ (w : World) (M : Machine w) where
  -- THE CORE, after a list of calls

  abbrev pub run : M.Core → List (Lent w M) → M.Core
  run c [] = c
  run c (x ∷ xs) = run (M.step c x.ram x.call) xs

  abbrev pub lent_of : List (Fed w M) → List (Lent w M)
  lent_of [] = []
  lent_of (x ∷ xs) = x.lent ∷ lent_of xs

  -- THE CORE WITHOUT A CACHE, after the same list

  abbrev pub bare_run : M.Bare → List (Lent w M) → M.Bare
  bare_run b [] = b
  bare_run b (x ∷ xs) = bare_run (M.bare_step b x.ram x.call) xs

  -- THE STEPS of a list that it is fed: read from the state without a cache and RAM at each step alone

  abbrev pub events_fed : M.Bare → Fed w M → List (Event w)
  events_fed b x = M.events b x.lent.ram x.later x.lent.call

  abbrev pub events_run : M.Bare → List (Fed w M) → List (Event w)
  events_run b [] = []
  events_run b (x ∷ xs) = events_fed b x ++ events_run (M.bare_step b x.lent.ram x.lent.call) xs

  -- WHAT TIES THE TWO: RAM at each step is what the run on the core c shows. A call's first step begins on the RAM that
  -- the list gives; while the call runs only the call writes RAM, so further steps begin on what it has written.

  abbrev pub ShownIn : M.Core → Fed w M → Type 0
  ShownIn c x = x.later ≡ M.later c x.lent.ram x.lent.call

  abbrev pub Shown : M.Core → List (Fed w M) → Type 0
  Shown c [] = Unit {0}
  Shown c (x ∷ xs) = ShownIn c x × Shown (M.step c x.lent.ram x.lent.call) xs

  -- and every list of calls is shown so
  abbrev pub showing : M.Core → Lent w M → Fed w M
  showing c x = record { lent = x; later = M.later c x.ram x.call }

  abbrev pub shown : M.Core → List (Lent w M) → List (Fed w M)
  shown c [] = []
  shown c (x ∷ xs) = showing c x ∷ shown (M.step c x.ram x.call) xs

  -- THE BRIDGE

  abbrev pub plain_of : M.Core → Plain w
  plain_of c = M.plain (M.bare c)

  -- the call's steps, as the run shows them
  abbrev pub events_of : M.Core → w.Ram → M.Call → List (Event w)
  events_of c m x = M.events (M.bare c) m (M.later c m x) x

  -- All that is to be shown of the calls: the cache does not reach the rest of the state, and each call does to
  -- registers, level, mark and the whole of the `Tlb`, counters and what is pending included, what its steps do.
  pub record Bridge : Type 0 where
    pub bare-is : (c : M.Core) (m : w.Ram) (x : M.Call) → M.bare (M.step c m x) ≡ M.bare_step (M.bare c) m x
    pub plain-is : (c : M.Core) (m : w.Ram) (x : M.Call)
        → M.plain (M.bare_step (M.bare c) m x) ≡ plain_run w (plain_of c) (events_of c m x)
    pub tlb-is : (c : M.Core) (m : w.Ram) (x : M.Call)
        → M.tlb (M.step c m x) ≡ tlb_run w (plain_of c) (events_of c m x) (M.tlb c)

  -- FAITHFULNESS

  -- the core without a cache, fed the list and the steps before in a call after it
  abbrev pub plain_after : M.Bare → List (Fed w M) → List (Event w) → Plain w
  plain_after b₀ list before = plain_run w (M.plain (bare_run b₀ (lent_of list))) before

  -- The page of an address is settled by the list and the steps before it in its call.
  abbrev pub SettledIn : M.Bare → List (Fed w M) → List (Event w) → w.Ram → Given → Type 0
  SettledIn b₀ list before m g =
      Settled w (M.plain b₀) (events_run b₀ list ++ before) m (regime_now w (plain_after b₀ list before))
      (page_now w (plain_after b₀ list before) (address_of g.ask))

  -- Where the page of a translation is settled, its answer is that of the core without a cache.
  abbrev pub FaithfulIn : M.Bare → List (Fed w M) → List (Event w) → w.Ram → Given → Type 0
  FaithfulIn b₀ list before m g =
      SettledIn b₀ list before m g
      → g.answer ≡ uncached w (plain_after b₀ list before) m (kind_of g.ask) (address_of g.ask)

  -- Faithfulness for calls: after every list of calls from the fresh core c₀, in every call x after it, at each step s of
  -- x, with the RAM m at its start. The steps before s in x, the earlier stores of a zeroing, belong to the list.
  abbrev pub EveryCallFaithful : M.Core → Type 0
  EveryCallFaithful c₀ =
      (list : List (Fed w M)) → Shown c₀ list → (x : Fed w M) → ShownIn (run c₀ (lent_of list)) x →
      (before : List (Event w)) (m : w.Ram) (s : Step w) (later : List (Event w)) →
      events_fed (bare_run (M.bare c₀) (lent_of list)) x ≡ before ++ steps m s ∷ later →
      Each (FaithfulIn (M.bare c₀) list before m)
      (answers w (plain_after (M.bare c₀) list before) m s.asks
      (tlb_run w (plain_after (M.bare c₀) list []) before (M.tlb (run c₀ (lent_of list)))))

  -- REPLIES

  -- What a call replies.
  --   reply      by the call's exact definition: a value, a fault, a refusal, RAM after it
  --   bare_reply  of the core without a cache: from its own state, RAM as the call begins, and the call
  pub record Replies : Type 1 where
    pub Reply : Type 0
    pub reply : M.Core → w.Ram → M.Call → Reply
    pub bare_reply : M.Bare → w.Ram → M.Call → Reply

  -- They are equal where the answers to the call's translations are.
  abbrev pub RepliesByAnswers : Replies → Type 0
  RepliesByAnswers A =
      (c : M.Core) (m : w.Ram) (x : M.Call)
      → answers_run w (plain_of c) (events_of c m x) (M.tlb c) ≡ plain_answers_run w (plain_of c) (events_of c m x)
      → A.reply c m x ≡ A.bare_reply (M.bare c) m x

  -- Where all pages that a call after the list translates are settled, it replies as the core without a cache.
  abbrev pub SameReplies : Replies → M.Core → Type 0
  SameReplies A c₀ =
      (list : List (Fed w M)) → Shown c₀ list → (x : Fed w M) → ShownIn (run c₀ (lent_of list)) x →
      Tidy w (M.plain (M.bare c₀)) (events_run (M.bare c₀) list) (events_fed (bare_run (M.bare c₀) (lent_of list)) x) →
      A.reply (run c₀ (lent_of list)) x.lent.ram x.lent.call
      ≡ A.bare_reply (bare_run (M.bare c₀) (lent_of list)) x.lent.ram x.lent.call

  -- Every reply of a list, and those of the core without a cache beside it.
  abbrev pub replies : (A : Replies) → M.Core → List (Lent w M) → List A.Reply
  replies A c [] = []
  replies A c (x ∷ xs) = A.reply c x.ram x.call ∷ replies A (M.step c x.ram x.call) xs

  abbrev pub bare_replies : (A : Replies) → M.Bare → List (Lent w M) → List A.Reply
  bare_replies A b [] = []
  bare_replies A b (x ∷ xs) = A.bare_reply b x.ram x.call ∷ bare_replies A (M.bare_step b x.ram x.call) xs

  -- The corollary to read first: where no table is changed without the matching TLBI, no reply of a list shows the
  -- cache.
  abbrev pub InvisibleCalls : Replies → M.Core → Type 0
  InvisibleCalls A c₀ =
      (list : List (Fed w M)) → Shown c₀ list → Tidy w (M.plain (M.bare c₀)) [] (events_run (M.bare c₀) list) →
      replies A c₀ (lent_of list) ≡ bare_replies A (M.bare c₀) (lent_of list)
