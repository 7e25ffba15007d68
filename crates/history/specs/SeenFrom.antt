-- Several cores on one RAM, each of them as a machine of its own: its history has its own calls, and of each other
-- core's call what that call shares.
use Rattle.std.specs.Prelude.{if◌then◌else◌, ◌≡◌, ◌||◌, ℕ, List, [], ◌∷◌, ◌==◌, nat_lt, Option, Some, None}
use Rattle.tlb.specs.Tlb.{invalidate_of}
use Rattle.tlb.specs.declared.{Inval.Inval}
use Rattle.history.specs.World.{World}
use Rattle.history.specs.History.{Event, receives}
use Rattle.history.specs.Calls.{Machine, Bridge, Replies, RepliesByAnswers}
use Rattle.history.specs.Faithful.{Says, MadeFromAnswers}
use Rattle.history.specs.Delivered.{unpending, all_delivered}

-- What a machine's calls share, and what is to be shown of it.
--   shared  what a call leaves pending for other cores: read from the call and the state without a cache
--   hear    what another core makes of that: its cache is invalidated, and all else but the cache stays
--   settle  the core whose call shared it, with its mark cleared, and no more
pub record Sharing (w : World) (M : Machine w) : Type 1 where
  pub shared : M.Bare → w.Ram → M.Call → Option Inval
  pub hear : Inval → M.Core → M.Core
  pub settle : M.Core → M.Core
  pub hear-bare : (v : Inval) (c : M.Core) → M.bare (hear v c) ≡ M.bare c
  pub hear-tlb : (v : Inval) (c : M.Core) → M.tlb (hear v c) ≡ invalidate_of (M.tlb c) v
  pub settle-bare : (c : M.Core) → M.bare (settle c) ≡ M.bare c
  pub settle-tlb : (c : M.Core) → M.tlb (settle c) ≡ unpending (M.tlb c)

-- a call, with the number of the core that is to make it
pub record Numbered (A : Type 0) : Type 0 where
  pub number : ℕ
  pub call : A

-- WHAT A CORE HAS OF A CALL: it makes it, hears what it shares, or neither.
pub data Part : Type 0 where
  makes : Part
  hears : Part
  neither : Part

-- Of the core i, in a call on the core n. There are the cores 0 to 3: a call on a number above 3 is refused, and no
-- call reaches a core above 3.
abbrev pub part_of : ℕ → ℕ → Part
part_of i n = if nat_lt 3 n || nat_lt 3 i then neither else if i == n then makes else hears

module _ (w : World) (M : Machine w) (S : Sharing w M) where
  abbrev pub heard : Option Inval → M.Core → M.Core
  heard None c = c
  heard (Some v) c = S.hear v c

  abbrev pub received : Option Inval → List (Event w)
  received None = []
  received (Some v) = receives v ∷ []

  -- A call x, on the RAM m, that shares v: what it makes of a core, and of the state of one without a cache; RAM at its
  -- further steps; and the events that the core's history gets. A core's own invalidation is one, whatever it shares.
  abbrev pub core_then : Part → M.Core → w.Ram → M.Call → Option Inval → M.Core
  core_then makes c m x v = S.settle (M.step c m x)
  core_then hears c m x v = heard v c
  core_then neither c m x v = c

  abbrev pub bare_then : Part → M.Bare → w.Ram → M.Call → M.Bare
  bare_then makes b m x = M.bare_step b m x
  bare_then hears b m x = b
  bare_then neither b m x = b

  abbrev pub later_then : Part → M.Core → w.Ram → M.Call → List w.Ram
  later_then makes c m x = M.later c m x
  later_then hears c m x = []
  later_then neither c m x = []

  abbrev pub events_then : Part → M.Bare → w.Ram → List w.Ram → M.Call → Option Inval → List (Event w)
  events_then makes b m ms x v = all_delivered w (M.events b m ms x)
  events_then hears b m ms x v = received v
  events_then neither b m ms x v = []

  -- ALL CORES, by their numbers

  abbrev pub bares_of : (ℕ → M.Core) → ℕ → M.Bare
  bares_of cs i = M.bare (cs i)

  -- what a call shares with the others: read from the core that makes it, without its cache
  abbrev pub shared_by : (ℕ → M.Bare) → w.Ram → Numbered M.Call → Option Inval
  shared_by bs m x = S.shared (bs x.number) m x.call

  abbrev pub cores_after : (ℕ → M.Core) → w.Ram → Numbered M.Call → ℕ → M.Core
  cores_after cs m x i = core_then (part_of i x.number) (cs i) m x.call (shared_by (bares_of cs) m x)

  abbrev pub bares_after : (ℕ → M.Bare) → w.Ram → Numbered M.Call → ℕ → M.Bare
  bares_after bs m x i = bare_then (part_of i x.number) (bs i) m x.call

  -- THE CORE k AMONG THEM. Its own cache is what it is but for the mark, which each call clears before it ends.
  module _ (k : ℕ) where
    abbrev pub events_seen : (ℕ → M.Bare) → w.Ram → List w.Ram → Numbered M.Call → List (Event w)
    events_seen bs m ms x = events_then (part_of k x.number) (bs k) m ms x.call (shared_by bs m x)

    abbrev pub later_seen : (ℕ → M.Core) → w.Ram → Numbered M.Call → List w.Ram
    later_seen cs m x = later_then (part_of k x.number) (cs k) m x.call

    abbrev pub seen_from : Machine w
    seen_from =
        record {
          Core = ℕ → M.Core;
          Bare = ℕ → M.Bare;
          Call = Numbered M.Call;
          bare = bares_of;
          tlb = λ cs. unpending (M.tlb (cs k));
          step = cores_after;
          later = later_seen;
          plain = λ bs. M.plain (bs k);
          bare_step = bares_after;
          events = events_seen;
        }

    -- REPLIES: to its own calls, and none to another's, of which nothing is said here

    abbrev pub if_made : {A : Type 0} → Part → A → Option A
    if_made makes a = Some a
    if_made hears a = None
    if_made neither a = None

    abbrev pub seen_replies : Replies w M → Replies w seen_from
    seen_replies A =
        record {
          Reply = Option A.Reply;
          reply = λ cs m x. if_made (part_of k x.number) (A.reply (cs k) m x.call);
          bare_reply = λ bs m x. if_made (part_of k x.number) (A.bare_reply (bs k) m x.call);
        }

    abbrev pub seen_says : (A : Replies w M) → Says w M A → Says w seen_from (seen_replies A)
    seen_says A says bs m ms x gs = if_made (part_of k x.number) (says (bs k) m ms x.call gs)

-- WHAT IS PROVED, whatever the machine and what its calls share: each core among several does what its history says,
-- where one alone does; its replies are the same where its answers are, and made from them, where the machine's are.

abbrev pub SeenFromEach : (w : World) (M : Machine w) → Sharing w M → Type 0
SeenFromEach w M S = (k : ℕ) → Bridge w M → Bridge w (seen_from w M S k)

abbrev pub RepliesFromEach : (w : World) (M : Machine w) → Sharing w M → Replies w M → Type 0
RepliesFromEach w M S A =
    (k : ℕ) → RepliesByAnswers w M A → RepliesByAnswers w (seen_from w M S k) (seen_replies w M S k A)

abbrev pub MadeFromEach : (w : World) (M : Machine w) → Sharing w M → (A : Replies w M) → Says w M A → Type 0
MadeFromEach w M S A says =
    (k : ℕ) → MadeFromAnswers w M A says
    → MadeFromAnswers w (seen_from w M S k) (seen_replies w M S k A) (seen_says w M S k A says)
