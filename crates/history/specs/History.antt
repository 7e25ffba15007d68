-- The list (docs/SCOPE.md), the premise of faithfulness, and faithfulness itself. With World.antt this is all that a reader has
-- to believe; every term is read from the events, never from the cache.
use Rattle.std.specs.Prelude.{if◌then◌else◌, ◌≡◌, Bool, true, false, List, [], ◌∷◌, ◌++◌, ◌⊎◌, ℕ, ◌≤◌, Ok}
use Rattle.walk.specs.declared.{level.Leaf.Leaf}
use Rattle.sysreg.specs.declared.regs.Regime.{Regime}
use Rattle.tlb.specs.Live.{Each}
use Rattle.tlb.specs.Tlb.{fresh, invalidate_of, invalidated_of, refit_by}
use Rattle.tlb.specs.Asks as Asks
use Rattle.tlb.specs.Asks.{Ask, kind_of, address_of, Given}
use Rattle.tlb.specs.declared.{access.Privilege.Privilege, Inval.Inval, Tlb.Tlb}
use Rattle.tlb.specs.Answers.{Answer}
use Rattle.tlb.specs.declared.Inval.TheVariants.{All}
use Rattle.history.specs.World.{World, LeavesEqual, covers, Plain, page_walk, regime_now, page_now, uncached, access_of}

module _ (w : World) where
  -- EVENTS

  -- What a step does besides translating.
  --   nothing   a refused call, and every call that leaves level, mark, cache and the registers that translation reads
  --   carries   a TLBI that is not refused: what it names, and whether it is an Inner Shareable form, which is left pending for other cores
  --   writes    a register write: the registers that translation reads become these
  --   sets      a setting of the level or the mark, or an abort entry
  pub data Effect : Type 0 where
    nothing : Effect
    carries : Inval → Bool → Effect
    writes : w.Regs → Effect
    sets : (privilege : Privilege) → privilege.level ≤ 3 → Effect

  -- A step: its translations, in order until one faults, on the registers and RAM at its start; then its effect. A load
  -- or a store has one translation, or two where it is split; each store of a zeroing is a step of its own.
  pub record Step : Type 0 where
    pub asks : List Ask
    pub effect : Effect

  -- An event of the core's history: a step, with RAM as it stands when the step begins; or an invalidation received
  -- from another core.
  pub data Event : Type 0 where
    steps : w.Ram → Step → Event
    receives : Inval → Event

  -- THE CORE WITHOUT A CACHE, after an effect, an event, a history

  abbrev pub after : Effect → Plain w → Plain w
  after nothing c = c
  after (carries v shared) c = c
  after (writes R) c = record { regs = R; privilege = c.privilege }
  after (sets privilege low) c = record { regs = c.regs; privilege = privilege }

  abbrev pub after_event : Event → Plain w → Plain w
  after_event (steps m s) c = after s.effect c
  after_event (receives v) c = c

  abbrev pub plain_run : Plain w → List Event → Plain w
  plain_run c [] = c
  plain_run c (x ∷ xs) = plain_run (after_event x c) xs

  -- INVALIDATIONS of an effect, an event, a history, in order

  -- A flush is one that a register write makes, where `shaping` changed. It counts as an All.
  abbrev pub drops : Effect → Plain w → List Inval
  drops nothing c = []
  drops (carries v shared) c = v ∷ []
  drops (writes R) c = if w.same-shape c.regs R then [] else All ∷ []
  drops (sets privilege low) c = []

  abbrev pub drops_event : Event → Plain w → List Inval
  drops_event (steps m s) c = drops s.effect c
  drops_event (receives v) c = v ∷ []

  abbrev pub drops_run : Plain w → List Event → List Inval
  drops_run c [] = []
  drops_run c (x ∷ xs) = drops_event x c ++ drops_run (after_event x c) xs

  -- THE CORE WITH ITS CACHE, by the functions that the contracts of `tlb` cite

  abbrev pub answer_of : Plain w → w.Ram → Ask → Tlb → Answer
  answer_of c m a t = Asks.answer_of (access_of w c m) a t

  abbrev pub tlb_ask : Plain w → w.Ram → Ask → Tlb → Tlb
  tlb_ask c m a t = Asks.tlb_ask (access_of w c m) a t

  abbrev pub answers : Plain w → w.Ram → List Ask → Tlb → List Given
  answers c m l t = Asks.answers (access_of w c m) l t

  abbrev pub tlb_asks : Plain w → w.Ram → List Ask → Tlb → Tlb
  tlb_asks c m l t = Asks.tlb_asks (access_of w c m) l t

  abbrev pub tlb_after : Effect → Plain w → Tlb → Tlb
  tlb_after nothing c t = t
  tlb_after (carries v shared) c t = invalidated_of t v shared
  tlb_after (writes R) c t = refit_by t (w.same-shape c.regs R) (w.asid R)
  tlb_after (sets privilege low) c t = t

  abbrev pub tlb_event : Event → Plain w → Tlb → Tlb
  tlb_event (steps m s) c t = tlb_after s.effect c (tlb_asks c m s.asks t)
  tlb_event (receives v) c t = invalidate_of t v

  abbrev pub tlb_run : Plain w → List Event → Tlb → Tlb
  tlb_run c [] t = t
  tlb_run c (x ∷ xs) t = tlb_run (after_event x c) xs (tlb_event x c t)

  -- FAITHFULNESS

  -- The premise, for the page p of the regime r, after the history `past` from the fresh core c₀, with the RAM m now.
  -- Take any step of the history, with the RAM m' at its start, at which stage 1 was on in r and the page's walk ended
  -- in the leaf ℓ. If ℓ is global or was walked under today's ASID, and no invalidation of that step or of a later
  -- event covers it, then it equals the page's walk now.
  pub record Settled (c₀ : Plain w) (past : List Event) (m : w.Ram) (r : Regime) (p : ℕ) : Type 0 where
    pub holds : (before : List Event) (m' : w.Ram) (s : Step) (later : List Event) →
        past ≡ before ++ steps m' s ∷ later →
        (ℓ : Leaf) →
        w.on (plain_run c₀ before).regs r ≡ true →
        page_walk w (plain_run c₀ before).regs m' r p ≡ Ok ℓ →
        (ℓ.global ≡ true) ⊎ (w.asid (plain_run c₀ before).regs ≡ w.asid (plain_run c₀ past).regs) →
        Each (λ v. covers v p ℓ (w.asid (plain_run c₀ before).regs) ≡ false)
        (drops_run (plain_run c₀ before) (steps m' s ∷ later)) →
        (ℓ' : Leaf) × (page_walk w (plain_run c₀ past).regs m r p ≡ Ok ℓ') × LeavesEqual ℓ ℓ'

  -- the page of a translation made after the history is settled
  abbrev pub SettledFor : Plain w → List Event → w.Ram → Ask → Type 0
  SettledFor c₀ past m a =
      Settled c₀ past m (regime_now w (plain_run c₀ past)) (page_now w (plain_run c₀ past) (address_of a))

  -- The conclusion, for a translation made now and its answer: where its page is settled, the core without a cache, fed
  -- the same list and shown the same RAM, answers the same.
  abbrev pub FaithfulAnswer : Plain w → List Event → w.Ram → Given → Type 0
  FaithfulAnswer c₀ past m g =
      SettledFor c₀ past m g.ask → g.answer ≡ uncached w (plain_run c₀ past) m (kind_of g.ask) (address_of g.ask)

  -- Faithfulness: after every history from the fresh core c₀, whatever the RAM, each translation of each step is faithful.
  abbrev pub EveryHistoryFaithful : Plain w → Type 0
  EveryHistoryFaithful c₀ =
      (past : List Event) (m : w.Ram) (s : Step) →
      Each (FaithfulAnswer c₀ past m) (answers (plain_run c₀ past) m s.asks (tlb_run c₀ past fresh))
