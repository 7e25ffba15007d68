-- The claim for every history, from the theorem about every list of calls: its premise is that of the theory of
-- histories, and its core without a cache answers the same.
use Rattle.std.proofs.Common.{rules, sym, ap, subst, ◌∙◌, arith, append-nil}
use Rattle.std.specs.Prelude.{◌≡◌, refl, true, false, List, [], ◌∷◌, ◌++◌, ◌⊎◌, ℕ, None, Ok}
use Rattle.walk.specs.declared.{level.Leaf.Leaf}
use Rattle.sysreg.specs.declared.regs.Regime.{Regime}
use Rattle.tlb.specs.Asks.{Ask, Given, kind_of, address_of}
use Rattle.tlb.specs.Live.{Each}
use Rattle.tlb.proofs.Cells.{each-imp}
use Rattle.tlb.specs.declared.{access.Kind.Kind, Inval.Inval}
use Rattle.cpu.specs.Bare.{Bare, fresh_bare, bare_of}
use Rattle.cpu.specs.Core.{fresh_core}
use Rattle.cpu.specs.declared.Core.{Core}
use Rattle.history.specs.World.{Plain, LeavesEqual, covers, page_walk, regime_now, page_now}
use Rattle.history.specs.World as World
use Rattle.history.specs.History.{Event, steps, after_event, plain_run, answers}
use Rattle.history.specs.History as History
use Rattle.history.specs.Calls.{run, lent_of}
use Rattle.history.specs.Instance.{Ram, real}
use Rattle.transparency.specs.Bare.{bare_step}
use Rattle.transparency.specs.Events.{plain_in, events_in}
use Rattle.transparency.specs.Machine.{machine}
use Rattle.transparency.specs.Steps.{Step, core_run, bare_run, zeroed}
use Rattle.transparency.specs.Claim.{asked, answers_of, drops_run, Covers, Settled, uncached, SettledFor, FaithfulAt, every_list}
use Rattle.transparency.specs.Premise.{feed, feeds, SettledInTheory, same_premise}
use Rattle.transparency.specs.Replies.{outcome_of, bare_reply, every_step_replies}
use Rattle.transparency.specs.Starts.{later_in}
use Rattle.history.specs.Invisible.{Tidy}
use Rattle.transparency.specs.Says.{answered_step}
use Rattle.transparency.proofs.Answered.{reply-is}
use Rattle.transparency.proofs.Instance.{every-translation, every-reply}
use Rattle.transparency.proofs.StepEvents.{events, core-same, bare-same, shown-feeds, made, plain-many, drops-many, events-append}
use Rattle.transparency.proofs.Steps.{Apart, apart-left, apart-right, both-run, steps-apart}

-- COVERING

not-covered : (v : Inval) (p : ℕ) (ℓ : Leaf) (a : ℕ) → covers v p ℓ a ≡ false → Covers v p ℓ a → ⊥
unfolding covers
not-covered v p ℓ a h1 h2 = grind arith

uncovered-is : (v : Inval) (p : ℕ) (ℓ : Leaf) (a : ℕ) → (Covers v p ℓ a → ⊥) → covers v p ℓ a ≡ false
unfolding covers
uncovered-is v p ℓ a h1 = grind arith

-- THE PREMISE

-- where the events of a list are cut before one, so are its steps
record Cut (b : Bare) (l : List Step) (eb : List (Event real)) (m : Ram) (t : History.Step real) (el : List (Event real)) : Type 0 where
  before : List Step
  one : Step
  later : List Step
  split : l ≡ before ++ one ∷ later
  ram : one.ram ≡ m
  plain : plain_run real (plain_in b) eb ≡ plain_in (bare_run b before)
  dropped : History.drops_run real (plain_run real (plain_in b) eb) (steps m t ∷ el) ≡ drops_run (bare_run b before) (one ∷ later)

cons_head : {A : Type 0} {x y : A} {l k : List A} → ◌≡◌ {A = List A} (x ∷ l) (y ∷ k) → x ≡ y
cons_head e = cc

cons_tail : {A : Type 0} {x y : A} {l k : List A} → ◌≡◌ {A = List A} (x ∷ l) (y ∷ k) → l ≡ k
cons_tail e = cc

ram_same : {m n : Ram} {t u : History.Step real} → ◌≡◌ {A = Event real} (steps m t) (steps n u) → m ≡ n
ram_same e = cc

step_same : {m n : Ram} {t u : History.Step real} → ◌≡◌ {A = Event real} (steps m t) (steps n u) → t ≡ u
step_same e = cc

cut : (b : Bare) (l : List Step) → Apart b l → (eb : List (Event real)) (m : Ram) (t : History.Step real) (el : List (Event real))
    → events b l ≡ eb ++ steps m t ∷ el → Cut b l eb m t el
cut b [] a [] m t el e = absurd (let z : ◌≡◌ {A = ℕ} 0 1 = cc in omega arith)
cut b [] a (x ∷ eb) m t el e = absurd (let z : ◌≡◌ {A = ℕ} 0 1 = cc in omega arith)
cut b (s ∷ l) a [] m t el e =
    let o = made b s a.0 in
    record {
      before = [];
      one = s;
      later = l;
      split = refl;
      ram = ram_same (cons_head (ap (λ (es : List (Event real)). es ++ events (bare_step b s.ram s.call) l) (sym o.is) ∙ e));
      plain = refl;
      dropped = ap (History.drops_run real (plain_in b)) (sym e) ∙ drops-many b (s ∷ l) a;
    }
cut b (s ∷ l) a (x ∷ eb) m t el e =
    let o = made b s a.0 in
    let cons = ap (λ (es : List (Event real)). es ++ events (bare_step b s.ram s.call) l) (sym o.is) ∙ e in
    let rest = cut (bare_step b s.ram s.call) l a.1 eb m t el (cons_tail cons) in
    let next : after_event real x (plain_in b) ≡ plain_in (bare_step b s.ram s.call) =
    ap (λ (y : Event real). after_event real y (plain_in b)) (sym (cons_head cons)) ∙ o.next in
    record {
      before = s ∷ rest.before;
      one = rest.one;
      later = rest.later;
      split = ap {B = List Step} (λ k. s ∷ k) rest.split;
      ram = rest.ram;
      plain = ap (λ (q : Plain real). plain_run real q eb) next ∙ rest.plain;
      dropped = ap (λ (q : Plain real). History.drops_run real (plain_run real q eb) (steps m t ∷ el)) next ∙ rest.dropped;
    }

module _ (past : List Step) (a : Apart fresh_bare past) (m : Ram) (r : Regime) (p : ℕ) where
  -- registers and RAM at a step, those of now, and the invalidations since, as the theory has them and as the claim has
  abbrev Holds : Plain real → Ram → Plain real → (Inval → ℕ → Leaf → ℕ → Type 0) → List Inval → Type 0
  Holds q n now spares ds =
      (ℓ : Leaf) → real.on q.regs r ≡ true → page_walk real q.regs n r p ≡ Ok ℓ
      → (ℓ.global ≡ true) ⊎ (real.asid q.regs ≡ real.asid now.regs)
      → Each (λ v. spares v p ℓ (real.asid q.regs)) ds
      → (ℓ' : Leaf) × (page_walk real now.regs m r p ≡ Ok ℓ') × LeavesEqual ℓ ℓ'

  abbrev spares_in_theory : Inval → ℕ → Leaf → ℕ → Type 0
  spares_in_theory v n ℓ x = covers v n ℓ x ≡ false

  abbrev spares : Inval → ℕ → Leaf → ℕ → Type 0
  spares v n ℓ x = Covers v n ℓ x → ⊥

  today : plain_run real (plain_in fresh_bare) (events fresh_bare past) ≡ plain_in (bare_run fresh_bare past)
  today = plain-many fresh_bare past a

  pub settled-in-theory : Settled past m r p → SettledInTheory past m r p
  settled-in-theory h =
      record {
        holds = λ eb n t el split.
            let c = cut fresh_bare past a eb n t el split in
            let old : Holds (plain_in (bare_run fresh_bare c.before)) c.one.ram (plain_in (bare_run fresh_bare past)) spares_in_theory
            (drops_run (bare_run fresh_bare c.before) (c.one ∷ c.later)) =
            λ ℓ on walk today us.
            let (ℓ', w, same) = h.holds c.before c.one c.later c.split ℓ on walk today (each-imp (λ v e. not-covered v p ℓ _ e) us) in
            (ℓ', w, record { pages = same.pages; perms = same.perms; levels = same.levels }) in
            subst (λ (ds : List Inval). Holds (plain_run real (plain_in fresh_bare) eb) n (plain_run real (plain_in fresh_bare) (events fresh_bare past)) spares_in_theory ds)
            (sym c.dropped)
            (subst (λ (now : Plain real). Holds (plain_run real (plain_in fresh_bare) eb) n now spares_in_theory (drops_run (bare_run fresh_bare c.before) (c.one ∷ c.later)))
            (sym today)
            (subst (λ (q : Plain real). Holds q n (plain_in (bare_run fresh_bare past)) spares_in_theory (drops_run (bare_run fresh_bare c.before) (c.one ∷ c.later)))
            (sym c.plain)
            (subst (λ (k : Ram). Holds (plain_in (bare_run fresh_bare c.before)) k (plain_in (bare_run fresh_bare past)) spares_in_theory (drops_run (bare_run fresh_bare c.before) (c.one ∷ c.later)))
            c.ram old)));
      }

  pub settled-in-claim : SettledInTheory past m r p → Settled past m r p
  settled-in-claim h =
      record {
        holds = λ before s later split ℓ on walk now us.
            let whole = subst (Apart fresh_bare) split a in
            let from = apart-right fresh_bare before (s ∷ later) whole in
            let b = bare_run fresh_bare before in
            let o = made b s from.0 in
            let here = plain-many fresh_bare before (apart-left fresh_bare before (s ∷ later) whole) in
            let at : events fresh_bare past ≡ events fresh_bare before ++ steps s.ram o.done ∷ events (bare_step b s.ram s.call) later =
            ap (events fresh_bare) split
            ∙ events-append fresh_bare before (s ∷ later)
            ∙ ap (λ (es : List (Event real)). events fresh_bare before ++ (es ++ events (bare_step b s.ram s.call) later)) o.is in
            let dropped : History.drops_run real (plain_in b) (steps s.ram o.done ∷ events (bare_step b s.ram s.call) later) ≡ drops_run b (s ∷ later) =
            ap (λ (es : List (Event real)). History.drops_run real (plain_in b) (es ++ events (bare_step b s.ram s.call) later)) (sym o.is)
            ∙ drops-many b (s ∷ later) from in
            let held : Holds (plain_in b) s.ram (plain_in (bare_run fresh_bare past)) spares_in_theory (drops_run b (s ∷ later)) =
            subst (λ (ds : List Inval). Holds (plain_in b) s.ram (plain_in (bare_run fresh_bare past)) spares_in_theory ds) dropped
            (subst (λ (now : Plain real). Holds (plain_in b) s.ram now spares_in_theory (History.drops_run real (plain_in b) (steps s.ram o.done ∷ events (bare_step b s.ram s.call) later)))
            today
            (subst
            (λ (q : Plain real).
            Holds q s.ram (plain_run real (plain_in fresh_bare) (events fresh_bare past)) spares_in_theory
            (History.drops_run real q (steps s.ram o.done ∷ events (bare_step b s.ram s.call) later)))
            here (h.holds (events fresh_bare before) s.ram o.done (events (bare_step b s.ram s.call) later) at))) in
            let (ℓ', w, same) = held ℓ on walk now (each-imp (λ v e. uncovered-is v p ℓ _ e) us) in
            (ℓ', w, record { pages = same.pages; perms = same.perms; levels = same.levels });
      }

pub same-premise : same_premise
unfolding fresh_core
same-premise list past later split m r p =
    let apart = apart-left fresh_bare past later (subst (Apart fresh_bare) split (steps-apart fresh_core list)) in
    (settled-in-theory past apart m r p, settled-in-claim past apart m r p)

-- THE CORE WITHOUT A CACHE

uncached-same : (b : Bare) (m : Ram) (k : Kind) (va : ℕ) → World.uncached real (plain_in b) m k va ≡ uncached b m k va
uncached-same b m k va = refl

-- THE CLAIM

module _ (before : List Step) (s : Step) (a : Apart fresh_bare before) (z : zeroed (bare_run fresh_bare before) s.ram s.call ≡ None) where
  -- what the theory says of an answer, in a state
  abbrev Says : Plain real → List (Event real) → Given → Type 0
  Says q past g =
      History.Settled real (plain_in fresh_bare) past s.ram (regime_now real q) (page_now real q (address_of g.ask))
      → g.answer ≡ World.uncached real q s.ram (kind_of g.ask) (address_of g.ask)

  abbrev b : Bare
  b = bare_run fresh_bare before

  abbrev c : Core
  c = core_run fresh_core before

  both : bare_of c ≡ b
  unfolding fresh_core
  both = both-run fresh_core before

  abbrev done : History.Step real
  done = (made b s z).done

  fed : [] ≡ later_in (run real machine fresh_core (lent_of real machine (feeds before))) s.ram s.call
  fed = grind (arith, core-same, both)

  from-theory : Each (Says (plain_in b) (events fresh_bare before ++ [])) (answers real (plain_in b) s.ram done.asks c.tlb)
  unfolding fresh_core
  from-theory =
      subst
      (λ (d : Core). Each (Says (plain_in b) (events fresh_bare before ++ [])) (answers real (plain_in b) s.ram done.asks d.tlb))
      (core-same fresh_core before)
      (subst
      (λ (x : Bare).
      Each (Says (plain_in x) (events fresh_bare before ++ [])) (answers real (plain_in x) s.ram done.asks (run real machine fresh_core (lent_of real machine (feeds before))).tlb))
      (bare-same fresh_bare before)
      (every-translation (feeds before) (shown-feeds fresh_core before a) (feed s)
      fed
      [] s.ram done []
      (ap (λ (x : Bare). events_in x s.ram [] s.call) (bare-same fresh_bare before) ∙ (made b s z).is)))

  claim : Each (FaithfulAt before s.ram) (answers_of c s)
  claim =
      each-imp
      (λ g says settled.
      says
      (subst (λ (es : List (Event real)). History.Settled real (plain_in fresh_bare) es s.ram (regime_now real (plain_in b)) (page_now real (plain_in b) (address_of g.ask)))
      (sym (append-nil (events fresh_bare before))) (settled-in-theory before a s.ram _ _ settled))
      ∙ uncached-same b s.ram (kind_of g.ask) (address_of g.ask))
      (subst (λ (x : Bare). Each (Says (plain_in b) (events fresh_bare before ++ [])) (answers real (plain_in x) s.ram (asked x s) c.tlb)) (sym both)
      (subst (λ (l : List Ask). Each (Says (plain_in b) (events fresh_bare before ++ [])) (answers real (plain_in b) s.ram l c.tlb)) (made b s z).asks from-theory))

pub every-list : every_list
unfolding fresh_core
every-list list before s later split =
    let apart = subst (Apart fresh_bare) split (steps-apart fresh_core list) in
    claim before s (apart-left fresh_bare before (s ∷ later) apart) (apart-right fresh_bare before (s ∷ later) apart).0

-- REPLIES

pub answered-step : answered_step
answered-step c s z = search (rules, made, reply-is, append-nil)

module _ (before : List Step) (s : Step) (a : Apart fresh_bare before) (z : zeroed (bare_run fresh_bare before) s.ram s.call ≡ None) where
  abbrev here : Bare
  here = bare_run fresh_bare before

  abbrev Pages : List Ask → Type 0
  Pages l = Each (λ (q : Ask). SettledFor before s.ram (address_of q)) l

  -- its only event is the step
  tidy : Pages (asked here s) → Tidy real (plain_in fresh_bare) (events fresh_bare before) (steps s.ram (made here s z).done ∷ [])
  tidy settled [] m t later e =
      let same = cons_head e in
      rw (append-nil (events fresh_bare before), sym (ram_same same), sym (step_same same))
      (subst
      (λ (now : Plain real).
      Each
      (λ (q : Ask). History.Settled real (plain_in fresh_bare) (events fresh_bare before) s.ram (regime_now real now) (page_now real now (address_of q)))
      (made here s z).done.asks)
      (sym (plain-many fresh_bare before a))
      (each-imp (λ q h. settled-in-theory before a s.ram _ _ h) (subst Pages (sym (made here s z).asks) settled)))
  tidy settled (x ∷ []) m t later e = absurd (let y : ◌≡◌ {A = ℕ} 0 1 = cc in omega arith)
  tidy settled (x ∷ y ∷ l) m t later e = absurd (let y : ◌≡◌ {A = ℕ} 0 1 = cc in omega arith)

  replied : Pages (asked here s) → outcome_of (core_run fresh_core before) s.ram s.call ≡ bare_reply here s.ram s.call
  unfolding fresh_core
  replied settled =
      subst (λ (d : Core). outcome_of d s.ram s.call ≡ bare_reply here s.ram s.call) (core-same fresh_core before)
      (subst
      (λ (x : Bare). outcome_of (run real machine fresh_core (lent_of real machine (feeds before))) s.ram s.call ≡ bare_reply x s.ram s.call)
      (bare-same fresh_bare before)
      (every-reply (feeds before) (shown-feeds fresh_core before a) (feed s) (fed before s a z)
      (subst (Tidy real (plain_in fresh_bare) (events fresh_bare before))
      (sym (ap (λ (x : Bare). events_in x s.ram [] s.call) (bare-same fresh_bare before) ∙ (made here s z).is)) (tidy settled))))

pub every-step-replies : every_step_replies
unfolding fresh_core
every-step-replies list before s later split =
    let apart = subst (Apart fresh_bare) split (steps-apart fresh_core list) in
    replied before s (apart-left fresh_bare before (s ∷ later) apart) (apart-right fresh_bare before (s ∷ later) apart).0
