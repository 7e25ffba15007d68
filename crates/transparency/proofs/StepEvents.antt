-- A step of a list, one that zeroes nothing, as the theory of histories has it: an event, and what it asks, invalidates
-- and leaves.
use Rattle.std.proofs.Common.{rules, sym, ap, ap₂, subst, ◌∙◌, arith}
use Rattle.std.specs.Prelude.{◌≡◌, refl, List, [], ◌∷◌, ◌++◌, ℕ, Option, None}
use Rattle.tlb.specs.Asks.{Ask}
use Rattle.tlb.specs.Tlb.{fresh}
use Rattle.tlb.specs.declared.{Inval.Inval}
use Rattle.cpu.specs.Bare.{Bare, bare_of, core_from}
use Rattle.cpu.specs.declared.Core.{Core}
use Rattle.cpu.specs.declared.{call.Call.Call}
use Rattle.cpu.specs.declared.call.Call.TheVariants.{System}
use Rattle.history.specs.World.{Plain}
use Rattle.history.specs.History.{carries, Event, steps, after, plain_run, drops}
use Rattle.history.specs.History as History
use Rattle.history.proofs.Lists.{plain-append}
use Rattle.history.specs.Calls.{run, lent_of, events_run, Shown}
use Rattle.history.specs.Calls as Calls
use Rattle.history.specs.Instance.{Ram, real}
use Rattle.transparency.specs.Bare.{Ruling, op_in, operand_in, ruling_in, if_allowed, bare_step}
use Rattle.transparency.specs.Events.{plain_in, idle, steps_in, events_in}
use Rattle.transparency.specs.Starts.{later_in}
use Rattle.transparency.specs.Machine.{machine}
use Rattle.transparency.specs.Steps.{Step, core_run, bare_run, zeroing, zeroed}
use Rattle.transparency.specs.Claim.{asks_of, asked, drops_of, drops_run}
use Rattle.transparency.specs.Premise.{feeds}
use Rattle.transparency.proofs.Bridge.{bridge}
use Rattle.transparency.proofs.Steps.{Apart}

-- A STEP AS AN EVENT of the theory

-- its only event is e, which asks and invalidates what the step does
record One (b : Bare) (m : Ram) (es : List (Event real)) (qs : List Ask) (ds : List Inval) : Type 0 where
  done : History.Step real
  is : es ≡ steps m done ∷ []
  asks : done.asks ≡ qs
  dropped : drops real done.effect (plain_in b) ≡ ds

module _ (b : Bare) (m : Ram) where
  abbrev zeroed_by : Ruling → Call → Option ℕ
  zeroed_by v (System e) = zeroing v (op_in b e) (operand_in b e)
  zeroed_by v _ = None

  one-call : (v : Ruling) (x : Call) → zeroed_by v x ≡ None
      → One b m (if_allowed v (steps_in b m [] x) (steps m idle ∷ [])) (if_allowed v (asks_of b x) []) (if_allowed v (drops_of b x) [])
  one-call v x h1 = search rules

  zeroed-is : (x : Call) → zeroed b m x ≡ None → zeroed_by (ruling_in b m x) x ≡ None
  zeroed-is x h1 = grind arith

pub later-none : (c : Core) (m : Ram) (x : Call) → zeroed (bare_of c) m x ≡ None → later_in c m x ≡ []
later-none c m x h1 = grind arith

-- THE LIST, as the theory is fed it

abbrev pub events : Bare → List Step → List (Event real)
events b l = events_run real machine b (feeds l)

pub core-same : (c : Core) (l : List Step) → run real machine c (lent_of real machine (feeds l)) ≡ core_run c l
core-same c [] = refl
core-same c (s ∷ l) = core-same (machine.step c s.ram s.call) l

pub bare-same : (b : Bare) (l : List Step) → Calls.bare_run real machine b (lent_of real machine (feeds l)) ≡ bare_run b l
bare-same b [] = refl
bare-same b (s ∷ l) = bare-same (bare_step b s.ram s.call) l

pub shown-feeds : (c : Core) (l : List Step) → Apart (bare_of c) l → Shown real machine c (feeds l)
shown-feeds c [] a = tt
shown-feeds c (s ∷ l) a = (
  sym (later-none c s.ram s.call a.0),
  shown-feeds (machine.step c s.ram s.call) l (subst (λ (b : Bare). Apart b l) (sym (bridge.bare-is c s.ram s.call)) a.1),
)

-- one step: its event, and what translations read after it
pub record Made (b : Bare) (s : Step) : Type 0 where
  pub done : History.Step real
  pub is : events_in b s.ram [] s.call ≡ steps s.ram done ∷ []
  pub asks : done.asks ≡ asked b s
  pub dropped : drops real done.effect (plain_in b) ≡ if_allowed (ruling_in b s.ram s.call) (drops_of b s.call) []
  pub next : after real done.effect (plain_in b) ≡ plain_in (bare_step b s.ram s.call)

plain-one : (b : Bare) (s : Step) → zeroed b s.ram s.call ≡ None
    → plain_in (bare_step b s.ram s.call) ≡ plain_run real (plain_in b) (events_in b s.ram [] s.call)
plain-one b s z =
    let c = core_from b fresh 0 0 in
    bridge.plain-is c s.ram s.call
    ∙ ap (λ (ms : List Ram). plain_run real (plain_in b) (events_in b s.ram ms s.call)) (later-none c s.ram s.call z)

pub made : (b : Bare) (s : Step) → zeroed b s.ram s.call ≡ None → Made b s
made b s z =
    let o = one-call b s.ram (ruling_in b s.ram s.call) s.call (zeroed-is b s.ram s.call z) in
    record {
      done = o.done;
      is = o.is;
      asks = o.asks;
      dropped = o.dropped;
      next = ap (plain_run real (plain_in b)) (sym o.is) ∙ sym (plain-one b s z);
    }

pub plain-many : (b : Bare) (l : List Step) → Apart b l → plain_run real (plain_in b) (events b l) ≡ plain_in (bare_run b l)
plain-many b [] a = refl
plain-many b (s ∷ l) a = grind (arith, (plain-many (bare_step b s.ram s.call) l a.1), plain-append, plain-one)

pub drops-many : (b : Bare) (l : List Step) → Apart b l → History.drops_run real (plain_in b) (events b l) ≡ drops_run b l
drops-many b [] a = refl
drops-many b (s ∷ l) a =
    let o = made b s a.0 in
    ap (λ (es : List (Event real)). History.drops_run real (plain_in b) (es ++ events (bare_step b s.ram s.call) l)) o.is
    ∙ ap₂ (λ (d : List Inval) (q : Plain real). d ++ History.drops_run real q (events (bare_step b s.ram s.call) l)) o.dropped o.next
    ∙ ap (λ (k : List Inval). if_allowed (ruling_in b s.ram s.call) (drops_of b s.call) [] ++ k) (drops-many (bare_step b s.ram s.call) l a.1)

pub events-append : (b : Bare) (l k : List Step) → events b (l ++ k) ≡ events b l ++ events (bare_run b l) k
events-append b [] k = refl
events-append b (s ∷ l) k = grind (arith, (events-append (bare_step b s.ram s.call) l k))
