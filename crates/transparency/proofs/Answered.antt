-- The cache reaches a reply through the answers to the call's translations alone.
use Rattle.std.proofs.Common.{rules, sym, ap₂, ◌∙◌, append-nil, arith}
use Rattle.std.specs.Prelude.{◌≡◌, Bool, false, List, [], ◌∷◌, ◌++◌, ℕ, zero, suc, ◌+◌, ◌%◌}
use Rattle.std.proofs.Math.Path.{ap}
use Rattle.word.specs.Bits.{align_down, wrap}
use Rattle.tlb.specs.Asks.{translates, Given}
use Rattle.tlb.specs.declared.access.Kind.TheVariants as Kind
use Rattle.tlb.specs.declared.Tlb.{Tlb}
use Rattle.tlb.specs.Answers.{Answer}
use Rattle.cpu.specs.Bytes.{Placed, StoreAnswer, crosses, load_end, store_end, store_ram_end, fetch_end}
use Rattle.cpu.specs.Bare.{Bare, bare_of}
use Rattle.cpu.specs.Core.{reg_of}
use Rattle.cpu.specs.Memory.{translate_in, translate_fetch_in, stepped_now, fetch_stepped_now, translate_of, read_of, write_of, ram_after_write}
use Rattle.cpu.specs.Memory.{fetch_of, fetch_pa_of, data_pa_of}
use Rattle.cpu.proofs.OpLaws.{placed_by}
use Rattle.cpu.specs.declared.Core.{Core}
use Rattle.cpu.specs.declared.call.Call.{Call}
use Rattle.cpu.specs.System.{after_register_write, zero_of, zero_ram, sys_of, sys_ram}
use Rattle.cpu.specs.Check.{loading, storing}
use Rattle.cpu.specs.Step.{run_of, ram_of, step_of, ram_after}
use Rattle.history.specs.History.{answer_of, answers, tlb_asks}
use Rattle.history.specs.Invisible.{answers_run}
use Rattle.history.specs.Instance.{Ram, real}
use Rattle.transparency.specs.Events.{plain_in, zero_steps, events_in}
use Rattle.transparency.specs.Claim.{access_in}
use Rattle.transparency.specs.Starts.{ram_zeroed, zero_later, later_in}
use Rattle.transparency.specs.Replies.{Outcome, outcome, outcome_of, load_says, store_says}
use Rattle.transparency.specs.Says.{zero_says, says_in}
use Rattle.transparency.proofs.Bridge.{stored-bare, stored-tlb}

-- `last_pa` and `abort_pa` reach no answer

load-end : (x : Placed) (last abort base : ℕ) (ram : List ℕ) (va n : ℕ)
    → (load_end x last abort base ram va n).answer ≡ (load_end x 0 0 base ram va n).answer
unfolding load_end
load-end x last abort base ram va n = grind arith

store-end : (x : Placed) (abort base : ℕ) (ram : List ℕ) (va n : ℕ) → (store_end x abort base ram va n).answer ≡ (store_end x 0 base ram va n).answer
unfolding store_end
store-end x abort base ram va n = grind arith

pub fetch-end : (a : Answer) (abort base : ℕ) (ram : List ℕ) (va : ℕ) → (fetch_end a abort base ram va).answer ≡ (fetch_end a 0 base ram va).answer
unfolding fetch_end
fetch-end a abort base ram va = grind arith

-- LOADS AND STORES

abbrev pub access_given : Core → Ram → ℕ → ℕ → Kind.the_data → List Given
access_given c m va n kind = answers real (plain_in (bare_of c)) m (access_in (bare_of c) va n kind) c.tlb

pub load-answered : (c : Core) (m : Ram) (va n : ℕ)
    → outcome (loading (read_of c m.base m.bytes va n).answer) m.bytes ≡ load_says m va n (access_given c m va n Kind.Read)
unfolding read_of
load-answered c m va n =
    ap (λ a. outcome (loading a) m.bytes)
    (load-end _ _ _ m.base m.bytes va n
    ∙ ap (λ (p : Placed). (load_end p 0 0 m.base m.bytes va n).answer) (placed_by c m.base m.bytes va n Kind.Read))

pub store-answered : (c : Core) (m : Ram) (va n v : ℕ)
    → outcome (storing (write_of c m.base m.bytes va n).answer) (ram_after_write c m.base m.bytes va n v)
    ≡ store_says m va n v (access_given c m va n Kind.Write)
unfolding write_of ram_after_write
store-answered c m va n v =
    ap₂ (λ a (l : List ℕ). outcome (storing a) l)
    (store-end _ _ m.base m.bytes va n
    ∙ ap (λ (p : Placed). (store_end p 0 m.base m.bytes va n).answer) (placed_by c m.base m.bytes va n Kind.Write))
    (ap (λ (p : Placed). store_ram_end p m.base m.bytes n v) (placed_by c m.base m.bytes va n Kind.Write))

-- ZEROING

-- eight bytes at a multiple of eight lie in one page
pub one-page : (on : Bool) (va : ℕ) → va % 8 ≡ 0 → crosses on va 8 ≡ false
one-page on va e = grind arith

pub next-aligned : (va : ℕ) → va % 8 ≡ 0 → wrap (va + 8) % 8 ≡ 0
next-aligned va e = grind arith

pub start-aligned : (x : ℕ) → align_down x 6 % 8 ≡ 0
start-aligned x = omega arith

-- so a store of them has one translation
abbrev pub store_given : Bare → Tlb → Ram → ℕ → Given
store_given b t m va = record { ask = translates Kind.Write va; answer = answer_of real (plain_in b) m (translates Kind.Write va) t }

pub one-given : (b : Bare) (t : Tlb) (m : Ram) (va : ℕ) → va % 8 ≡ 0
    → answers real (plain_in b) m (access_in b va 8 Kind.Write) t ≡ store_given b t m va ∷ []
one-given b t m va e = search rules

-- the store at va and n further ones
abbrev pub zero_outcome : ℕ → Core → Ram → ℕ → Outcome
zero_outcome n c m va =
    outcome (storing (zero_of (suc n) c m.base m.bytes va).answer) (zero_ram (suc n) c m.base m.bytes va)

-- their answers, in a core whose state without a cache is b and whose cache is t
abbrev pub zero_given : Bare → Tlb → Ram → List Ram → ℕ → List Given
zero_given b t m ms va = answers_run real (plain_in b) (zero_steps b m ms va) t

abbrev ZeroSaid : ℕ → Core → Ram → ℕ → Type 0
ZeroSaid n c m va =
    zero_outcome n c m va ≡ zero_says m (zero_later n c m va) va (zero_given (bare_of c) c.tlb m (zero_later n c m va) va)

-- the first of them
module _ (c : Core) (m : Ram) (va : ℕ) where
  abbrev pub store_ends : StoreAnswer
  store_ends = (write_of c m.base m.bytes va 8).answer

  abbrev pub core_then : Core
  core_then = (write_of c m.base m.bytes va 8).core

  abbrev pub tlb_then : Tlb
  tlb_then = tlb_asks real (plain_in (bare_of c)) m (access_in (bare_of c) va 8 Kind.Write) c.tlb

  -- what a zeroing of one store gives
  pub one-outcome : zero_outcome zero c m va ≡ outcome (storing store_ends) (ram_zeroed c m va).bytes
  unfolding zero_of zero_ram
  one-outcome = grind arith

  last-said : outcome (storing store_ends) (ram_zeroed c m va).bytes ≡ zero_says m [] va (access_given c m va 8 Kind.Write ++ [])
  last-said = store-answered c m va 8 0 ∙ ap (store_says m va 8 0) (sym (append-nil (access_given c m va 8 Kind.Write)))

  more-said : (n : ℕ) → va % 8 ≡ 0 → ZeroSaid n core_then (ram_zeroed c m va) (wrap (va + 8)) → ZeroSaid (suc n) c m va
  unfolding zero_of zero_ram
  more-said n al rest = search (rules, stored-bare, stored-tlb, one-given, store-answered)

pub zero-said : (n : ℕ) (c : Core) (m : Ram) (va : ℕ) → va % 8 ≡ 0 → ZeroSaid n c m va
zero-said zero c m va al = one-outcome c m va ∙ last-said c m va
zero-said (suc n) c m va al =
    more-said c m va n al
    (zero-said n (write_of c m.base m.bytes va 8).core (ram_zeroed c m va) (wrap (va + 8)) (next-aligned va al))

-- EVERY CALL

pub reply-is : (c : Core) (m : Ram) (x : Call)
    → outcome_of c m x
    ≡ says_in (bare_of c) m (later_in c m x) x (answers_run real (plain_in (bare_of c)) (events_in (bare_of c) m (later_in c m x) x) c.tlb)
unfolding step_of ram_after run_of ram_of sys_of sys_ram reg_of after_register_write translate_of stepped_now fetch_stepped_now data_pa_of fetch_pa_of fetch_of translate_in translate_fetch_in
reply-is c m x = search (rules, load-answered, append-nil, store-answered, fetch-end, zero-said)
