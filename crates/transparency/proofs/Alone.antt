-- Where the answers to a call's translations are those of the core without a cache, so are its reply and RAM after it.
use Rattle.std.proofs.Common.{arith, rules, sym, ap, subst, ◌∙◌, append-nil}
use Rattle.std.specs.Prelude.{◌≡◌, refl, List, [], ◌∷◌, ◌++◌, ℕ, zero, suc, ◌+◌, ◌%◌, Option, Ok, Err}
use Rattle.word.specs.Bits.{align_down, wrap}
use Rattle.tlb.specs.Asks.{Ask, translates, Given}
use Rattle.tlb.specs.declared.access.Kind.TheVariants as Kind
use Rattle.tlb.specs.declared.Tlb.{Tlb}
use Rattle.system.specs.declared.decode.SysOp.{SysOp}
use Rattle.system.specs.declared.decode.SysOp.TheVariants as Op
use Rattle.cpu.specs.Bare.{Bare, bare_of}
use Rattle.cpu.specs.declared.Core.{Core}
use Rattle.system.specs.declared.decode.Encoding.{Encoding}
use Rattle.cpu.specs.declared.call.Call.{Call}
use Rattle.cpu.specs.Bytes.{StoreAnswer}
use Rattle.cpu.specs.System.{zero_of, zero_ram}
use Rattle.cpu.specs.Check.{storing}
use Rattle.history.specs.World.{uncached}
use Rattle.history.specs.History.{Event}
use Rattle.history.specs.Invisible.{answers_run, plain_answers, plain_answers_run}
use Rattle.history.specs.Instance.{Ram, window_of, real}
use Rattle.transparency.specs.Bare.{operand_in}
use Rattle.transparency.specs.Events.{plain_in, zero_steps, sys_steps, steps_in, events_in}
use Rattle.transparency.specs.Claim.{access_in, sized_in}
use Rattle.transparency.specs.Starts.{ram_zeroed, zero_later, sys_later, later_of, later_in}
use Rattle.transparency.specs.Steps.{on_done}
use Rattle.transparency.specs.Replies.{Outcome, outcome, outcome_of, load_by_size, bare_answers, bare_zero_one, bare_zero, bare_sys, bare_call}
use Rattle.transparency.specs.Replies.{bare_reply}
use Rattle.transparency.specs.Says.{sys_says, call_says}
use Rattle.transparency.proofs.Bridge.{stored-bare, stored-tlb}
use Rattle.transparency.proofs.Answered.{one-page, next-aligned, start-aligned, access_given, store-answered, zero_outcome, zero_given, store_ends}
use Rattle.transparency.proofs.Answered.{core_then, tlb_then, store_given, one-given, one-outcome, zero-said, reply-is}
use Rattle.word.specs.declared.ram.Width.{Width}

cons_tail : {g h : Given} {l k : List Given} → ◌≡◌ {A = List Given} (g ∷ l) (h ∷ k) → l ≡ k
cons_tail e = cc

-- the answers of the core without a cache are those of the theory
answers-alone : (b : Bare) (m : Ram) (l : List Ask) → plain_answers real (plain_in b) m l ≡ bare_answers b m l
answers-alone b m l = grind arith

-- ZEROING

-- those of the core without a cache
abbrev zero_plain : Bare → Ram → List Ram → ℕ → List Given
zero_plain b m ms va = plain_answers_run real (plain_in b) (zero_steps b m ms va)

module _ (c : Core) (m : Ram) (va : ℕ) (al : va % 8 ≡ 0) where
  abbrev plain_given : Given
  plain_given = record { ask = translates Kind.Write va; answer = uncached real (plain_in (bare_of c)) m Kind.Write va }

  first_plain : bare_answers (bare_of c) m (access_in (bare_of c) va 8 Kind.Write) ≡ plain_given ∷ []
  first_plain = search rules

  -- the first answers are equal, and so are the rest
  module _ (l k : List Given) (e : access_given c m va 8 Kind.Write ++ l ≡ plain_answers real (plain_in (bare_of c)) m (access_in (bare_of c) va 8 Kind.Write) ++ k) where
    both : ◌≡◌ {A = List Given} (store_given (bare_of c) c.tlb m va ∷ l) (plain_given ∷ k)
    both = ap (λ (x : List Given). x ++ l) (sym (one-given (bare_of c) c.tlb m va al)) ∙ e ∙ ap (λ (x : List Given). x ++ k) (answers-alone (bare_of c) m (access_in (bare_of c) va 8 Kind.Write) ∙ first_plain)

    rest-same : l ≡ k
    rest-same = cons_tail both

    one_same : outcome (storing (store_ends c m va)) (ram_zeroed c m va).bytes ≡ bare_zero_one (bare_of c) m va
    one_same = grind (arith, store-answered, one-given, one-page)

zero-alone : (n : ℕ) (c : Core) (m : Ram) (va : ℕ) → va % 8 ≡ 0
    → zero_given (bare_of c) c.tlb m (zero_later n c m va) va ≡ zero_plain (bare_of c) m (zero_later n c m va) va
    → zero_outcome n c m va ≡ bare_zero n (bare_of c) m va
unfolding zero_of zero_ram
zero-alone zero c m va al e = one-outcome c m va ∙ one_same c m va al [] [] e
zero-alone (suc n) c m va al e =
    go (store_ends c m va) refl
    (subst (Rest (bare_of c)) (stored-tlb c m va)
    (subst (λ (b : Bare). Rest b d.tlb) (stored-bare c m va) (λ h. zero-alone n d then next (next-aligned va al) h)))
  where
    next : ℕ
    next = wrap (va + 8)

    then : Ram
    then = ram_zeroed c m va

    d : Core
    d = core_then c m va

    -- the further stores, in a core whose state without a cache is b and whose cache is t
    Rest : Bare → Tlb → Type 0
    Rest b t =
        zero_given b t then (zero_later n d then next) next ≡ zero_plain b then (zero_later n d then next) next
        → zero_outcome n d then next ≡ bare_zero n b then next

    -- what follows the first store, by its outcome
    on : Outcome → Outcome
    on o = on_done o.reply (bare_zero n (bare_of c) (window_of m.base o.bytes) next) o

    go : (a : StoreAnswer) → store_ends c m va ≡ a → Rest (bare_of c) (tlb_then c m va) → zero_outcome (suc n) c m va ≡ bare_zero (suc n) (bare_of c) m va
    go (Ok x) q more =
        let h = rw q at e in
        let one : outcome (storing (Ok tt)) then.bytes ≡ bare_zero_one (bare_of c) m va = rw q at (one_same c m va al _ _ h) in
        let made : zero_outcome (suc n) c m va ≡ on (outcome (storing (Ok tt)) then.bytes) = rw q (more (rest-same c m va al _ _ h)) in
        made ∙ ap on one
    go (Err s) q more =
        let h = rw q at e in
        let one : outcome (storing (Err s)) then.bytes ≡ bare_zero_one (bare_of c) m va = rw q at (one_same c m va al _ _ h) in
        let made : zero_outcome (suc n) c m va ≡ on (outcome (storing (Err s)) then.bytes) = rw q refl in
        made ∙ ap on one

-- EVERY CALL

-- the answers of one access, as the run and the access alone list them
load-alone : (s : Option Width) (b : Bare) (m : Ram) (va : ℕ)
    → load_by_size s m va (plain_answers real (plain_in b) m (sized_in b va s Kind.Read) ++ []) ≡ load_by_size s m va (bare_answers b m (sized_in b va s Kind.Read))
load-alone s b m va = ap (load_by_size s m va) (append-nil (plain_answers real (plain_in b) m (sized_in b va s Kind.Read)) ∙ answers-alone b m (sized_in b va s Kind.Read))

module _ (c : Core) (m : Ram) where
  abbrev b : Bare
  b = bare_of c

  abbrev with-cache : List (Event real) → List Given
  with-cache es = answers_run real (plain_in b) es c.tlb

  abbrev without : List (Event real) → List Given
  without es = plain_answers_run real (plain_in b) es

  sys-alone : (o : SysOp) (e : Encoding)
      → with-cache (sys_steps o b m (sys_later o c m (operand_in b e)) e) ≡ without (sys_steps o b m (sys_later o c m (operand_in b e)) e)
      → sys_says o m (sys_later o c m (operand_in b e)) (operand_in b e) (with-cache (sys_steps o b m (sys_later o c m (operand_in b e)) e))
      ≡ bare_sys o b m (operand_in b e)
  sys-alone Op.Zva e h =
      sym (zero-said 7 c m (align_down (operand_in b e) 6) (start-aligned (operand_in b e)))
      ∙ zero-alone 7 c m (align_down (operand_in b e) 6) (start-aligned (operand_in b e)) h
  sys-alone (Op.At form) e h = refl
  sys-alone _ e h = refl

  call-alone : (x : Call) → with-cache (steps_in b m (later_of c m x) x) ≡ without (steps_in b m (later_of c m x) x)
      → call_says b m (later_of c m x) x (with-cache (steps_in b m (later_of c m x) x)) ≡ bare_call b m x
  call-alone x h1 = search (rules, load-alone, sys-alone)

  pub alone-same : (x : Call) → with-cache (events_in b m (later_in c m x) x) ≡ without (events_in b m (later_in c m x) x) → outcome_of c m x ≡ bare_reply b m x
  alone-same x h = search (rules, reply-is, call-alone)
