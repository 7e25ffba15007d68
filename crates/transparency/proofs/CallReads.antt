-- What a call reads: the walks of its events, and AT's own.
use Rattle.std.proofs.Common.{rules, arith}
use Rattle.std.specs.Prelude.{if◌then◌else◌, ◌≡◌, refl, Bool, true, false, List, [], ◌∷◌, ℕ, ◌+◌, ◌*◌, ◌≤◌, length, Option, Ok, Err}
use Rattle.word.specs.Bits.{align_down, wrap}
use Rattle.word.specs.Ram.{width_of}
use Rattle.word.specs.declared.ram.Width.{Width}
use Prim.Native.Nat.{zero-le}
use Rattle.walk.specs.Regime.{bank_of}
use Rattle.tlb.specs.Answers.{Answer}
use Rattle.tlb.specs.Asks.{Ask, translates, fetches, address_of, onward}
use Rattle.tlb.specs.Live.{Each, done, more}
use Rattle.tlb.specs.Model.{Model}
use Rattle.tlb.specs.Translate.{no_work}
use Rattle.tlb.specs.declared.access.Kind.{Kind}
use Rattle.tlb.specs.declared.{Tlb.Tlb, work.Work.Work}
use Rattle.system.specs.declared.{decode.SysOp.SysOp}
use Rattle.system.specs.declared.decode.SysOp.TheVariants as Op
use Rattle.system.specs.declared.decode.Encoding.{Encoding}
use Rattle.cpu.specs.Bare.{Bare}
use Rattle.cpu.specs.declared.Core.{Core}
use Rattle.cpu.specs.declared.call.Call.{Call}
use Rattle.cpu.specs.declared.call.Call.TheVariants.{Translate, DataPa, FetchPa, Load, Store, Fetch, System}
use Rattle.history.specs.History.{Event, steps}
use Rattle.history.specs.World.{Plain, regime_now, untag_now}
use Rattle.history.specs.Instance.{Ram, real}
use Rattle.history.specs.ModelRun.{model_ask, model_event}
use Rattle.history.specs.Tallies.{Made, by_walk, reads_of, how_asked, made, made_in, made_run}
use Rattle.history.proofs.Works.{works_run, reads-append, Adds, adds-small, adds-none, then-adds, run-adds}
use Rattle.cpu.proofs.ReadLaws.{walk-few, fresh-few}
use Rattle.transparency.proofs.CallWork.{own_walked, step-did}
use Rattle.transparency.specs.Reads as Statement
use Rattle.transparency.specs.Reads.{reads_on, op_reads, own_reads, Reads}
use Rattle.transparency.specs.Beside.{EveryCall}
use Rattle.transparency.proofs.Beside.{two-cores}
use Rattle.transparency.proofs.ModelCalls.{low-now, every-list-modelled}
use Rattle.history.proofs.Instance.{real-laws}
use Rattle.transparency.specs.Bare.{Ruling, allowed, op_in, operand_in, ruling_in, if_allowed}
use Rattle.transparency.specs.Claim.{access_in, sized_in}
use Rattle.transparency.specs.Events.{plain_in, asking, idle, zero_steps, sys_steps, steps_in, events_in}
use Rattle.transparency.specs.Starts.{later_in}

-- EACH TRANSLATION MADE
module _ (c : Plain real) (m : Ram) where
  -- the descriptors that its walk fetches
  abbrev walk_reads : Ask → ℕ
  walk_reads a = real.reads c.regs m (regime_now real c) (untag_now real c (address_of a))

  one-reads : (a : Ask) (u : Model) → Reads c m (made real c m a u)
  one-reads a u = record { walked = λ w. rw w refl; answered = λ w. rw w refl }

  pub each-reads : (l : List Ask) (u : Model) → Each (Reads c m) (made_in real c m l u)
  each-reads [] u = done
  each-reads (a ∷ l) u = more (one-reads a u) (go (model_ask real c m a u).answer (each-reads l (model_ask real c m a u).after))
    where
      go : (x : Answer) → Each (Reads c m) (made_in real c m l (model_ask real c m a u).after)
          → Each (Reads c m) (onward x (made_in real c m l (model_ask real c m a u).after) [])
      go (Ok pa) rest = rest
      go (Err f) rest = done

  few-made : (l : List Ask) (u : Model) → reads_of (made_in real c m l u) ≤ 4 * length l
  few-made [] u = zero-le
  few-made (a ∷ l) u =
      go (by_walk (how_asked real c m a u)) (model_ask real c m a u).answer (walk-few (bank_of c.regs (regime_now real c)) _ _ _) (few-made l _)
    where
      rest : List Made
      rest = made_in real c m l (model_ask real c m a u).after

      go : (b : Bool) (x : Answer) → walk_reads a ≤ 4 → reads_of rest ≤ 4 * length l
          → (if b then walk_reads a else 0) + reads_of (onward x rest []) ≤ 4 * length (a ∷ l)
      go true (Ok pa) one few = omega (arith, one, few)
      go false (Ok pa) one few = omega (arith, one, few)
      go true (Err f) one few = omega (arith, one)
      go false (Err f) one few = omega arith

-- A CALL'S TRANSLATIONS are two at most in each of its steps, and it has eight steps at most

few-later : (c : Core) (m : Ram) (x : Call) → length (later_in c m x) ≤ 7
few-later c m x = grind arith

module _ (b : Bare) where
  abbrev Few : List (Event real) → Model → ℕ → Type 0
  Few es u n = reads_of (made_run real (plain_in b) es u) ≤ n

  one-few : (m : Ram) (l : List Ask) (u : Model) → length l ≤ 2 → Few (steps m (asking l) ∷ []) u 64
  one-few m l u two = grind (arith, reads-append, few-made)

  two-pages : (va n : ℕ) (kind : Kind) → length (access_in b va n kind) ≤ 2
  two-pages va n kind = grind arith

  sized-few : (m : Ram) (va : ℕ) (s : Option Width) (kind : Kind) (u : Model) → Few (steps m (asking (sized_in b va s kind)) ∷ []) u 64
  sized-few m va s kind u = grind (arith, one-few)

  zero-few : (m : Ram) (ms : List Ram) (va : ℕ) (u : Model) → Few (zero_steps b m ms va) u (8 * length (m ∷ ms))
  zero-few m [] va u = search (rules, walk-few)
  zero-few m (n ∷ ms) va u =
      let next = model_event real (steps m (asking (access_in b va 8 Kind.Write))) (plain_in b) u in
      let split = reads-append (made_in real (plain_in b) m (access_in b va 8 Kind.Write) u)
      (made_run real (plain_in b) (zero_steps b n ms (wrap (va + 8))) next) in
      let few = few-made (plain_in b) m (access_in b va 8 Kind.Write) u in
      let two = two-pages va 8 Kind.Write in
      let rest = zero-few n ms (wrap (va + 8)) next in
      omega (arith, split, few, two, rest)

  few-events : (m : Ram) (ms : List Ram) (x : Call) (u : Model) → length ms ≤ 7 → Few (events_in b m ms x) u 64
  few-events m ms x u seven = by_ruling (ruling_in b m x)
    where
      by_op : (o : SysOp) (e : Encoding) → Few (sys_steps o b m ms e) u 64
      by_op Op.Zva e = let few = zero-few m ms (align_down (operand_in b e) 6) u in omega (arith, few, seven)
      by_op _ e = zero-le

      by_call : (y : Call) → Few (steps_in b m ms y) u 64
      by_call (Translate kind va) = one-few m (translates kind va ∷ []) u (omega arith)
      by_call (DataPa va) = one-few m (translates Kind.Read va ∷ []) u (omega arith)
      by_call (FetchPa va) = one-few m (fetches va ∷ []) u (omega arith)
      by_call (Load va size) = sized-few m va (width_of size) Kind.Read u
      by_call (Store va size value) = sized-few m va (width_of size) Kind.Write u
      by_call (Fetch va) = one-few m (fetches va ∷ []) u (omega arith)
      by_call (System e) = by_op (op_in b e) e
      by_call _ = zero-le

      by_ruling : (r : Ruling) → Few (if_allowed r (steps_in b m ms x) (steps m idle ∷ [])) u 64
      by_ruling allowed = by_call x
      by_ruling _ = zero-le

-- EVERY CALL

-- of a step's events s, where it is not refused: what their translations read, and its own walk, and no sum wraps
module _ (b : Bare) (m : Ram) (x : Call) (s : List (Event real)) (t : Tlb) (u : Model) where
  abbrev ruled : Ruling → List (Event real)
  ruled r = if_allowed r s (steps m idle ∷ [])

  abbrev worked : Ruling → Work
  worked r = works_run real (plain_in b) (ruled r) t no_work

  abbrev total : Ruling → ℕ
  total r = reads_of (made_run real (plain_in b) (ruled r) u)

  sum-reads : (r : Ruling) → Adds (worked r) no_work (total r) → total r ≤ 64
      → (if_allowed r (own_walked b m x (worked r)) no_work).reads ≡ total r + if_allowed r (own_reads b m x) 0
  sum-reads r h1 h2 = grind (arith, then-adds, adds-none, adds-small, fresh-few)

pub call-reads : EveryCall Statement.call_reads
call-reads list m x =
    search (rules, works_run, two-cores, step-did, sum-reads, run-adds, real-laws, low-now, every-list-modelled, few-events, few-later)

pub at-reads : Statement.at_reads
at-reads c m e form passed named = grind (arith, step-did, fresh-few)

pub refused-reads : Statement.refused_reads
refused-reads list m x refused = grind (arith, call-reads)

pub quiet-reads : Statement.quiet_reads
quiet-reads list m x quiet no-at = grind (arith, call-reads)
