-- What the translations of a history did in a cache: they read the descriptors that the plain model's walks fetch.
use Rattle.std.specs.Prelude.{◌≡◌, List, [], ◌∷◌, ◌++◌, ℕ, ◌+◌, ◌%◌, ◌^◌, ◌≤◌, ◌<◌}
use Rattle.std.proofs.Common.{arith}
use Rattle.tlb.specs.Answers.{Answer}
use Rattle.tlb.specs.Asks.{Ask, translates, fetches, address_of, onward, work_of, works}
use Rattle.tlb.specs.Runs.{How, how_work}
use Rattle.tlb.specs.Live.{live, WellFormed}
use Rattle.tlb.specs.Model.{Model}
use Rattle.tlb.specs.declared.access.Kind.TheVariants.{Fetch}
use Rattle.tlb.specs.declared.{Tlb.Tlb, work.Work.Work}
use Rattle.tlb.proofs.Works.{translation-work, fetch-work}
use Rattle.history.specs.World.{World, Laws, Plain, regime_now, untag_now, access_of}
use Rattle.history.specs.History.{Event, steps, receives, after, tlb_ask, tlb_event}
use Rattle.history.specs.ModelRun.{model_ask, model_event, StandsFor}
use Rattle.history.specs.Tallies.{Made, read_by, reads_of, how_asked, made, made_in, made_run}
use Rattle.history.proofs.Lists.{event-low}
use Rattle.history.proofs.ModelLaws.{ask-follows, event-stands}

pub reads-append : (xs ys : List Made) → reads_of (xs ++ ys) ≡ reads_of xs + reads_of ys
reads-append [] ys = omega arith
reads-append (x ∷ xs) ys = let e = reads-append xs ys in omega (arith, e)

-- what is read before `more` is read too
abbrev pub Adds : Work → Work → ℕ → Type 0
Adds v before more = v.reads ≡ (before.reads + more) % 2 ^ 64

pub adds-small : (v before : Work) (more : ℕ) → Adds v before more → v.reads < 2 ^ 64
adds-small v before more e = grind arith

pub adds-none : (v : Work) → v.reads < 2 ^ 64 → Adds v v 0
adds-none v small = omega arith

pub then-adds : (v mid before : Work) (n more : ℕ) → Adds mid before n → Adds v mid more → Adds v before (n + more)
then-adds v mid before n more e f = omega arith

adds-work : (how : How) (n : ℕ) (v : Work) → v.reads < 2 ^ 64 → Adds (how_work how n v) v (read_by how n)
adds-work how n v h1 = grind arith

module _ (w : World) where
  -- what the steps of a history did, from v on
  abbrev pub works_run : Plain w → List (Event w) → Tlb → Work → Work
  works_run c [] t v = v
  works_run c (steps m s ∷ xs) t v =
      works_run (after w s.effect c) xs (tlb_event w (steps m s) c t) (works (access_of w c m) s.asks t v)
  works_run c (receives what ∷ xs) t v = works_run c xs (tlb_event w (receives what) c t) v

  module _ (laws : Laws w) where
    module _ (c : Plain w) (m : w.Ram) (low : c.privilege.level ≤ 3) where
      asked-work : (a : Ask) (t : Tlb) (v : Work) → WellFormed t
          → work_of (access_of w c m) a t v
          ≡ how_work (how_asked w c m a (live t)) (w.reads c.regs m (regime_now w c) (untag_now w c (address_of a))) v
      asked-work (translates k va) t v s = translation-work (access_of w c m k va) t s low v
      asked-work (fetches va) t v s = fetch-work (access_of w c m Fetch va) t s low v

      asked-adds : (a : Ask) (t : Tlb) (v : Work) → WellFormed t → v.reads < 2 ^ 64
          → Adds (work_of (access_of w c m) a t v) v (made w c m a (live t)).reads
      asked-adds a t v s small = rw (asked-work a t v s) (adds-work (how_asked w c m a (live t)) _ v small)

      abbrev did : Tlb → Work → Ask → Work
      did t v a = work_of (access_of w c m) a t v

      -- the first, and the rest of them where it does not fault
      more-add : (a : Ask) (l : List Ask) (t : Tlb) (v : Work) (x : Answer) → Adds (did t v a) v (made w c m a (live t)).reads
          → Adds (works (access_of w c m) l (tlb_ask w c m a t) (did t v a)) (did t v a) (reads_of (made_in w c m l (model_ask w c m a (live t)).after))
          → Adds (onward x (works (access_of w c m) l (tlb_ask w c m a t) (did t v a)) (did t v a)) v
          ((made w c m a (live t)).reads + reads_of (onward x (made_in w c m l (model_ask w c m a (live t)).after) []))
      more-add a l t v x h1 h2 = grind arith

      -- a step's translations, one after the other until one faults
      asks-add : (l : List Ask) (t : Tlb) (v : Work) → WellFormed t → v.reads < 2 ^ 64
          → Adds (works (access_of w c m) l t v) v (reads_of (made_in w c m l (live t)))
      asks-add [] t v s small = adds-none v small
      asks-add (a ∷ l) t v s small = let f = ask-follows w laws c m low a t s in let one = asked-adds a t v s small in grind (arith, asks-add l (tlb_ask w c m a t) (did t v a), adds-small, more-add)

    -- a history
    pub run-adds : (past : List (Event w)) (c : Plain w) {t : Tlb} {u : Model} (v : Work) → c.privilege.level ≤ 3 → StandsFor t u → v.reads < 2 ^ 64
        → Adds (works_run c past t v) v (reads_of (made_run w c past u))
    run-adds [] c v low r small = adds-none v small
    run-adds (steps m s ∷ xs) c {t} {u} v low r small =
        let one : Adds (works (access_of w c m) s.asks t v) v (reads_of (made_in w c m s.asks u)) =
        rw r.is at (asks-add c m low s.asks t v r.well small) in
        let rest = run-adds xs (after w s.effect c) (works (access_of w c m) s.asks t v) (event-low w (steps m s) c low)
        (event-stands w laws (steps m s) c low r) (adds-small _ v _ one) in
        rw (reads-append (made_in w c m s.asks u) (made_run w (after w s.effect c) xs (model_event w (steps m s) c u)))
        (then-adds _ (works (access_of w c m) s.asks t v) v _ _ one rest)
    run-adds (receives what ∷ xs) c v low r small = run-adds xs c v low (event-stands w laws (receives what) c low r) small
