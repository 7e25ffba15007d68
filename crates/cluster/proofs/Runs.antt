-- After every list of calls the four cores are what their machines' runs make of them, and none has a mark.
use Rattle.std.specs.Prelude.{if◌then◌else◌, ◌≡◌, refl, ◌||◌, ℕ, zero, suc, ◌<◌, ◌==◌, Bool, true, false, List, [], ◌∷◌, nat_lt, length, Option, Some, None}
use Rattle.std.proofs.Common.{sym, ap, ◌∙◌, arith, subst, eqb-true}
use Rattle.tlb.specs.declared.Inval.{Inval}
use Rattle.cpu.specs.Bare.{bare_of}
use Rattle.cpu.specs.Core.{fresh_core}
use Rattle.cpu.specs.Step.{step_of}
use Rattle.cpu.specs.declared.{Core.Core, call.Call.Call}
use Rattle.history.specs.Calls.{run}
use Rattle.history.specs.Instance.{real}
use Rattle.history.specs.SeenFrom.{makes, hears, neither, part_of, core_then, cores_after, heard as heard_by}
use Rattle.history.specs.Window.{Ram}
use Rattle.transparency.specs.Events.{plain_in}
use Rattle.transparency.specs.Machine.{machine}
use Rattle.cluster.specs.Cluster.{core_in, unmarked, told, heard, four_after, Turn, cluster_run, cluster_after, fresh_cluster}
use Rattle.cluster.specs.Machines.{sharing, core_machine, fresh_cores, numbered, lents}
use Rattle.cluster.specs.Shared.{shared_in}
use Rattle.cluster.proofs.Four.{made_of, above-same, after-quiet}
use Rattle.cluster.proofs.Share.{inval-unmarked}

-- four cores, none with a mark
pub record Quiet (cs : List Core) : Type 0 where
  pub long : length cs ≡ 4
  pub quiet : (i : ℕ) → (core_in cs i).tlb.broadcast ≡ None

pub fresh-quiet : Quiet fresh_cluster
unfolding fresh_core
fresh-quiet = record { long = refl; quiet = go }
  where
    go : (i : ℕ) → (core_in fresh_cluster i).tlb.broadcast ≡ None
    go zero = refl
    go (suc zero) = refl
    go (suc (suc zero)) = refl
    go (suc (suc (suc zero))) = refl
    go (suc (suc (suc (suc i)))) = refl

-- no core is above 3
pub past-last : (cs : List Core) (i : ℕ) → length cs ≡ 4 → core_in cs (suc (suc (suc (suc i)))) ≡ fresh_core
past-last (a ∷ b ∷ c ∷ d ∷ []) i l = refl
past-last [] i l = absurd (omega arith)
past-last (a ∷ []) i l = absurd (omega arith)
past-last (a ∷ b ∷ []) i l = absurd (omega arith)
past-last (a ∷ b ∷ c ∷ []) i l = absurd (omega arith)
past-last (a ∷ b ∷ c ∷ d ∷ e ∷ cs) i l = absurd (omega arith)

pub low-four : (n : ℕ) → nat_lt 3 n ≡ false → n < 4
low-four n e = grind arith

-- MARKS

told-quiet : (v : Inval) (c : Core) → c.tlb.broadcast ≡ None → (told v c).tlb.broadcast ≡ None
told-quiet v c q = inval-unmarked (plain_in (bare_of c)) c.tlb q v

module _ (cs : List Core) (n : ℕ) (d : Core) (v : Option Inval) (q : (i : ℕ) → (core_in cs i).tlb.broadcast ≡ None) where
  slot-quiet : (t : Bool) (o : Option Inval) (c : Core) → c.tlb.broadcast ≡ None → (if t then unmarked d else heard o c).tlb.broadcast ≡ None
  slot-quiet true o c e = refl
  slot-quiet false None c e = e
  slot-quiet false (Some w) c e = told-quiet w c e

  pub made-quiet : Quiet (made_of cs n d v)
  unfolding fresh_core
  made-quiet = record { long = refl; quiet = go }
    where
      go : (i : ℕ) → (core_in (made_of cs n d v) i).tlb.broadcast ≡ None
      go zero = slot-quiet (0 == n) v (core_in cs 0) (q 0)
      go (suc zero) = slot-quiet (1 == n) v (core_in cs 1) (q 1)
      go (suc (suc zero)) = slot-quiet (2 == n) v (core_in cs 2) (q 2)
      go (suc (suc (suc zero))) = slot-quiet (3 == n) v (core_in cs 3) (q 3)
      go (suc (suc (suc (suc i)))) = refl

-- A CALL on quiet cores

module _ (cs : List Core) (s : Quiet cs) (n base : ℕ) (ram : List ℕ) (x : Call) where
  abbrev m : Ram
  m = record { base = base; bytes = ram }

  abbrev c : Core
  c = core_in cs n

  abbrev d : Core
  d = (step_of c base ram x).core

  abbrev v : Option Inval
  v = shared_in (bare_of c) m x

  abbrev machine_after : ℕ → Core
  machine_after = cores_after real machine sharing (core_in cs) m (numbered n x)

  pub quiet-then : Quiet (four_after cs n base ram x)
  quiet-then = go (nat_lt 3 n) refl
    where
      go : (t : Bool) → nat_lt 3 n ≡ t → Quiet (four_after cs n base ram x)
      go true e = subst Quiet (sym (above-same cs n base ram x e)) s
      go false e = subst Quiet (sym (after-quiet cs n base ram x s.long e (low-four n e) (s.quiet n))) (made-quiet cs n d v s.quiet)

  heard-same : (o : Option Inval) (b : Core) → heard o b ≡ heard_by real machine sharing o b
  heard-same None b = refl
  heard-same (Some w) b = refl

  -- core i, by whether it is the caller
  slot-same : (i : ℕ) (t : Bool) → (i == n) ≡ t
      → (if t then unmarked d else heard v (core_in cs i)) ≡ core_then real machine sharing (if t then makes else hears) (core_in cs i) m x v
  slot-same i true e = ap (λ j. unmarked (step_of (core_in cs j) base ram x).core) (sym (eqb-true i n e))
  slot-same i false e = heard-same v (core_in cs i)

  past-neither : (i : ℕ) → part_of (suc (suc (suc (suc i)))) n ≡ neither
  past-neither i = grind arith

  low-then : nat_lt 3 n ≡ false → (i : ℕ) → core_in (made_of cs n d v) i ≡ machine_after i
  low-then e zero = slot-same 0 (0 == n) refl ∙ ap (λ t. core_then real machine sharing (if t || false then neither else if 0 == n then makes else hears) (core_in cs 0) m x v) (sym e)
  low-then e (suc zero) = slot-same 1 (1 == n) refl ∙ ap (λ t. core_then real machine sharing (if t || false then neither else if 1 == n then makes else hears) (core_in cs 1) m x v) (sym e)
  low-then e (suc (suc zero)) = slot-same 2 (2 == n) refl ∙ ap (λ t. core_then real machine sharing (if t || false then neither else if 2 == n then makes else hears) (core_in cs 2) m x v) (sym e)
  low-then e (suc (suc (suc zero))) = slot-same 3 (3 == n) refl ∙ ap (λ t. core_then real machine sharing (if t || false then neither else if 3 == n then makes else hears) (core_in cs 3) m x v) (sym e)
  low-then e (suc (suc (suc (suc i)))) =
      sym (past-last cs i s.long) ∙ ap (λ p. core_then real machine sharing p (core_in cs (suc (suc (suc (suc i))))) m x v) (sym (past-neither i))

  pub same-then : (i : ℕ) → core_in (four_after cs n base ram x) i ≡ machine_after i
  same-then i = go (nat_lt 3 n) refl
    where
      go : (t : Bool) → nat_lt 3 n ≡ t → core_in (four_after cs n base ram x) i ≡ machine_after i
      go true e =
          ap (λ ds. core_in ds i) (above-same cs n base ram x e)
          ∙ ap (λ t. core_then real machine sharing (if t || nat_lt 3 i then neither else if i == n then makes else hears) (core_in cs i) m x v) (sym e)
      go false e =
          ap (λ ds. core_in ds i) (after-quiet cs n base ram x s.long e (low-four n e) (s.quiet n)) ∙ low-then e i

-- A LIST

pub quiet-run : (l : List Turn) (cs : List Core) → Quiet cs → Quiet (cluster_run cs l)
quiet-run [] cs s = s
quiet-run (t ∷ l) cs s =
    quiet-run l (four_after cs t.number t.ram.base t.ram.bytes t.call) (quiet-then cs s t.number t.ram.base t.ram.bytes t.call)

pub same-run : (k : ℕ) (l : List Turn) (cs : List Core) → Quiet cs
    → ◌≡◌ {A = ℕ → Core} (core_in (cluster_run cs l)) (run real (core_machine k) (core_in cs) (lents k l))
same-run k [] cs s = refl
same-run k (t ∷ l) cs s =
    same-run k l (four_after cs t.number t.ram.base t.ram.bytes t.call) (quiet-then cs s t.number t.ram.base t.ram.bytes t.call)
    ∙ ap (λ (f : ℕ → Core). run real (core_machine k) f (lents k l)) (λ j i. same-then cs s t.number t.ram.base t.ram.bytes t.call i j)

pub fresh-each : ◌≡◌ {A = ℕ → Core} (core_in fresh_cluster) fresh_cores
fresh-each = λ j i. go i j
  where
    go : (i : ℕ) → core_in fresh_cluster i ≡ fresh_core
    go zero = refl
    go (suc zero) = refl
    go (suc (suc zero)) = refl
    go (suc (suc (suc zero))) = refl
    go (suc (suc (suc (suc i)))) = refl

pub quiet-after : (l : List Turn) → Quiet (cluster_after l)
quiet-after l = quiet-run l fresh_cluster fresh-quiet

pub same-after : (k : ℕ) (l : List Turn) → ◌≡◌ {A = ℕ → Core} (core_in (cluster_after l)) (run real (core_machine k) fresh_cores (lents k l))
same-after k l = same-run k l fresh_cluster fresh-quiet ∙ ap (λ (f : ℕ → Core). run real (core_machine k) f (lents k l)) fresh-each
