-- What a call makes of the four cores, said of each.
use Rattle.std.specs.Prelude.{if◌then◌else◌, ◌≡◌, refl, ℕ, zero, suc, ◌≤◌, ◌==◌, Bool, true, false, List, nat_lt, length, Option, None}
use Rattle.std.proofs.Common.{sym, ap, ◌∙◌, arith}
use Rattle.std.proofs.lemmas.Bool.{eq-eqb}
use borrow.Author.Tests.{ne_eqb}
use Rattle.tlb.specs.declared.Inval.{Inval}
use Rattle.system.specs.Tlbi.{reaches_others}
use Rattle.system.specs.declared.decode.Encoding.{Encoding}
use Rattle.system.specs.declared.decode.SysOp.{SysOp}
use Rattle.system.specs.declared.decode.SysOp.TheVariants as Op
use Rattle.cpu.specs.Bare.{Bare, bare_of}
use Rattle.cpu.specs.Check.{refuses}
use Rattle.cpu.specs.Step.{step_of}
use Rattle.cpu.specs.declared.{Core.Core, call.Call.Call}
use Rattle.cpu.specs.declared.call.Call.TheVariants.{System}
use Rattle.history.specs.Window.{Ram}
use Rattle.transparency.specs.Bare.{Ruling, allowed, number, undefined, unimplemented, op_in, ruling_in, if_allowed}
use Rattle.cluster.specs.Cluster.{core_in, unmarked, told, heard}
use Rattle.cluster.specs.Shared.{shared_op, shared_in}
use Rattle.cluster.specs.Laws.{pending, core_made, cores_then, done}
use Rattle.cluster.specs.Laws as Statement
use Rattle.cluster.proofs.Four.{made_of, above-same, after-made, after-quiet, refused-cores, handed-made}
use Rattle.cluster.proofs.Runs.{past-last, low-four, quiet-after}
use Rattle.cluster.proofs.Share.{own-share}

pub eight-first : Statement.eight_first
eight-first cs n m x w h = let e : nat_lt 3 n ≡ true = grind arith in (rw e, rw e, rw e, rw e)

pub left-as-shared : Statement.left_as_shared
left-as-shared c m x q = own-share c m x q

-- a TLBI that is not Inner Shareable
op-local : (b : Bare) (e : Encoding) (o : SysOp) → reaches_others e.crm ≡ false → shared_op o b e ≡ None
op-local b e Op.Tlbi h = rw h
op-local b e Op.Zva h = refl
op-local b e (Op.At form) h = refl
op-local b e Op.Nothing h = refl
op-local b e Op.Undefined h = refl
op-local b e Op.Unimplemented h = refl

ruled-local : (r : Ruling) (o : Option Inval) → o ≡ None → if_allowed r o None ≡ None
ruled-local allowed o e = e
ruled-local (number n) o e = refl
ruled-local undefined o e = refl
ruled-local unimplemented o e = refl

pub local-tlbi : Statement.local_tlbi
local-tlbi b m e h = ruled-local (ruling_in b m (System e)) (shared_op (op_in b e) b e) (op-local b e (op_in b e) (ne_eqb e.crm 3 h))

pub never-pending : Statement.never_pending
never-pending list i = (quiet-after list).quiet i

-- core i of those of which n became d, and the others heard v
module _ (cs : List Core) (n : ℕ) (d : Core) (v : Option Inval) where
  slot : (i : ℕ) → i ≤ 3 → core_in (made_of cs n d v) i ≡ (if i == n then unmarked d else heard v (core_in cs i))
  slot zero h = refl
  slot (suc zero) h = refl
  slot (suc (suc zero)) h = refl
  slot (suc (suc (suc zero))) h = refl
  slot (suc (suc (suc (suc i)))) h = absurd (omega arith)

  slot-own : n ≤ 3 → core_in (made_of cs n d v) n ≡ unmarked d
  slot-own h = slot n h ∙ ap (λ t. if t then unmarked d else heard v (core_in cs n)) (eq-eqb n n refl)

  slot-other : (i : ℕ) → i ≤ 3 → (i ≡ n → ⊥) → core_in (made_of cs n d v) i ≡ heard v (core_in cs i)
  slot-other i h ne = slot i h ∙ ap (λ t. if t then unmarked d else heard v (core_in cs i)) (ne_eqb i n ne)

low-test : (n : ℕ) → n ≤ 3 → nat_lt 3 n ≡ false
low-test n h = grind arith

module _ (cs : List Core) (n : ℕ) (m : Ram) (x : Call) where
  abbrev d : Core
  d = core_made (core_in cs n) m x

  not-refused : nat_lt 3 n ≡ false → done cs n m x → refuses (step_of (core_in cs n) m.base m.bytes x).reply ≡ false
  not-refused low e = grind arith

  made : length cs ≡ 4 → n ≤ 3 → done cs n m x → cores_then cs n m x ≡ made_of cs n d (pending d)
  made l h e = after-made cs n m.base m.bytes x l (low-test n h) (omega arith) (not-refused (low-test n h) e)

  pub caller-same : Statement.CallerSame cs n m x
  caller-same l h e = ap (λ ds. core_in ds n) (made l h e) ∙ slot-own cs n d (pending d) h

  pub caller-cleared : Statement.CallerCleared cs n m x
  caller-cleared l h e = ap pending (caller-same l h e)

  pub refused-same : Statement.RefusedSame cs n m x
  refused-same ne = go (nat_lt 3 n) refl (refuses (step_of (core_in cs n) m.base m.bytes x).reply) refl
    where
      go : (t : Bool) → nat_lt 3 n ≡ t → (r : Bool) → refuses (step_of (core_in cs n) m.base m.bytes x).reply ≡ r → cores_then cs n m x ≡ cs
      go true e r s = above-same cs n m.base m.bytes x e
      go false e true s = refused-cores cs n m.base m.bytes x s
      go false e false s = absurd (ne (grind arith))

  pub others-hear : Statement.OthersHear cs n m x
  others-hear i what l h e low ne q =
      let t : core_in (cores_then cs n m x) i ≡ told what (core_in cs i) =
      ap (λ ds. core_in ds i) (made l h e) ∙ slot-other cs n d (pending d) i low ne ∙ ap (λ v. heard v (core_in cs i)) q in
      (ap bare_of t, ap (λ (c : Core). c.tlb) t, ap (λ (c : Core). c.last_pa) t, ap (λ (c : Core). c.abort_pa) t)

  module _ (l : length cs ≡ 4) (q : pending (core_in cs n) ≡ None) (s : shared_in (bare_of (core_in cs n)) m x ≡ None) where
    made-alone : nat_lt 3 n ≡ false → cores_then cs n m x ≡ made_of cs n d None
    made-alone low = after-quiet cs n m.base m.bytes x l low (low-four n low) q ∙ ap (made_of cs n d) s

    stays : (i : ℕ) → (i ≡ n → ⊥) → (t : Bool) → nat_lt 3 n ≡ t → core_in (cores_then cs n m x) i ≡ core_in cs i
    stays i ne true e = ap (λ ds. core_in ds i) (above-same cs n m.base m.bytes x e)
    stays zero ne false e = ap (λ ds. core_in ds 0) (made-alone e) ∙ slot-other cs n d None 0 (omega arith) ne
    stays (suc zero) ne false e = ap (λ ds. core_in ds 1) (made-alone e) ∙ slot-other cs n d None 1 (omega arith) ne
    stays (suc (suc zero)) ne false e = ap (λ ds. core_in ds 2) (made-alone e) ∙ slot-other cs n d None 2 (omega arith) ne
    stays (suc (suc (suc zero))) ne false e = ap (λ ds. core_in ds 3) (made-alone e) ∙ slot-other cs n d None 3 (omega arith) ne
    stays (suc (suc (suc (suc i)))) ne false e =
        ap (λ ds. core_in ds (suc (suc (suc (suc i))))) (made-alone e) ∙ sym (past-last cs i l)

  pub others-stay : Statement.OthersStay cs n m x
  others-stay i l q s ne = stays l q s i ne (nat_lt 3 n) refl

  pub caller-alone : Statement.CallerAlone cs n m x
  caller-alone l h q s =
      made-alone l q s (low-test n h)
      ∙ sym (handed-made cs n d None l (omega arith) (own-share (core_in cs n) m x q ∙ s))
