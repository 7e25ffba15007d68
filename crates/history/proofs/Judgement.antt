-- Where every answer comes from is what the manual's permission check judges it on; and its fault is a row of the table.
use Rattle.std.proofs.Common.{rules, sym, ap, subst, ◌∙◌, arith}
use Rattle.std.specs.Prelude.{◌≡◌, Bool, true, false, not, List, ◌⊎◌, ℕ, ◌+◌, ◌^◌, Ok, Err, Option}
use Rattle.fault.specs.First.{first}
use Rattle.fault.specs.declared.Fault.{Fault}
use Rattle.walk.specs.Regime.{wxn_of, bank_of}
use Rattle.sysreg.specs.Regs.{single_priv}
use Rattle.walk.specs.Table.{Fault as WalkFault, status_of, Translation, Result, mapped, faults, table_walk}
use Rattle.walk.specs.Permission.{kind_bit, first_bit}
use Rattle.walk.proofs.Levels.{permission-bit}
use Rattle.walk.specs.Walk.{leaf_of, walked_of, walk_of}
use Rattle.walk.proofs.WalkBounds.{table-walk-sound}
use Rattle.walk.specs.declared.{regime.Bank.Bank, level.Leaf.Leaf}
use Rattle.sysreg.specs.declared.regs.Regime.{Regime}
use Rattle.tlb.specs.Live.{Each}
use Rattle.tlb.specs.Model.{need}
use Rattle.tlb.specs.Asks.{Ask, kind_of, address_of}
use Rattle.tlb.specs.declared.{access.Kind.Kind}
use Rattle.tlb.specs.Answers.{Answer}
use Rattle.tlb.specs.Translate.{leaf_answer}
use Rattle.history.specs.World.{covers, Plain, regime_now, on_now, untag_now, page_now, uncached}
use Rattle.history.specs.History.{Event}
use Rattle.history.specs.Instance.{Ram, memory_of, real, fresh_plain}
use Rattle.history.specs.Origin.{From, flat, fails, walks}
use Rattle.history.specs.Judgement.{access_for, user_now, checked, now, regime, Judged, itself, faulted, allowing, Row}

-- A WALK is the manual's

walked-leaf : (singlepriv wxn : Bool) (r : Result) (ℓ : Leaf) → walked_of singlepriv wxn r ≡ Ok ℓ
    → (t : Translation) × (r ≡ mapped t) × (leaf_of singlepriv wxn t ≡ ℓ)
walked-leaf singlepriv wxn r ℓ h1 = grind arith

walked-fault : (singlepriv wxn : Bool) (r : Result) (code : ℕ) → walked_of singlepriv wxn r ≡ Err code
    → (f : WalkFault) × (r ≡ faults f) × (code ≡ status_of f)
walked-fault singlepriv wxn r code h1 = grind arith

pub manual-leaf : (s : Bank) (r : Regime) (va : ℕ) (memory : ℕ → Option ℕ) (ℓ : Leaf) → walk_of s r va memory ≡ Ok ℓ
    → (t : Translation) × (table_walk s r va memory ≡ mapped t) × (leaf_of (single_priv r) (wxn_of s) t ≡ ℓ)
unfolding walk_of
manual-leaf s r va memory ℓ e = walked-leaf (single_priv r) (wxn_of s) (table_walk s r va memory) ℓ e

pub manual-fault : (s : Bank) (r : Regime) (va : ℕ) (memory : ℕ → Option ℕ) (code : ℕ) → walk_of s r va memory ≡ Err code
    → (f : WalkFault) × (table_walk s r va memory ≡ faults f) × (code ≡ status_of f)
unfolding walk_of
manual-fault s r va memory code e = walked-fault (single_priv r) (wxn_of s) (table_walk s r va memory) code e

-- the bit that an access needs is that of the check
need-bit : (k : Kind) (user : Bool) → need k user ≡ 2 ^ (kind_bit (access_for k) + first_bit (not user))
need-bit k user = grind arith

pub leaf-checked : (s : Bank) (r : Regime) (t : Translation) (k : Kind) (user : Bool) (va : ℕ)
    → leaf_answer (leaf_of (single_priv r) (wxn_of s) t) (need k user) va ≡ checked s r user k t va
leaf-checked s r t k user va = grind (arith, need-bit, permission-bit)

-- EVERY TRANSLATION

module _ (past : List (Event real)) (m : Ram) (a : Ask) where
  -- a leaf is global where nG is clear
  global-or : (P : Type 0) (t : Translation) → (not t.not_global ≡ true) ⊎ P → (t.not_global ≡ false) ⊎ P
  global-or P t h1 = grind arith

  pub judged-from : (x : Answer) → From real fresh_plain past m a x → Judged past m a x
  judged-from x (flat o e) = itself o e
  judged-from x (fails code o f e) = let (g, h, q) = manual-fault _ _ _ _ code f in faulted g o h (e ∙ ap (λ (n : ℕ). Err (first n)) q)
  judged-from x (walks R m' vs at ℓ o leaf d us e) =
      let (t, h, q) = manual-leaf _ _ _ _ ℓ leaf in
      allowing R m' vs at t o h
      (global-or _ t (subst (λ (l : Leaf). (l.global ≡ true) ⊎ (real.asid R ≡ real.asid (now past m).regs)) (sym q) d))
      (subst (λ (l : Leaf). Each (λ v. covers v (page_now real (now past m) (address_of a)) l (real.asid R) ≡ false) vs) (sym q) us)
      (e
      ∙ ap (λ (l : Leaf). leaf_answer l (need (kind_of a) (user_now (now past m) (kind_of a))) (address_of a)) (sym q)
      ∙ leaf-checked (bank_of R (regime past m)) (regime past m) t (kind_of a) (user_now (now past m) (kind_of a)) (address_of a))

-- STATUSES

pub status-row : (past : List (Event real)) (m : Ram) (a : Ask) (x : Fault) → Judged past m a (Err x) → Row x.fsc
status-row past m a x h1 = search (rules, table-walk-sound)

-- THE CORE WITHOUT A CACHE is judged by the walk of now

pub uncached-checked : (c : Plain real) (m : Ram) (k : Kind) (va : ℕ) (t : Translation) → on_now real c ≡ true
    → table_walk (bank_of c.regs (regime_now real c)) (regime_now real c) (untag_now real c va) (memory_of m) ≡ mapped t
    → uncached real c m k va ≡ checked (bank_of c.regs (regime_now real c)) (regime_now real c) (user_now c k) k t va
unfolding walk_of
uncached-checked c m k va t o e = rw (o, e) (leaf-checked (bank_of c.regs (regime_now real c)) (regime_now real c) t k (user_now c k) va)
