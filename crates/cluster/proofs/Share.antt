-- What a core with nothing pending leaves pending after a call is what the call shares.
use Rattle.std.specs.Prelude.{if◌then◌else◌, ◌≡◌, refl, Bool, true, false, ℕ, ◌+◌, List, [], ◌∷◌, leb, Option, Some, None}
use Rattle.std.proofs.Common.{sym, ap, ap₂, ◌∙◌}
use Rattle.word.specs.Bits.{wrap}
use Rattle.tlb.specs.Tlb.{invalidated_of, invalidate_of, broadcast_of, pending_after}
use Rattle.tlb.specs.declared.{access.Kind.Kind, access.Privilege.Privilege, Inval.Inval, Tlb.Tlb}
use Rattle.system.specs.Tlbi.{reaches_others}
use Rattle.system.specs.declared.decode.Encoding.{Encoding}
use Rattle.system.specs.declared.decode.SysOp.{SysOp}
use Rattle.system.specs.declared.decode.SysOp.TheVariants as Op
use Rattle.cpu.specs.Bare.{Bare, bare_of}
use Rattle.cpu.specs.Step.{step_of}
use Rattle.cpu.specs.declared.{Core.Core, call.Call.Call}
use Rattle.cpu.specs.declared.call.Call.TheVariants.{Translate, DataPa, FetchPa, Load, Store, Fetch, System, Register, Level, Mark, General, Abort}
use Rattle.cpu.specs.declared.call.Call.TheVariants.{Census, Windows, Flip}
use Rattle.history.specs.World.{Plain}
use Rattle.history.specs.History.{carries, Event, steps, tlb_run}
use Rattle.history.specs.Calls.{events_of}
use Rattle.history.specs.Delivered.{unpending, handed_on, all_delivered}
use Rattle.history.specs.Instance.{Ram, real}
use Rattle.history.proofs.Delivered.{inval-quiet, run-quiet}
use Rattle.transparency.specs.Bare.{Ruling, allowed, number, undefined, unimplemented, op_in, ruling_in, if_allowed}
use Rattle.transparency.specs.Claim.{access_in}
use Rattle.transparency.specs.Events.{set_by, does, asking, idle, zero_steps, sys_steps, steps_in, inval_in}
use Rattle.transparency.specs.Machine.{machine}
use Rattle.transparency.proofs.Bridge.{bridge}
use Rattle.cluster.specs.Shared.{shared_op, shared_call, shared_in}

some-none : {v : Inval} → ◌≡◌ {A = Option Inval} (Some v) None → ⊥
some-none e = cc

none-some : {v : Inval} → ◌≡◌ {A = Option Inval} None (Some v) → ⊥
none-some e = cc

some-same : {v w : Inval} → ◌≡◌ {A = Option Inval} (Some v) (Some w) → v ≡ w
some-same e = cc

-- A CALL THAT SHARES NOTHING leaves nothing pending: its steps are the same where all is handed on

set-quiet : (p : Privilege) (t : Bool) (e : leb p.level 3 ≡ t) → handed_on real (set_by p t e) ≡ set_by p t e
set-quiet p true e = refl
set-quiet p false e = refl

zero-quiet : (b : Bare) (m : Ram) (ms : List Ram) (va : ℕ) → all_delivered real (zero_steps b m ms va) ≡ zero_steps b m ms va
zero-quiet b m [] va = refl
zero-quiet b m (n ∷ ms) va =
    ap {B = List (Event real)} (λ l. steps m (asking (access_in b va 8 Kind.Write)) ∷ l) (zero-quiet b n ms (wrap (va + 8)))

module _ (b : Bare) (m : Ram) (ms : List Ram) where
  abbrev tlbi : Encoding → Bool → List (Event real)
  tlbi e s = steps m (does (carries (inval_in b e) s)) ∷ []

  tlbi-quiet : (e : Encoding) (s : Bool) → (if s then Some (inval_in b e) else None) ≡ None → all_delivered real (tlbi e s) ≡ tlbi e s
  tlbi-quiet e true h = absurd (some-none h)
  tlbi-quiet e false h = refl

  sys-quiet : (o : SysOp) (e : Encoding) → shared_op o b e ≡ None → all_delivered real (sys_steps o b m ms e) ≡ sys_steps o b m ms e
  sys-quiet Op.Tlbi e h = tlbi-quiet e (reaches_others e.crm) h
  sys-quiet Op.Zva e h = zero-quiet b m ms _
  sys-quiet (Op.At form) e h = refl
  sys-quiet Op.Nothing e h = refl
  sys-quiet Op.Undefined e h = refl
  sys-quiet Op.Unimplemented e h = refl

  setting-quiet : (p : Privilege) → all_delivered real (steps m (does (set_by p (leb p.level 3) refl)) ∷ []) ≡ steps m (does (set_by p (leb p.level 3) refl)) ∷ []
  setting-quiet p = ap {B = List (Event real)} (λ e. steps m (does e) ∷ []) (set-quiet p (leb p.level 3) refl)

  call-quiet : (x : Call) → shared_call b x ≡ None → all_delivered real (steps_in b m ms x) ≡ steps_in b m ms x
  call-quiet (System e) h = sys-quiet (op_in b e) e h
  call-quiet (Level level) h = setting-quiet (record { level = level; unprivileged = b.privilege.unprivileged })
  call-quiet (Mark mark) h = setting-quiet (record { level = b.privilege.level; unprivileged = mark })
  call-quiet (Register key value) h = refl
  call-quiet (Abort e) h = refl
  call-quiet (Translate kind va) h = refl
  call-quiet (DataPa va) h = refl
  call-quiet (FetchPa va) h = refl
  call-quiet (Load va size) h = refl
  call-quiet (Store va size value) h = refl
  call-quiet (Fetch va) h = refl
  call-quiet (General n value) h = refl
  call-quiet (Census first pages) h = refl
  call-quiet Windows h = refl
  call-quiet (Flip kind user va) h = refl

  abbrev ruled : Ruling → Call → List (Event real)
  ruled r x = if_allowed r (steps_in b m ms x) (steps m idle ∷ [])

  ruled-quiet : (r : Ruling) (x : Call) → if_allowed r (shared_call b x) None ≡ None → all_delivered real (ruled r x) ≡ ruled r x
  ruled-quiet allowed x h = call-quiet x h
  ruled-quiet (number n) x h = refl
  ruled-quiet undefined x h = refl
  ruled-quiet unimplemented x h = refl

  -- ONE THAT SHARES has one step, which carries that

  tlbi-shares : (e : Encoding) (s : Bool) (v : Inval) → (if s then Some (inval_in b e) else None) ≡ Some v → tlbi e s ≡ steps m (does (carries v true)) ∷ []
  tlbi-shares e true v h = ap {B = List (Event real)} (λ w. steps m (does (carries w true)) ∷ []) (some-same h)
  tlbi-shares e false v h = absurd (none-some h)

  sys-shares : (o : SysOp) (e : Encoding) (v : Inval) → shared_op o b e ≡ Some v → sys_steps o b m ms e ≡ steps m (does (carries v true)) ∷ []
  sys-shares Op.Tlbi e v h = tlbi-shares e (reaches_others e.crm) v h
  sys-shares Op.Zva e v h = absurd (none-some h)
  sys-shares (Op.At form) e v h = absurd (none-some h)
  sys-shares Op.Nothing e v h = absurd (none-some h)
  sys-shares Op.Undefined e v h = absurd (none-some h)
  sys-shares Op.Unimplemented e v h = absurd (none-some h)

  call-shares : (x : Call) (v : Inval) → shared_call b x ≡ Some v → steps_in b m ms x ≡ steps m (does (carries v true)) ∷ []
  call-shares (System e) v h = sys-shares (op_in b e) e v h
  call-shares (Level level) v h = absurd (none-some h)
  call-shares (Mark mark) v h = absurd (none-some h)
  call-shares (Register key value) v h = absurd (none-some h)
  call-shares (Abort e) v h = absurd (none-some h)
  call-shares (Translate kind va) v h = absurd (none-some h)
  call-shares (DataPa va) v h = absurd (none-some h)
  call-shares (FetchPa va) v h = absurd (none-some h)
  call-shares (Load va size) v h = absurd (none-some h)
  call-shares (Store va size value) v h = absurd (none-some h)
  call-shares (Fetch va) v h = absurd (none-some h)
  call-shares (General n value) v h = absurd (none-some h)
  call-shares (Census first pages) v h = absurd (none-some h)
  call-shares Windows v h = absurd (none-some h)
  call-shares (Flip kind user va) v h = absurd (none-some h)

  ruled-shares : (r : Ruling) (x : Call) (v : Inval) → if_allowed r (shared_call b x) None ≡ Some v → ruled r x ≡ steps m (does (carries v true)) ∷ []
  ruled-shares allowed x v h = call-shares x v h
  ruled-shares (number n) x v h = absurd (none-some h)
  ruled-shares undefined x v h = absurd (none-some h)
  ruled-shares unimplemented x v h = absurd (none-some h)

-- THE MARK

unmarked-tlb : (t : Tlb) → t.broadcast ≡ None → t ≡ unpending t
unmarked-tlb t e = λ i. record t { broadcast = e i }

module _ (p : Plain real) (t : Tlb) (q : t.broadcast ≡ None) where
  run-unmarked : (xs : List (Event real)) → all_delivered real xs ≡ xs → (tlb_run real p xs t).broadcast ≡ None
  run-unmarked xs e =
      ap (λ (u : Tlb). u.broadcast)
      (ap₂ (λ (l : List (Event real)) (u : Tlb). tlb_run real p l u) (sym e) (unmarked-tlb t q) ∙ run-quiet real xs p t)

  pub inval-unmarked : (v : Inval) → (invalidate_of t v).broadcast ≡ None
  inval-unmarked v = ap (λ (u : Tlb). u.broadcast) (ap (λ (u : Tlb). invalidate_of u v) (unmarked-tlb t q) ∙ inval-quiet v t)

  run-marked : (xs : List (Event real)) (m : Ram) (v : Inval) → xs ≡ steps m (does (carries v true)) ∷ [] → (tlb_run real p xs t).broadcast ≡ Some v
  unfolding invalidated_of broadcast_of
  run-marked xs m v e =
      ap (λ (l : List (Event real)). (tlb_run real p l t).broadcast) e ∙ ap (λ (o : Option Inval). pending_after o v) (inval-unmarked v)

module _ (c : Core) (m : Ram) (x : Call) (q : c.tlb.broadcast ≡ None) where
  abbrev made : List (Event real)
  made = events_of real machine c m x

  share-by : (v : Option Inval) → shared_in (bare_of c) m x ≡ v → (tlb_run real (machine.plain (bare_of c)) made c.tlb).broadcast ≡ v
  share-by None e = run-unmarked (machine.plain (bare_of c)) c.tlb q made (ruled-quiet (bare_of c) m _ (ruling_in (bare_of c) m x) x e)
  share-by (Some v) e = run-marked (machine.plain (bare_of c)) c.tlb q made m v (ruled-shares (bare_of c) m _ (ruling_in (bare_of c) m x) x v e)

  pub own-share : (step_of c m.base m.bytes x).core.tlb.broadcast ≡ shared_in (bare_of c) m x
  own-share = ap (λ (t : Tlb). t.broadcast) (bridge.tlb-is c m x) ∙ share-by (shared_in (bare_of c) m x) refl
