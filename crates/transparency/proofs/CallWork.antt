-- What a call did: what its events' translations did in its cache, and AT's own walk.
use Rattle.std.proofs.Common.{arith, sym}
use Rattle.std.specs.Prelude.{◌≡◌, List, [], ◌∷◌, ℕ, zero, suc, ◌+◌, Option}
use Rattle.word.specs.Bits.{wrap}
use Rattle.word.specs.declared.ram.Width.{Width}
use Rattle.tlb.specs.Asks.{Ask, answer_of, work_of}
use Rattle.tlb.proofs.Asks.{onward-same}
use Rattle.tlb.specs.Translate.{read_more}
use Rattle.tlb.specs.declared.access.Kind.{Kind}
use Rattle.tlb.specs.declared.{work.Work.Work}
use Rattle.system.specs.declared.{decode.SysOp.SysOp}
use Rattle.system.specs.declared.decode.SysOp.TheVariants as Op
use Rattle.system.specs.declared.decode.Encoding.{Encoding}
use Rattle.cpu.specs.Bare.{Bare, bare_of}
use Rattle.cpu.specs.Core.{reg_of, after_access, Answered}
use Rattle.cpu.specs.Memory.{write_of}
use Rattle.cpu.specs.Asks.{access_now}
use Rattle.cpu.specs.Work.{translate_work, fetch_work, access_work, write_work, zero_work, at_work, sys_work_by, sys_work, load_work_by}
use Rattle.cpu.specs.Work.{store_work_by, run_work, step_work}
use Rattle.cpu.specs.declared.Core.{Core}
use Rattle.cpu.specs.declared.call.Call.{Call}
use Rattle.cpu.specs.declared.call.Call.TheVariants.{System}
use Rattle.history.specs.History.{Event, steps}
use Rattle.history.specs.Instance.{Ram, real}
use Rattle.history.proofs.Works.{works_run}
use Rattle.transparency.specs.Reads.{op_reads}
use Rattle.transparency.specs.Bare.{by_sys, op_in, operand_in, ruled_in, ruling_in, if_allowed}
use Rattle.transparency.specs.Claim.{sized_in}
use Rattle.transparency.specs.Events.{plain_in, asking, zero_steps, sys_steps, steps_in, events_in}
use Rattle.transparency.specs.Starts.{ram_zeroed, zero_later, sys_later, later_of, later_in}
use Rattle.transparency.proofs.Bridge.{stored-tlb}
use Rattle.cpu.specs.Bytes.{StoreAnswer}

abbrev pub did : Core → List (Event real) → Work → Work
did c es v = works_run real (plain_in (bare_of c)) es c.tlb v

-- one translation
one-did : (c : Core) (m : Ram) (a : Ask) (v : Work)
    → work_of (access_now c m.base m.bytes) a c.tlb v ≡ did c (steps m (asking (a ∷ [])) ∷ []) v
one-did c m a v = sym (onward-same (answer_of (access_now c m.base m.bytes) a c.tlb) (work_of (access_now c m.base m.bytes) a c.tlb v))

-- A LOAD, A STORE: none where the size is none
load-did : (c : Core) (m : Ram) (va : ℕ) (s : Option Width) (v : Work)
    → load_work_by s c m.base m.bytes va v ≡ did c (steps m (asking (sized_in (bare_of c) va s Kind.Read)) ∷ []) v
unfolding access_work
load-did c m va s v = grind arith

store-did : (c : Core) (m : Ram) (va : ℕ) (s : Option Width) (v : Work)
    → store_work_by s c m.base m.bytes va v ≡ did c (steps m (asking (sized_in (bare_of c) va s Kind.Write)) ∷ []) v
unfolding access_work
store-did c m va s v = grind arith

-- ZEROING: the store at va and n further ones
module _ (c : Core) (m : Ram) (va : ℕ) (v : Work) where
  abbrev stored : Answered StoreAnswer
  stored = write_of c m.base m.bytes va 8

  abbrev first : Work
  first = write_work c m.base m.bytes va 8 v

  abbrev ZeroDid : ℕ → Core → Ram → ℕ → Work → Type 0
  ZeroDid n d k a w = zero_work (suc n) d k.base k.bytes a w ≡ did d (zero_steps (bare_of d) k (zero_later n d k a) a) w

  zero-last : ZeroDid zero c m va v
  unfolding zero_work access_work
  zero-last = grind arith

  zero-next : (n : ℕ) → ZeroDid n stored.core (ram_zeroed c m va) (wrap (va + 8)) first → ZeroDid (suc n) c m va v
  unfolding zero_work access_work write_of after_access
  zero-next n rest = grind (arith, stored-tlb)

zero-did : (n : ℕ) (c : Core) (m : Ram) (va : ℕ) (v : Work)
    → zero_work (suc n) c m.base m.bytes va v ≡ did c (zero_steps (bare_of c) m (zero_later n c m va) va) v
zero-did zero c m va v = zero-last c m va v
zero-did (suc n) c m va v =
    zero-next c m va v n
    (zero-did n (write_of c m.base m.bytes va 8).core (ram_zeroed c m va) (wrap (va + 8)) (write_work c m.base m.bytes va 8 v))

-- A SYSTEM OPERATION: AT's own walk beside what its events did
abbrev pub op_walked : SysOp → Bare → Ram → ℕ → Work → Work
op_walked (Op.At form) b m va v = read_more (op_reads (Op.At form) b m va) v
op_walked _ b m va v = v

abbrev pub own_walked : Bare → Ram → Call → Work → Work
own_walked b m (System e) v = op_walked (op_in b e) b m (operand_in b e) v
own_walked b m _ v = v

sys-did : (o : SysOp) (c : Core) (m : Ram) (e : Encoding) (v : Work)
    → sys_work_by o c m.base m.bytes (operand_in (bare_of c) e) v
    ≡ if_allowed (by_sys o)
    (op_walked o (bare_of c) m (operand_in (bare_of c) e)
    (did c (sys_steps o (bare_of c) m (if_allowed (by_sys o) (sys_later o c m (operand_in (bare_of c) e)) []) e) v))
    v
unfolding at_work
sys-did o c m e v = grind (arith, zero-did)

-- EVERY CALL

-- what a call did that misses no check
run-did : (c : Core) (m : Ram) (x : Call) (v : Work)
    → run_work c m.base m.bytes x v
    ≡ if_allowed (ruled_in (bare_of c) x)
    (own_walked (bare_of c) m x (did c (steps_in (bare_of c) m (if_allowed (ruled_in (bare_of c) x) (later_of c m x) []) x) v))
    v
unfolding run_work translate_work fetch_work sys_work reg_of
run-did c m x v = grind (arith, one-did, load-did, store-did, sys-did)

pub step-did : (c : Core) (m : Ram) (x : Call) (v : Work)
    → step_work c m.base m.bytes x v
    ≡ if_allowed (ruling_in (bare_of c) m x) (own_walked (bare_of c) m x (did c (events_in (bare_of c) m (later_in c m x) x) v)) v
unfolding step_work
step-did c m x v = grind (arith, run-did)
