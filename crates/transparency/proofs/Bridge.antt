-- Each call does to registers, level, mark and `Tlb` what its steps do.
use Rattle.std.specs.Prelude.{if◌then◌else◌, ◌≡◌, refl, Bool, true, false, ◌||◌, ℕ, zero, suc, ◌+◌, ◌%◌, ◌≤◌, ltb, length, Option, Some, None}
use Rattle.std.proofs.Common.{ap, arith, ltb-false}
use mathlib.Core.List.{List, [], ◌∷◌}
use Rattle.word.specs.Bits.{wrap}
use Rattle.word.specs.Ram.{width_of, bytes_in}
use Rattle.tlb.specs.declared.access.Kind.{Kind}
use Rattle.system.specs.declared.decode.SysOp.{SysOp}
use Rattle.cpu.specs.Bare.{Bare, with_privilege, bare_of, with_regs}
use Rattle.cpu.specs.Core.{reg_of, set_reg, after_access, Answered}
use Rattle.cpu.specs.Memory.{write_of}
use Rattle.cpu.specs.Says as Operations
use Rattle.cpu.specs.Asks.{on_now}
use Rattle.cpu.proofs.OpLaws as Proved
use Rattle.cpu.specs.declared.Core.{Core}
use Rattle.system.specs.declared.decode.Encoding.{Encoding}
use Rattle.cpu.specs.declared.call.Call.{Call}
use Rattle.cpu.specs.System.{refit_of, with_regs as coreRegs, applied_of, registered, after_register_write, with_privilege as coreWho, set_level}
use Rattle.cpu.specs.System.{set_mark, abort_of, with_par as corePar, at_of, tlbi_core, zero_of, sys_by, sys_of}
use Rattle.cpu.specs.Check.{missed_of}
use Rattle.cpu.proofs.EveryCallEnds.{all-passed}
use Rattle.cpu.specs.Step.{ends, load_by, store_by, run_of, refused_or, step_of}
use Rattle.cpu.specs.declared.call.Call.TheVariants.{Translate, DataPa, FetchPa, Load, Store, Fetch, System, Register, Level, Mark}
use Rattle.cpu.specs.declared.call.Reply.TheVariants.{Refused}
use Rattle.history.specs.History.{writes, Event, steps, plain_run, tlb_asks, tlb_run}
use Rattle.history.specs.Calls.{Bridge}
use Rattle.history.specs.Instance.{Ram, real}
use Rattle.transparency.specs.Bare.{missed_in, op_in, operand_in, written_in, number, by_sys, by_write, ruled_in, if_allowed, sys_does, bare_does}
use Rattle.transparency.specs.Bare.{bare_step}
use Rattle.transparency.specs.Events.{plain_in, does, asking, idle, setting, zero_steps, sys_steps, steps_in, events_in, tlbi_event}
use Rattle.transparency.specs.Claim.{access_in, sized_in}
use Rattle.transparency.specs.Starts.{ram_zeroed, zero_later, sys_later, later_of, later_in}
use Rattle.transparency.specs.Machine.{machine}
use Rattle.word.specs.declared.ram.Width.{Width}
use Rattle.sysreg.specs.Write.{WriteAnswer, Written}
use Rattle.cpu.specs.Bytes.{StoreAnswer}

-- The core d that a call made of c, the state b without a cache after it, and the call's events.
pub record Fits (c d : Core) (b : Bare) (es : List (Event real)) : Type 0 where
  pub bare : bare_of d ≡ b
  pub plain : plain_in b ≡ plain_run real (plain_in (bare_of c)) es
  pub tlb : d.tlb ≡ tlb_run real (plain_in (bare_of c)) es c.tlb

fits-idle : (c : Core) (m : Ram) → Fits c c (bare_of c) (steps m idle ∷ [])
fits-idle c m = record { bare = refl; plain = refl; tlb = refl }

-- TRANSLATIONS

operation-fits : (c : Core) (m : Ram) (o : Operations.Operation)
    → Fits c (Operations.operation_core c m.base m.bytes o) (bare_of c) (steps m (asking (Operations.asks_of (on_now c) o)) ∷ [])
operation-fits c m o =
    record { bare = Proved.kept c m.base m.bytes o; plain = refl; tlb = Proved.tlb-after c m.base m.bytes o }

load_fits : (c : Core) (m : Ram) (va : ℕ) (s : Option Width)
    → Fits c (load_by s c m.base m.bytes va).core (bare_of c) (steps m (asking (sized_in (bare_of c) va s Kind.Read)) ∷ [])
load_fits c m va (Some w) = operation-fits c m (Operations.load va (bytes_in w))
load_fits c m va None = fits-idle c m

store-fits : (c : Core) (m : Ram) (va : ℕ) (s : Option Width)
    → Fits c (store_by s c m.base m.bytes va).core (bare_of c) (steps m (asking (sized_in (bare_of c) va s Kind.Write)) ∷ [])
store-fits c m va (Some w) = operation-fits c m (Operations.store va (bytes_in w) 0)
store-fits c m va None = fits-idle c m

-- ZEROING

-- a store leaves the state without a cache, and of the cache what its translations leave
pub stored-bare : (c : Core) (m : Ram) (va : ℕ) → bare_of (write_of c m.base m.bytes va 8).core ≡ bare_of c
stored-bare c m va = Proved.kept c m.base m.bytes (Operations.store va 8 0)

pub stored-tlb : (c : Core) (m : Ram) (va : ℕ)
    → (write_of c m.base m.bytes va 8).core.tlb ≡ tlb_asks real (plain_in (bare_of c)) m (access_in (bare_of c) va 8 Kind.Write) c.tlb
stored-tlb c m va = Proved.tlb-after c m.base m.bytes (Operations.store va 8 0)

-- the store at va and n further ones: after the first, which leaves the state without a cache, the rest
module _ (c : Core) (m : Ram) (va : ℕ) where
  abbrev stored : Answered StoreAnswer
  stored = write_of c m.base m.bytes va 8

  abbrev ZeroFits : ℕ → Core → Ram → ℕ → Type 0
  ZeroFits n d k a = Fits d (zero_of (suc n) d k.base k.bytes a).core (bare_of d) (zero_steps (bare_of d) k (zero_later n d k a) a)

  zero-last : ZeroFits zero c m va
  unfolding zero_of
  zero-last = grind (arith, stored-bare, stored-tlb)

  zero-next : (n : ℕ) → ZeroFits n stored.core (ram_zeroed c m va) (wrap (va + 8)) → ZeroFits (suc n) c m va
  unfolding zero_of after_access
  zero-next n rest = grind (arith, stored-tlb, stored-bare)

zero-fits : (n : ℕ) (c : Core) (m : Ram) (va : ℕ)
    → Fits c (zero_of (suc n) c m.base m.bytes va).core (bare_of c) (zero_steps (bare_of c) m (zero_later n c m va) va)
zero-fits zero c m va = zero-last c m va
zero-fits (suc n) c m va =
    zero-next c m va n (zero-fits n (write_of c m.base m.bytes va 8).core (ram_zeroed c m va) (wrap (va + 8)))

-- SYSTEM OPERATIONS

sys-fits : (o : SysOp) (c : Core) (m : Ram) (e : Encoding)
    → Fits c (sys_by o c m.base m.bytes e.op1 e.crm e.op2 (operand_in (bare_of c) e)).core
    (if_allowed (by_sys o) (sys_does o (bare_of c) m (operand_in (bare_of c) e)) (bare_of c))
    (if_allowed (by_sys o) (sys_steps o (bare_of c) m (if_allowed (by_sys o) (sys_later o c m (operand_in (bare_of c) e)) []) e) (steps m idle ∷ []))
unfolding at_of corePar tlbi_core after_access
sys-fits o c m e = grind (arith, zero-fits, fits-idle)

-- REGISTER WRITES

write-fits : (c : Core) (m : Ram) (w : Written) (a : WriteAnswer)
    → Fits c (registered c w a).core (if_allowed (by_write a) (with_regs (bare_of c) w.control w.sys) (bare_of c))
    (if_allowed (by_write a) (steps m (does (writes w.control)) ∷ []) (steps m idle ∷ []))
unfolding applied_of coreRegs after_access refit_of
write-fits c m w a = grind arith

-- SETTINGS

setting-fits : (c : Core) (m : Ram) (level : ℕ) (mark : Bool) → level ≤ 3
    → Fits c (coreWho c level mark) (with_privilege (bare_of c) level mark) (steps m (setting (record { level = level; unprivileged = mark })) ∷ [])
setting-fits c m level mark low = grind arith

-- where no check is missed the level is 3 at most, the one asked for too
level-low : (level base len requested : ℕ) → missed_of level base len (Level requested) ≡ 0 → requested ≤ 3
level-low level base len requested e = ltb-false 3 requested (go (ltb 3 level) (all-passed level base len (Level requested) e).0)
  where
    go : (b : Bool) → (b || ltb 3 requested) ≡ false → ltb 3 requested ≡ false
    go true z = absurd (let k : ◌≡◌ {A = ℕ} 1 0 = ap (λ (x : Bool). (if x then 1 else 0)) z in omega arith)
    go false z = z

mark-low : (level base len : ℕ) (mark : Bool) → missed_of level base len (Mark mark) ≡ 0 → level ≤ 3
mark-low level base len mark e = ltb-false 3 level (all-passed level base len (Mark mark) e).0

level-fits : (c : Core) (m : Ram) (level : ℕ) → level ≤ 3
    → Fits c (set_level c (level % 4)) (with_privilege (bare_of c) level c.privilege.unprivileged)
    (steps m (setting (record { level = level; unprivileged = c.privilege.unprivileged })) ∷ [])
unfolding set_level
level-fits c m level low = grind arith

-- EVERY CALL

-- that misses no check
run_fits : (c : Core) (m : Ram) (x : Call) → missed_in (bare_of c) m x ≡ 0
    → Fits c (run_of c m.base m.bytes x).core (if_allowed (ruled_in (bare_of c) x) (bare_does (bare_of c) m x) (bare_of c))
    (if_allowed (ruled_in (bare_of c) x)
    (steps_in (bare_of c) m (if_allowed (ruled_in (bare_of c) x) (later_of c m x) []) x)
    (steps m idle ∷ []))
unfolding run_of sys_of reg_of after_register_write set_mark set_reg abort_of
run_fits c m (Translate kind va) p = operation-fits c m (Operations.translate va kind)
run_fits c m (DataPa va) p = operation-fits c m (Operations.data_pa va)
run_fits c m (FetchPa va) p = operation-fits c m (Operations.fetch_pa va)
run_fits c m (Load va size) p = load_fits c m va (width_of size)
run_fits c m (Store va size value) p = store-fits c m va (width_of size)
run_fits c m (Fetch va) p = operation-fits c m (Operations.fetch va)
run_fits c m (System e) p = sys-fits (op_in (bare_of c) e) c m e
run_fits c m (Register key value) p = write-fits c m (written_in (bare_of c) key value) (written_in (bare_of c) key value).answer
run_fits c m (Level level) p = level-fits c m level (level-low c.privilege.level m.base (length m.bytes) level p)
run_fits c m (Mark mark) p = setting-fits c m c.privilege.level mark (mark-low c.privilege.level m.base (length m.bytes) mark p)
run_fits c m _ p = record { bare = refl; plain = refl; tlb = refl }

pub fits : (c : Core) (m : Ram) (x : Call)
    → Fits c (step_of c m.base m.bytes x).core (bare_step (bare_of c) m x) (events_in (bare_of c) m (later_in c m x) x)
unfolding step_of
fits c m x = go (missed_in (bare_of c) m x) refl
  where
    go : (n : ℕ) → missed_in (bare_of c) m x ≡ n
        → Fits c (refused_or n (λ k. ends c (Refused k)) (run_of c m.base m.bytes x)).core
        (if_allowed (refused_or n number (ruled_in (bare_of c) x)) (bare_does (bare_of c) m x) (bare_of c))
        (if_allowed (refused_or n number (ruled_in (bare_of c) x))
        (steps_in (bare_of c) m (if_allowed (refused_or n number (ruled_in (bare_of c) x)) (later_of c m x) []) x)
        (steps m idle ∷ []))
    go zero e = run_fits c m x e
    go (suc n) e = fits-idle c m

pub bridge : Bridge real machine
bridge =
    record {
      bare-is = λ c m x. (fits c m x).bare;
      plain-is = λ c m x. (fits c m x).plain;
      tlb-is = λ c m x. (fits c m x).tlb;
    }

-- each TLBI that is not refused has its event
pub tlbi-event : tlbi_event
tlbi-event b m ms e passed named = rw (passed, named) refl
