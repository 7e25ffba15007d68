-- A call's steps as events of the history, each with the RAM at its start: read from the call, the state without a
-- cache and those RAMs.
--
-- Nothing here looks at the cache, at an answer or at what the core does. A core that ignored a TLBI could not hide
-- here: the event of a TLBI that is not refused carries its invalidation whatever the core did (`tlbi-event`), the
-- theory's cache loses what it names, and the core's own `Tlb` has to be that one after every call (`tlb-is` of the
-- bridge). Nor could one that made an invalidation up: no other call carries one.
use Rattle.std.specs.Prelude.{◌≡◌, refl, Bool, true, false, List, [], ◌∷◌, ℕ, ◌+◌, leb}
use Rattle.std.proofs.Common.{leb-true}
use Rattle.word.specs.Bits.{align_down, wrap}
use Rattle.tlb.specs.Asks.{Ask}
use Rattle.tlb.specs.declared.{access.Kind.Kind, access.Privilege.Privilege, Inval.Inval}
use Rattle.exception.proofs.EntryLaws.{take_level}
use Rattle.exception.specs.declared.kind.Exception.{Exception}
use Rattle.system.specs.Tlbi.{tlbi_of, reaches_others}
use Rattle.system.specs.declared.decode.SysOp.{SysOp}
use Rattle.system.specs.declared.decode.SysOp.TheVariants as Op
use Rattle.cpu.specs.Bare.{Bare}
use Rattle.system.specs.declared.decode.Encoding.{Encoding}
use Rattle.cpu.specs.declared.{call.Call.Call}
use Rattle.cpu.specs.declared.call.Call.TheVariants.{System, Register, Level, Mark}
use Rattle.cpu.specs.declared.call.Call.TheVariants.{Abort}
use Rattle.history.specs.World.{Plain}
use Rattle.history.specs.History.{Effect, nothing, carries, writes, sets, Step, Event, steps}
use Rattle.history.specs.Instance.{Ram, real}
use Rattle.transparency.specs.Claim.{access_in, asks_of}
use Rattle.transparency.specs.Bare.{missed_in, op_in, operand_in, written_in, taken_in, ruling_in, if_allowed}

-- what a translation reads of the core without a cache
abbrev pub plain_in : Bare → Plain real
plain_in b = record { regs = b.control; privilege = b.privilege }

-- STEPS

abbrev pub does : Effect real → Step real
does e = record { asks = []; effect = e }

abbrev pub asking : List Ask → Step real
asking l = record { asks = l; effect = nothing }

-- a refused call, and every call that neither translates nor reaches the cache, level, mark or the registers that
-- translation reads
abbrev pub idle : Step real
idle = does nothing

-- a level above 3 is refused before
abbrev pub set_by : (privilege : Privilege) (b : Bool) → leb privilege.level 3 ≡ b → Effect real
set_by privilege true e = sets privilege (leb-true privilege.level 3 e)
set_by privilege false e = nothing

abbrev pub setting : Privilege → Step real
setting privilege = does (set_by privilege (leb privilege.level 3) refl)

-- abort entry goes to level 1, 2 or 3 and leaves the mark
abbrev pub abort_step : Bare → Exception → Step real
abort_step b e =
    does
    (sets (record { level = (taken_in b e).level; unprivileged = b.privilege.unprivileged })
    (take_level b.privilege.level b.pc b.control.scr_el3 b.control.hcr_el2 b.flags b.sys e).1)

-- what a TLBI names
abbrev pub inval_in : Bare → Encoding → Inval
inval_in b e = tlbi_of b.control e.op1 e.crm e.op2 (operand_in b e)

-- whether it is an Inner Shareable form, which other cores carry out too
abbrev pub shared_in : Encoding → Bool
shared_in e = reaches_others e.crm

-- EVENTS. m is RAM as the call begins, ms RAM as each further step begins.

-- Each of DC ZVA's eight stores is a step: from the address and RAM at each start alone.
abbrev pub zero_steps : Bare → Ram → List Ram → ℕ → List (Event real)
zero_steps b m [] va = steps m (asking (access_in b va 8 Kind.Write)) ∷ []
zero_steps b m (n ∷ ms) va = steps m (asking (access_in b va 8 Kind.Write)) ∷ zero_steps b n ms (wrap (va + 8))

abbrev pub sys_steps : SysOp → Bare → Ram → List Ram → Encoding → List (Event real)
sys_steps Op.Tlbi b m ms e = steps m (does (carries (inval_in b e) (shared_in e))) ∷ []
sys_steps Op.Zva b m ms e = zero_steps b m ms (align_down (operand_in b e) 6)
sys_steps _ b m ms e = steps m idle ∷ []

-- the steps of a call that is not refused
abbrev pub steps_in : Bare → Ram → List Ram → Call → List (Event real)
steps_in b m ms (System e) = sys_steps (op_in b e) b m ms e
steps_in b m ms (Register key value) = steps m (does (writes (written_in b key value).control)) ∷ []
steps_in b m ms (Level level) = steps m (setting (record { level = level; unprivileged = b.privilege.unprivileged })) ∷ []
steps_in b m ms (Mark mark) = steps m (setting (record { level = b.privilege.level; unprivileged = mark })) ∷ []
steps_in b m ms (Abort e) = steps m (abort_step b e) ∷ []
steps_in b m ms x = steps m (asking (asks_of b x)) ∷ []

-- a refused call is a step that does nothing
abbrev pub events_in : Bare → Ram → List Ram → Call → List (Event real)
events_in b m ms x = if_allowed (ruling_in b m x) (steps_in b m ms x) (steps m idle ∷ [])

-- An All, Page or Asid is one that a TLBI, not refused, carries out: each such TLBI has its event, and no more.
abbrev pub tlbi_event : Type 0
tlbi_event =
    (b : Bare) (m : Ram) (ms : List Ram) (e : Encoding) → missed_in b m (System e) ≡ 0 → op_in b e ≡ Op.Tlbi
    → events_in b m ms (System e) ≡ steps m (does (carries (inval_in b e) (shared_in e))) ∷ []
