-- What an access is told: by a walk made now, and by the core.
use Rattle.std.specs.Prelude.{if◌then◌else◌, ℕ, ◌==◌, Bool, true, false, List, Option, Some, None, Ok, Err}
use Rattle.walk.specs.Regime.{stage1_on, untagged}
use Rattle.walk.specs.Walk.{walk_of}
use Rattle.walk.specs.Answers.{Walked}
use Rattle.sysreg.specs.Regs.{regime_of}
use Rattle.tlb.specs.Access.{flat_answer, judged, user_of}
use Rattle.tlb.specs.Answers.{Answer}
use Rattle.tlb.specs.Tlb.{entry_for}
use Rattle.tlb.specs.declared.access.Kind.{Kind}
use Rattle.cpu.specs.Core.{bank_now}
use Rattle.cpu.specs.Step.{step_of}
use Rattle.cpu.specs.declared.{Core.Core, call.Reply.Reply}
use Rattle.cpu.specs.declared.call.Call.TheVariants.{Translate}
use Rattle.walk_report.specs.declared.{answer.Told.Told, levels.Steps.Steps}
use Rattle.walk_report.specs.declared.answer.Told.TheVariants.{Address, Fault, Nothing}

-- an answer
abbrev pub told_of : Answer → Told
told_of (Ok pa) = Address pa
told_of (Err f) = Fault f.fsc

-- the end of a walk of the level's own regime, judged for an access
abbrev pub told_by_walk : Core → Kind → ℕ → Walked → Told
told_by_walk c kind va (Ok leaf) =
    told_of (judged (entry_for leaf c.tlb.asid 0) (user_of (regime_of c.privilege.level) c.privilege kind) kind va)
told_by_walk c kind va (Err status) = Fault status

-- a walk made now, or with stage 1 off what that makes of the address
abbrev pub walk_told : Core → (ℕ → Option ℕ) → Kind → ℕ → Told
walk_told c memory kind va =
    let r = regime_of c.privilege.level in
    let u = untagged (bank_now c).tcr r va in
    if stage1_on (bank_now c) r then told_by_walk c kind va (walk_of (bank_now c) r u memory) else told_of (flat_answer u)

-- the end of a walk of the regime of the core's level, if stage 1 is on
abbrev pub walk_end : Core → ℕ → (ℕ → Option ℕ) → Option Walked
walk_end c va memory =
    let r = regime_of c.privilege.level in
    if stage1_on (bank_now c) r then Some (walk_of (bank_now c) r (untagged (bank_now c).tcr r va) memory) else None

-- the end that steps come to
abbrev pub end_shown : Option Steps → Option Walked
end_shown (Some steps) = Some steps.answer
end_shown None = None

-- the core's own reply
abbrev pub told_reply : Reply → Told
told_reply (Reply.Refused check) = Nothing check
told_reply Reply.Done = Nothing 0
told_reply (Reply.Value pa) = Address pa
told_reply Reply.Faults = Nothing 0
told_reply (Reply.Fault addr fault) = Fault fault.fsc
told_reply (Reply.Stopped stop) = Nothing 0

abbrev pub core_told : Core → ℕ → List ℕ → Kind → ℕ → Told
core_told c base ram kind va = told_reply (step_of c base ram (Translate kind va)).reply

-- whether the core answers as the walk does, or not at all
abbrev pub agree : Told → Told → Bool
agree walk (Nothing check) = true
agree (Address pa) (Address other) = pa == other
agree (Fault status) (Fault other) = status == other
agree walk core = false
