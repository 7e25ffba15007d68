-- How a promise is met: by what the quick call says of its number, its report and its core.
use Rattle.std.specs.Prelude.{if◌then◌else◌, ◌≡◌, eqb, List, ℕ, Bool, true, false, Result, Ok, Err}
use Rattle.std.proofs.Common.{refl, sym, ap}
use Rattle.cpu.specs.declared.Core.{Core}
use Rattle.cpu.specs.declared.call.Call.{Call}
use Rattle.cpu.specs.Step.{step_of, ram_after}
use Rattle.cpu.specs.EveryCallEnds.{writes}
use Rattle.cpu.proofs.EveryCallEnds.{quiet}
use Rattle.call_words.specs.Ops.{translate_call, mark_call}
use Rattle.tlb.specs.declared.{access.Kind.Kind, access.NoSuchKind.NoSuchKind}
use Rattle.call_words.specs.declared.op.DecodedCall.{DecodedCall}
use Rattle.call_words.specs.declared.op.DecodedCall.TheVariants.{Known, Unknown}
use Rattle.cpu.specs.Work.{step_work}
use Rattle.tlb.specs.Translate.{no_work}
use Rattle.call_words.specs.declared.reply.Report.{Report}
use Rattle.quick.specs.Says.{Tells, Nothing, Says, Sets, unread}
use Rattle.core_calls.specs.Promise.{Promise, Setting}
use Rattle.core_calls.proofs.Promised.{by-number}

module _ (x : Call) (base : ℕ) (ram : List ℕ) (c : Core) where
  pub told : (n : ℕ) (old new : Report) (ys : List ℕ) (d : Core) → Tells (step_of c base ram x) (step_work c base ram x no_work) old n new d
      → ys ≡ ram_after c base ram x
      → Promise (Known x) base ram c n old new ys d
  told n old new ys d t ey = by-number x base ram c n old new ys d t.number t.value t.reads ey t.core

  -- of one that writes no byte
  pub read-told : writes c x ≡ false → (n : ℕ) (old new : Report) (d : Core) → Tells (step_of c base ram x) (step_work c base ram x no_work) old n new d
      → Promise (Known x) base ram c n old new ram d
  read-told q n old new d t = told n old new ram d t (sym (quiet c base ram x q))

-- words that name no call
nothing : (base : ℕ) (ram : List ℕ) (c : Core) (n : ℕ) (old new : Report) (d : Core) → Nothing c old n new d → Promise Unknown base ram c n old new ram d
nothing base ram c n old new d s =
    record {
      code = s.number;
      value = ap (λ (r : Report). r.value) s.report;
      reads = ap (λ (r : Report). r.reads) s.report;
      bytes = refl;
      core = s.core;
      unchanged = λ l h. (s.core, (refl, s.report));
      faithful = tt;
    }

pub translation-said : (w : Result Kind NoSuchKind) (va base : ℕ) (ram : List ℕ) (c : Core) (n : ℕ) (old new : Report) (d : Core)
    → Says (translate_call w va) c base ram old n new d
    → Promise (translate_call w va) base ram c n old new ram d
unfolding translate_call
translation-said (Ok k) va base ram c n old new d s = read-told (Call.Translate k va) base ram c refl n old new d s
translation-said (Err e) va base ram c n old new d s = nothing base ram c n old new d s

pub set-said : (x : Call) (c : Core) → writes c x ≡ false → (n : ℕ) (d : Core) → Sets (Known x) c n d → Setting (Known x) c n d
set-said x c q n d s = record { on = λ base ram v. read-told x base ram c q n (unread v) (unread v) d (s.on base ram v) }

unnamed-said : (c : Core) (n : ℕ) (d : Core) → Sets Unknown c n d → Setting Unknown c n d
unnamed-said c n d s = record { on = λ base ram v. nothing base ram c n (unread v) (unread v) d (s.on base ram v) }

-- a mark by the two tests of its word
abbrev mark_by : Bool → Bool → DecodedCall
mark_by a b = if a then Known (Call.Mark false) else if b then Known (Call.Mark true) else Unknown

mark-by : (a b : Bool) (c : Core) (n : ℕ) (d : Core) → Sets (mark_by a b) c n d → Setting (mark_by a b) c n d
mark-by true b c n d s = set-said (Call.Mark false) c refl n d s
mark-by false true c n d s = set-said (Call.Mark true) c refl n d s
mark-by false false c n d s = unnamed-said c n d s

pub mark-said : (m : ℕ) (c : Core) (n : ℕ) (d : Core) → Sets (mark_call m) c n d → Setting (mark_call m) c n d
mark-said m c n d = mark-by (eqb m 0) (eqb m 1) c n d
