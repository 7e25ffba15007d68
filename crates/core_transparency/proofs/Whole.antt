-- No call writes place 0 of an array by level.
use Rattle.std.specs.Prelude.{if◌then◌else◌, ◌≡◌, ℕ, List, [], ◌∷◌, Bool, true, false, ◌==◌, get_or, Option, Some, None, Err}
use Rattle.std.proofs.Common.{sym, ap, ◌∙◌}
use Rattle.sysreg.specs.Regs.{in_control}
use Rattle.sysreg.specs.Encoding.{register_at}
use Rattle.sysreg.specs.Write.{bank, held_after, control_with, sys_with, Done, ended, Written, write_found, write_reg}
use Rattle.sysreg.specs.declared.write.WriteError.TheVariants.{Undefined}
use Rattle.sysreg.specs.declared.{regs.Control.Control, regs.SysRegs.SysRegs, regs.Regime.Regime}
use Rattle.sysreg.specs.declared.{regs.Register.Register}
use Rattle.sysreg.specs.declared.regs.Regime.TheVariants.{El1, El2, El3}
use Rattle.sysreg.specs.declared.regs.Register.TheVariants.{Sctlr, Tcr, Ttbr0, Mair, Vbar, Elr, Spsr, Esr, Far}
use Rattle.exception.specs.Entry.{is_target, at_target, updated, entered_sys, enter_of, take_sync}
use Rattle.system.specs.declared.decode.SysOp.{SysOp}
use Rattle.cpu.specs.Bare.{Bare, bare_of}
use Rattle.cpu.specs.declared.Core.{Core}
use Rattle.cpu.specs.declared.call.Call.{Call}
use Rattle.cpu.specs.Step.{step_of}
use Rattle.history.specs.Instance.{Ram, window_of}
use Rattle.transparency.specs.Bare.{Ruling, allowed, number, undefined, unimplemented, ruling_in}
use Rattle.transparency.specs.Bare.{if_allowed, bare_does, bare_step, sys_does, op_in, operand_in, par_at}
use Rattle.transparency.proofs.Bridge.{fits}
use Rattle.call_words.specs.declared.op.DecodedCall.{DecodedCall}
use Rattle.call_words.specs.declared.op.DecodedCall.TheVariants.{Known, Unknown}
use Rattle.saved.specs.WordsOf.{placed, held_control, held_sys, held}
use Rattle.saved.proofs.Saving.{saved_again}
use Rattle.saved.proofs.Whole.{fresh_whole}
use Rattle.core_calls.specs.Named.{call_core}
use Rattle.core_transparency.specs.OnCore.{fresh, called, set, stepped, looked}
use Rattle.core_transparency.specs.Whole.{call_keeps_whole, made_is_whole, made_is_saved}

-- ARRAYS BY LEVEL

bank-whole : (f : Regime → ℕ → ℕ) (l : List ℕ) → placed l ≡ l → placed (bank f l) ≡ bank f l
bank-whole f l e =
    let z : 0 ≡ get_or l 0 0 = ap (λ (k : List ℕ). get_or k 0 0) e in
    ap (λ (n : ℕ). n ∷ f El1 (get_or l 1 0) ∷ f El2 (get_or l 2 0) ∷ f El3 (get_or l 3 0) ∷ []) z

-- REGISTER WRITES

control-whole : (k : Control) (r : Register) (v : ℕ) → held_control k ≡ k → held_control (control_with k r v) ≡ control_with k r v
unfolding control_with
control-whole k r v e =
    λ i.
    record (control_with k r v) {
      sctlr = bank-whole (λ el. held_after r v (Sctlr el)) k.sctlr (ap (λ (c : Control). c.sctlr) e) i;
      tcr = bank-whole (λ el. held_after r v (Tcr el)) k.tcr (ap (λ (c : Control). c.tcr) e) i;
      ttbr0 = bank-whole (λ el. held_after r v (Ttbr0 el)) k.ttbr0 (ap (λ (c : Control). c.ttbr0) e) i;
    }

sys-whole : (s : SysRegs) (r : Register) (v : ℕ) → held_sys s ≡ s → held_sys (sys_with s r v) ≡ sys_with s r v
unfolding sys_with
sys-whole s r v e =
    λ i.
    record (sys_with s r v) {
      mair = bank-whole (λ el. held_after r v (Mair el)) s.mair (ap (λ (t : SysRegs). t.mair) e) i;
      vbar = bank-whole (λ el. held_after r v (Vbar el)) s.vbar (ap (λ (t : SysRegs). t.vbar) e) i;
      elr = bank-whole (λ el. held_after r v (Elr el)) s.elr (ap (λ (t : SysRegs). t.elr) e) i;
      spsr = bank-whole (λ el. held_after r v (Spsr el)) s.spsr (ap (λ (t : SysRegs). t.spsr) e) i;
      esr = bank-whole (λ el. held_after r v (Esr el)) s.esr (ap (λ (t : SysRegs). t.esr) e) i;
      far = bank-whole (λ el. held_after r v (Far el)) s.far (ap (λ (t : SysRegs). t.far) e) i;
    }

-- registers that words hold
record WholeRegs (k : Control) (s : SysRegs) : Type 0 where
  control : held_control k ≡ k
  sys : held_sys s ≡ s

found-whole : (k : Control) (s : SysRegs) (level : ℕ) (f : Option Register) (v : ℕ) → WholeRegs k s
    → WholeRegs (write_found k s level f v).control (write_found k s level f v).sys
found-whole k s level None v w = w
found-whole k s level (Some r) v w = go (level == 0) (in_control r)
  where
    end : Bool → Bool → Written
    end b d = if b then ended k s (Err Undefined) else if d then ended (control_with k r v) s Done else ended k (sys_with s r v) Done

    go : (b d : Bool) → WholeRegs (end b d).control (end b d).sys
    go true d = w
    go false true = record { control = control-whole k r v w.control; sys = w.sys }
    go false false = record { control = w.control; sys = sys-whole s r v w.sys }

-- ABORT ENTRY

target-whole : (el : Regime) (v : ℕ) (l : List ℕ) → placed l ≡ l → placed (at_target el v l) ≡ at_target el v l
target-whole el v l e = bank-whole (λ (x : Regime) (h : ℕ). if is_target el x then v else h) l e

updated-whole : (el : Regime) (a : Option ℕ) (l : List ℕ) → placed l ≡ l → placed (updated el a l) ≡ updated el a l
updated-whole el (Some v) l e = target-whole el v l e
updated-whole el None l e = e

entered-whole : (s : SysRegs) (el : Regime) (esr far : Option ℕ) (spsr ret : ℕ) → held_sys s ≡ s
    → held_sys (entered_sys s el esr far spsr ret) ≡ entered_sys s el esr far spsr ret
unfolding entered_sys
entered-whole s el esr far spsr ret e =
    λ i.
    record {
      mair = (e i).mair;
      vbar = (e i).vbar;
      elr = target-whole el ret s.elr (ap (λ (t : SysRegs). t.elr) e) i;
      spsr = target-whole el spsr s.spsr (ap (λ (t : SysRegs). t.spsr) e) i;
      esr = updated-whole el esr s.esr (ap (λ (t : SysRegs). t.esr) e) i;
      far = updated-whole el far s.far (ap (λ (t : SysRegs). t.far) e) i;
      vpidr_el2 = s.vpidr_el2;
      vmpidr_el2 = s.vmpidr_el2;
      par_el1 = s.par_el1;
    }

-- A CALL, on the architectural state

module _ (b : Bare) (w : WholeRegs b.control b.sys) where
  abbrev Keeps : Bare → Type 0
  Keeps d = WholeRegs d.control d.sys

  system-whole : (o : SysOp) (m : Ram) (va : ℕ) → Keeps (sys_does o b m va)
  system-whole (SysOp.At form) m va = record { control = w.control; sys = λ i. record (w.sys i) { par_el1 = par_at b m form va } }
  system-whole SysOp.Tlbi m va = w
  system-whole SysOp.Zva m va = w
  system-whole SysOp.Nothing m va = w
  system-whole SysOp.Undefined m va = w
  system-whole SysOp.Unimplemented m va = w

  does-whole : (m : Ram) (x : Call) → Keeps (bare_does b m x)
  unfolding write_reg take_sync enter_of
  does-whole m (Call.Translate kind va) = w
  does-whole m (Call.DataPa va) = w
  does-whole m (Call.FetchPa va) = w
  does-whole m (Call.Load va size) = w
  does-whole m (Call.Store va size v) = w
  does-whole m (Call.Fetch va) = w
  does-whole m (Call.System e) = system-whole (op_in b e) m (operand_in b e)
  does-whole m (Call.Register key v) = found-whole b.control b.sys b.privilege.level (register_at key) v w
  does-whole m (Call.Level level) = w
  does-whole m (Call.Mark mark) = w
  does-whole m (Call.General n v) = w
  does-whole m (Call.Abort e) = record { control = w.control; sys = entered-whole b.sys _ _ _ _ _ w.sys }
  does-whole m (Call.Census first pages) = w
  does-whole m Call.Windows = w
  does-whole m (Call.Flip kind user va) = w

  step-whole : (m : Ram) (x : Call) → Keeps (bare_step b m x)
  step-whole m x = go (ruling_in b m x)
    where
      go : (r : Ruling) → Keeps (if_allowed r (bare_does b m x) b)
      go allowed = does-whole m x
      go (number n) = w
      go undefined = w
      go unimplemented = w

-- A CORE

of-core : (c : Core) → held c ≡ c → WholeRegs c.control c.sys
unfolding held
of-core c e = record { control = ap (λ (d : Core). d.control) e; sys = ap (λ (d : Core). d.sys) e }

to-core : (c : Core) → WholeRegs c.control c.sys → held c ≡ c
unfolding held
to-core c w = λ i. record c { control = w.control i; sys = w.sys i }

pub call-keeps-whole : call_keeps_whole
call-keeps-whole c base ram x e =
    let m : Ram = window_of base ram in
    let t : WholeRegs (bare_step (bare_of c) m x).control (bare_step (bare_of c) m x).sys = step-whole (bare_of c) (of-core c e) m x in
    let b : bare_of (step_of c base ram x).core ≡ bare_step (bare_of c) m x = (fits c m x).bare in
    to-core (step_of c base ram x).core (rw (← b) at t)

named-whole : (call : DecodedCall) (c : Core) (base : ℕ) (ram : List ℕ) → held c ≡ c → held (call_core call c base ram) ≡ call_core call c base ram
named-whole (Known x) c base ram e = call-keeps-whole c base ram x e
named-whole Unknown c base ram e = e

on : (call : DecodedCall) (base : ℕ) (ram : List ℕ) (c d : Core) → held c ≡ c → d ≡ call_core call c base ram → held d ≡ d
on call base ram c d e p = ap held p ∙ named-whole call c base ram e ∙ sym p

pub made-is-whole : made_is_whole
made-is-whole _ _ (fresh c e) = ap held e ∙ fresh_whole ∙ sym e
made-is-whole _ _ (called call base ram c n old new ys d list m p) = on call base ram c d (made-is-whole c list m) p.core
made-is-whole _ _ (set call base ram c n d list m p) = on call base ram c d (made-is-whole c list m) (p.on base ram 0).core
made-is-whole _ _ (stepped call base ram c n old v ys d list m p) = on call base ram c d (made-is-whole c list m) p.core
made-is-whole _ _ (looked x base ram c list m h) = made-is-whole c list m

pub made-is-saved : made_is_saved
made-is-saved c list m f = saved_again c f ∙ made-is-whole c list m
