-- What a register write does. Letters with a number are rows of docs/DIFFERENCES.md.
use Rattle.std.specs.Prelude.{if◌then◌else◌, Bool, true, false, List, [], ◌∷◌, ℕ, ◌+◌, ◌*◌, ◌%◌, ◌^◌, eqb, get_or, Option, Some, None, Result, Ok, Err}
use Rattle.word.specs.Bits.{field, align_down}
use Rattle.sysreg.specs.declared.{regs.Control.Control, regs.SysRegs.SysRegs, regs.Regime.Regime}
use Rattle.sysreg.specs.declared.{regs.Register.Register}
use Rattle.sysreg.specs.declared.write.WriteError.{WriteError}
use Rattle.sysreg.specs.declared.regs.Regime.TheVariants.{El1, El2, El3}
use Rattle.sysreg.specs.declared.regs.Register.TheVariants.{Sctlr, Tcr, Ttbr0, Ttbr1, Scr, Hcr}
use Rattle.sysreg.specs.declared.regs.Register.TheVariants.{Mair, Vbar, Elr, Spsr, Esr, Far, Vpidr, Vmpidr, Par}
use Rattle.sysreg.specs.declared.write.WriteError.TheVariants.{Undefined, NoRegister}
use Rattle.sysreg.specs.Regs.{in_control}
use Rattle.sysreg.specs.Encoding.{key_of, register_at}

-- the n bits of v from bit lo up, at their place
abbrev pub in_place : ℕ → ℕ → ℕ → ℕ
in_place v lo n = field v lo n * 2 ^ lo

-- SPSR_ELx: N, Z, C, V are 31:28, SS 21, IL 20, GE 19:16 (the AArch32 form's), D, A, I, F 9:6, M 4:0; the others are RES0.
-- M13: of a saved AArch32 state T, IT and Q would be kept too; E stands at D
unfoldable pub spsr_kept : ℕ → ℕ
spsr_kept v = in_place v 28 4 + in_place v 21 1 + in_place v 20 1 + in_place v 16 4 + in_place v 6 4 + v % 2 ^ 5

-- What a register keeps of a value. VBAR_ELx<10:0> are RES0, and so are bits 63:32 of ESR_ELx and VPIDR_EL2. O5: the others
-- keep the bits that are RES0 or RES1 as they are written
abbrev pub kept : Register → ℕ → ℕ
kept (Sctlr regime) v = v
kept (Tcr regime) v = v
kept (Ttbr0 regime) v = v
kept Ttbr1 v = v
kept Scr v = v
kept Hcr v = v
kept (Mair regime) v = v
kept (Vbar regime) v = align_down v 11
kept (Elr regime) v = v
kept (Spsr regime) v = spsr_kept v
kept (Esr regime) v = v % 2 ^ 32
kept (Far regime) v = v
kept Vpidr v = v % 2 ^ 32
kept Vmpidr v = v
kept Par v = v

-- What q holds after a write of v to r: where they are one register, what it keeps of v; else what it held.
abbrev pub held_after : Register → ℕ → Register → ℕ → ℕ
held_after r v q held = if eqb (key_of q) (key_of r) then kept q v else held

-- an array with f at each level, and at EL0's place what it held
abbrev pub bank : (Regime → ℕ → ℕ) → List ℕ → List ℕ
bank f l = get_or l 0 0 ∷ f El1 (get_or l 1 0) ∷ f El2 (get_or l 2 0) ∷ f El3 (get_or l 3 0) ∷ []

-- the registers of each struct after a write of v to r
unfoldable pub control_with : Control → Register → ℕ → Control
control_with c r v =
    record {
      sctlr = bank (λ regime. held_after r v (Sctlr regime)) c.sctlr;
      tcr = bank (λ regime. held_after r v (Tcr regime)) c.tcr;
      ttbr0 = bank (λ regime. held_after r v (Ttbr0 regime)) c.ttbr0;
      ttbr1_el1 = held_after r v Ttbr1 c.ttbr1_el1;
      scr_el3 = held_after r v Scr c.scr_el3;
      hcr_el2 = held_after r v Hcr c.hcr_el2;
    }

unfoldable pub sys_with : SysRegs → Register → ℕ → SysRegs
sys_with s r v =
    record {
      mair = bank (λ regime. held_after r v (Mair regime)) s.mair;
      vbar = bank (λ regime. held_after r v (Vbar regime)) s.vbar;
      elr = bank (λ regime. held_after r v (Elr regime)) s.elr;
      spsr = bank (λ regime. held_after r v (Spsr regime)) s.spsr;
      esr = bank (λ regime. held_after r v (Esr regime)) s.esr;
      far = bank (λ regime. held_after r v (Far regime)) s.far;
      vpidr_el2 = held_after r v Vpidr s.vpidr_el2;
      vmpidr_el2 = held_after r v Vmpidr s.vmpidr_el2;
      par_el1 = held_after r v Par s.par_el1;
    }

abbrev pub WriteAnswer : Type 0
WriteAnswer = Result Unit WriteError

abbrev pub Done : WriteAnswer
Done = Ok tt

-- the registers after a write, and its answer
pub record Written : Type 0 where
  pub control : Control
  pub sys : SysRegs
  pub answer : WriteAnswer

-- the end of a register write
abbrev pub ended : Control → SysRegs → WriteAnswer → Written
ended c s a = record { control = c; sys = s; answer = a }

abbrev pub wrote : Control → SysRegs → Register → ℕ → Written
wrote c s r v = if in_control r then ended (control_with c r v) s Done else ended c (sys_with s r v) Done

-- A key that names no register is refused first; then EL0 may write none; then the register is written. M22, R1: below the
-- register's own level too. M7: at Non-secure EL1 HCR_EL2 could trap the write
abbrev pub write_found : Control → SysRegs → ℕ → Option Register → ℕ → Written
write_found c s level None v = ended c s (Err NoRegister)
write_found c s level (Some r) v = if eqb level 0 then ended c s (Err Undefined) else wrote c s r v

unfoldable pub write_reg : Control → SysRegs → ℕ → ℕ → ℕ → Written
write_reg c s level k v = write_found c s level (register_at k) v

-- An answer in the words of the scope's table: a refusal has a number.
pub data Reply : Type 0 where
  done : Reply
  undefined : Reply
  refusal : ℕ → Reply

abbrev pub reply_of : WriteAnswer → Reply
reply_of (Ok x) = done
reply_of (Err Undefined) = undefined
reply_of (Err NoRegister) = refusal 6

-- the key is a banked register's or PAR_EL1's
abbrev pub names : Option Register → Bool
names (Some r) = true
names None = false

-- the table's rows for a register write, from top to bottom
abbrev pub reply_to : ℕ → ℕ → Reply
reply_to level k = if names (register_at k) then if eqb level 0 then undefined else done else refusal 6
