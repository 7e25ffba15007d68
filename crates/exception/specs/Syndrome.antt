-- What an exception reports: DDI 0487, AArch64.ExceptionClass, AArch64.ReportException, and the layout of ESR_ELx, from knowledge of ARMv8.0: the
-- document itself was not at hand. M16, O6 and the like are rows of docs/DIFFERENCES.md.
use Rattle.std.specs.Prelude.{if◌then◌else◌, ℕ, ◌+◌, ◌*◌, ◌/◌, ◌%◌, ◌^◌, Bool, bit_or, nat_lt, Option, Some, None}
use Rattle.word.specs.Bits.{flag}
use Rattle.exception.specs.declared.kind.Exception.{Exception}
use Rattle.exception.specs.declared.kind.Exception.TheVariants.{Undefined, Svc, Hvc, Smc, Brk, DataAbort, InsnAbort, PcAlignment}

-- ESR_ELx: EC is <31:26>, IL <25>, ISS <24:0>. IL is 1: the instruction has 32 bits, or the class has no use for it.
abbrev pub esr_of : ℕ → ℕ → ℕ
esr_of ec iss = ec * 2 ^ 26 + 1 * 2 ^ 25 + iss

-- an abort's class from a lower level; from the same level it is one more
abbrev pub abort_class : Bool → ℕ → ℕ
abort_class lower ec = if lower then ec else ec + 1

-- EC, by whether the exception comes from a lower level
abbrev pub class_of : Bool → Exception → ℕ
class_of lower Undefined = 0x00
class_of lower (Svc imm) = 0x15
class_of lower (Hvc imm) = 0x16
class_of lower (Smc imm) = 0x17
class_of lower (InsnAbort a) = abort_class lower 0x20
class_of lower PcAlignment = 0x22
class_of lower (DataAbort a) = abort_class lower 0x24
class_of lower (Brk imm) = 0x3C

-- ISS of a data abort: WnR is <6>, DFSC <5:0>; M3: S1PTW <7> is 0, without stage 2; ISV, CM and the rest are 0. O6: EA <9> is 0. M16: the bits of
-- a status above DFSC are or-ed in.
abbrev pub data_status : Bool → ℕ → ℕ
data_status write fsc = bit_or (fsc / 2 ^ 6) (flag write 1) * 2 ^ 6 + fsc % 2 ^ 6

-- ISS: the immediate in <15:0>, or the status. An instruction abort's IFSC is <5:0>; O6 and M16 again.
abbrev pub iss_of : Exception → ℕ
iss_of Undefined = 0
iss_of (Svc imm) = imm
iss_of (Hvc imm) = imm
iss_of (Smc imm) = imm
iss_of (InsnAbort a) = a.fault.fsc
iss_of PcAlignment = 0
iss_of (DataAbort a) = data_status a.write a.fault.fsc
iss_of (Brk imm) = imm

-- FAR_ELx is written for aborts, with the address of the access, and for PC alignment, with the PC. O12: for the others, where the manual leaves it
-- UNKNOWN, it is kept.
abbrev pub far_of : ℕ → Exception → Option ℕ
far_of pc (InsnAbort a) = Some a.addr
far_of pc (DataAbort a) = Some a.addr
far_of pc PcAlignment = Some pc
far_of pc _ = None

-- ESR_ELx and any FAR_ELx of an exception at the PC, taken from one level to another
unfoldable pub syndrome_of : Exception → ℕ → ℕ → ℕ → ℕ × Option ℕ
syndrome_of e from to pc = (esr_of (class_of (nat_lt from to) e) (iss_of e), far_of pc e)
