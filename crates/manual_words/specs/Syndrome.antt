-- EC of ESR_ELx by name (DDI 0487, D17.2.37, from knowledge of ARMv8.0: the document itself was not at hand).
use Rattle.std.specs.Prelude.{if◌then◌else◌, ℕ, Bool, true, false, ◌==◌}
use Rattle.word.specs.Bits.{bit_on, field}
use Rattle.exception.specs.Syndrome.{class_of, esr_of, iss_of}
use Rattle.exception.specs.declared.kind.Exception.{Exception}
use Rattle.manual_words.specs.declared.syndrome.Class.{Class}
use Rattle.manual_words.specs.declared.syndrome.Class.TheVariants.{Unknown, Svc, Hvc, Smc, Brk, PcAlignment}
use Rattle.manual_words.specs.declared.syndrome.Class.TheVariants.{InsnAbortFromLower, InsnAbort, DataAbortFromLower, DataAbort, Other}

abbrev pub class_at : ℕ → Class
class_at ec =
    if ec == 0x00 then Unknown
    else if ec == 0x15 then Svc
    else if ec == 0x16 then Hvc
    else if ec == 0x17 then Smc
    else if ec == 0x20 then InsnAbortFromLower
    else if ec == 0x21 then InsnAbort
    else if ec == 0x22 then PcAlignment
    else if ec == 0x24 then DataAbortFromLower
    else if ec == 0x25 then DataAbort
    else if ec == 0x3C then Brk
    else Other ec

-- the class of an exception, by whether it comes from a lower level
abbrev pub told_class : Bool → Exception → Class
told_class lower Exception.Undefined = Unknown
told_class lower (Exception.Svc imm) = Svc
told_class lower (Exception.Hvc imm) = Hvc
told_class lower (Exception.Smc imm) = Smc
told_class lower (Exception.Brk imm) = Brk
told_class lower (Exception.DataAbort a) = if lower then DataAbortFromLower else DataAbort
told_class lower (Exception.InsnAbort a) = if lower then InsnAbortFromLower else InsnAbort
told_class lower Exception.PcAlignment = PcAlignment

-- EC<31:26>
abbrev pub class_in : ℕ → Class
class_in esr = class_at (field esr 26 6)

-- DFSC<5:0> or IFSC<5:0>
abbrev pub status_in : ℕ → ℕ
status_in esr = field esr 0 6

-- WnR<6>
abbrev pub write_in : ℕ → Bool
write_in esr = bit_on esr 6

-- imm16<15:0>
abbrev pub immediate_in : ℕ → ℕ
immediate_in esr = field esr 0 16

-- whether FAR_ELx is written
abbrev pub far_told : Class → Bool
far_told Unknown = false
far_told Svc = false
far_told Hvc = false
far_told Smc = false
far_told Brk = false
far_told PcAlignment = true
far_told InsnAbortFromLower = true
far_told InsnAbort = true
far_told DataAbortFromLower = true
far_told DataAbort = true
far_told (Other ec) = false

-- the ESR_ELx that abort entry writes
abbrev pub reported : Bool → Exception → ℕ
reported lower e = esr_of (class_of lower e) (iss_of e)
