-- What abort entry writes to ESR_ELx is read where it stands.
use Rattle.std.specs.Prelude.{◌≡◌, ℕ, ◌+◌, ◌*◌, ◌/◌, ◌%◌, ◌^◌, ◌<◌, Bool, true, false, bit_or}
use Rattle.word.specs.Bits.{flag}
use Rattle.std.proofs.Common.{arith}
use Rattle.exception.specs.declared.kind.Exception.{Exception}
use Rattle.exception.specs.declared.kind.DataAbort.{DataAbort}
use Rattle.exception.specs.declared.kind.InsnAbort.{InsnAbort}
use Rattle.exception.specs.Syndrome.{class_of, data_status, esr_of}
use Rattle.manual_words.specs.Syndrome.{immediate_in, reported, status_in, write_in}

low : (c k s : ℕ) → s < 64 → status_in (c * 2 ^ 26 + 1 * 2 ^ 25 + (k * 2 ^ 6 + s % 2 ^ 6)) ≡ s
low c k s small = omega arith

plain : (c s : ℕ) → s < 64 → status_in (esr_of c s) ≡ s
plain c s small = omega arith

wide : (c s : ℕ) → s < 0x1_0000 → immediate_in (esr_of c s) ≡ s
wide c s small = omega arith

write-on : (c s : ℕ) → s < 64 → write_in (esr_of c (data_status true s)) ≡ true
write-on c s small =
    let none : s / 2 ^ 6 ≡ 0 = omega arith
    in let place : (c * 2 ^ 26 + 1 * 2 ^ 25 + (1 * 2 ^ 6 + s % 2 ^ 6)) / 2 ^ 6 % 2 ≡ 1 = omega arith
    in rw (none, place)

write-off : (c s : ℕ) → s < 64 → write_in (esr_of c (data_status false s)) ≡ false
write-off c s small =
    let none : s / 2 ^ 6 ≡ 0 = omega arith
    in let place : (c * 2 ^ 26 + 1 * 2 ^ 25 + (0 * 2 ^ 6 + s % 2 ^ 6)) / 2 ^ 6 % 2 ≡ 0 = omega arith
    in rw (none, place)

pub data_status_read : (lower : Bool) (a : DataAbort) → a.fault.fsc < 64 → status_in (reported lower (Exception.DataAbort a)) ≡ a.fault.fsc
data_status_read lower a small = low (class_of lower (Exception.DataAbort a)) (bit_or (a.fault.fsc / 2 ^ 6) (flag a.write 1)) a.fault.fsc small

pub insn_status_read : (lower : Bool) (a : InsnAbort) → a.fault.fsc < 64 → status_in (reported lower (Exception.InsnAbort a)) ≡ a.fault.fsc
insn_status_read lower a small = plain (class_of lower (Exception.InsnAbort a)) a.fault.fsc small

pub write_read : (lower : Bool) (a : DataAbort) → a.fault.fsc < 64 → write_in (reported lower (Exception.DataAbort a)) ≡ a.write
write_read lower a small = go a.write
  where
    go : (w : Bool) → write_in (esr_of (class_of lower (Exception.DataAbort a)) (data_status w a.fault.fsc)) ≡ w
    go true = write-on (class_of lower (Exception.DataAbort a)) a.fault.fsc small
    go false = write-off (class_of lower (Exception.DataAbort a)) a.fault.fsc small

pub svc_read : (lower : Bool) (imm : ℕ) → imm < 0x1_0000 → immediate_in (esr_of 0x15 imm) ≡ imm
svc_read lower imm small = wide 0x15 imm small

pub hvc_read : (lower : Bool) (imm : ℕ) → imm < 0x1_0000 → immediate_in (esr_of 0x16 imm) ≡ imm
hvc_read lower imm small = wide 0x16 imm small

pub smc_read : (lower : Bool) (imm : ℕ) → imm < 0x1_0000 → immediate_in (esr_of 0x17 imm) ≡ imm
smc_read lower imm small = wide 0x17 imm small

pub brk_read : (lower : Bool) (imm : ℕ) → imm < 0x1_0000 → immediate_in (esr_of 0x3C imm) ≡ imm
brk_read lower imm small = wide 0x3C imm small
