-- A reply as a number and a report, as four words, and as the five of a step.
use Rattle.std.specs.Prelude.{List, [], ◌∷◌, ◌++◌, ℕ, ◌+◌}
use Rattle.word.specs.Bits.{flag}
use Rattle.exception.specs.declared.{kind.Exception.Exception, kind.Stop.Stop}
use Rattle.exception.specs.declared.kind.Exception.TheVariants.{Undefined, Svc, Hvc, Smc, Brk, DataAbort, InsnAbort, PcAlignment}
use Rattle.cpu.specs.declared.call.Reply.{Reply}
use Rattle.cpu.specs.declared.call.Reply.TheVariants.{Refused, Done, Value, Faults, Fault, Stopped}

-- 256 plus the status of an abort; 65 for every other exception, which is Undefined where an operation stops
abbrev pub exception_code : Exception → ℕ
exception_code (DataAbort a) = 256 + a.fault.fsc
exception_code (InsnAbort a) = 256 + a.fault.fsc
exception_code Undefined = 65
exception_code (Svc imm) = 65
exception_code (Hvc imm) = 65
exception_code (Smc imm) = 65
exception_code (Brk imm) = 65
exception_code PcAlignment = 65

abbrev pub stop_code : Stop → ℕ
stop_code (Stop.Exception e) = exception_code e
stop_code Stop.Unimplemented = 66

-- 0 where it is done; 1 to 63, the check's number, where it is refused; 256 where it faults, plus the status where that is told
abbrev pub code_by : Reply → ℕ
code_by (Refused n) = n
code_by Done = 0
code_by (Value v) = 0
code_by Faults = 256
code_by (Fault addr f) = 256 + f.fsc
code_by (Stopped s) = stop_code s

-- the value, or the address of a data abort; else the word stays
abbrev pub exception_value : Exception → ℕ → ℕ
exception_value (DataAbort a) old = a.addr
exception_value (InsnAbort a) old = old
exception_value Undefined old = old
exception_value (Svc imm) old = old
exception_value (Hvc imm) old = old
exception_value (Smc imm) old = old
exception_value (Brk imm) old = old
exception_value PcAlignment old = old

abbrev pub stop_value : Stop → ℕ → ℕ
stop_value (Stop.Exception e) old = exception_value e old
stop_value Stop.Unimplemented old = old

abbrev pub value_by : Reply → ℕ → ℕ
value_by (Refused n) old = old
value_by Done old = old
value_by (Value v) old = v
value_by Faults old = old
value_by (Fault addr f) old = old
value_by (Stopped s) old = stop_value s old

-- the descriptors read, with a value or a fault; where a call is refused, Undefined or Unimplemented the word stays
abbrev pub exception_reads : Exception → ℕ → ℕ → ℕ
exception_reads (DataAbort a) reads old = reads
exception_reads (InsnAbort a) reads old = reads
exception_reads Undefined reads old = old
exception_reads (Svc imm) reads old = old
exception_reads (Hvc imm) reads old = old
exception_reads (Smc imm) reads old = old
exception_reads (Brk imm) reads old = old
exception_reads PcAlignment reads old = old

abbrev pub stop_reads : Stop → ℕ → ℕ → ℕ
stop_reads (Stop.Exception e) reads old = exception_reads e reads old
stop_reads Stop.Unimplemented reads old = old

abbrev pub reads_by : Reply → ℕ → ℕ → ℕ
reads_by (Refused n) reads old = old
reads_by Done reads old = reads
reads_by (Value v) reads old = reads
reads_by Faults reads old = reads
reads_by (Fault addr f) reads old = reads
reads_by (Stopped s) reads old = stop_reads s reads old

-- four words: what it is, then what it holds
abbrev pub four : ℕ → ℕ → ℕ → ℕ → List ℕ
four a b c d = a ∷ b ∷ c ∷ d ∷ []

abbrev pub exception_words : Exception → List ℕ
exception_words (DataAbort a) = four 9 a.addr a.fault.fsc (flag a.write 1)
exception_words (InsnAbort a) = four 10 a.addr a.fault.fsc 0
exception_words Undefined = four 6 0 0 0
exception_words (Svc imm) = four 6 0 0 0
exception_words (Hvc imm) = four 6 0 0 0
exception_words (Smc imm) = four 6 0 0 0
exception_words (Brk imm) = four 6 0 0 0
exception_words PcAlignment = four 6 0 0 0

abbrev pub stop_words : Stop → List ℕ
stop_words (Stop.Exception e) = exception_words e
stop_words Stop.Unimplemented = four 7 0 0 0

unfoldable pub words_by : Reply → List ℕ
words_by (Refused n) = four 5 n 0 0
words_by Done = four 0 0 0 0
words_by (Value v) = four 1 v 0 0
words_by Faults = four 2 0 0 0
words_by (Fault addr f) = four 8 addr f.fsc 0
words_by (Stopped s) = stop_words s

-- of a step a fifth: the descriptors read, 0 where nothing is reported
abbrev pub step_words : Reply → ℕ → List ℕ
step_words r reads = words_by r ++ (reads_by r reads 0 ∷ [])
