-- A call as eight words.
use Rattle.std.specs.Prelude.{if◌then◌else◌, List, ℕ, ◌^◌, eqb, ltb, get_or, Bool, true, false, Option, Some, None, Result, Ok, Err}
use Rattle.fault.specs.First.{first}
use Rattle.tlb.specs.Access.{kind_at}
use Rattle.tlb.specs.declared.{access.Kind.Kind, access.NoSuchKind.NoSuchKind}
use Rattle.exception.specs.Abort.{data_abort_at, insn_abort_at}
use Rattle.exception.specs.declared.kind.Exception.{Exception}
use Rattle.exception.specs.declared.kind.Exception.TheVariants.{Undefined, Svc, Hvc, Smc, Brk, PcAlignment}
use Rattle.system.specs.declared.decode.Encoding.{Encoding}
use Rattle.cpu.specs.declared.call.Call.{Call}
use Rattle.call_words.specs.declared.op.DecodedException.{DecodedException}
use Rattle.call_words.specs.declared.op.DecodedCall.{DecodedCall}

-- 1 read, 2 write, 4 fetch
abbrev pub kind_of : ℕ → Result Kind NoSuchKind
kind_of n = kind_at n

-- an exception whose words are in range
abbrev pub in_range : Bool → Exception → DecodedException
in_range ok e = if ok then DecodedException.Known e else DecodedException.Unknown

-- write is 0 or 1, and a status has 8 bits
unfoldable pub data_abort_of : ℕ → ℕ → ℕ → DecodedException
data_abort_of addr write fsc =
    if eqb write 0 then in_range (ltb fsc (2 ^ 8)) (data_abort_at addr false (first fsc))
    else if eqb write 1 then in_range (ltb fsc (2 ^ 8)) (data_abort_at addr true (first fsc))
    else DecodedException.Unknown

abbrev pub insn_abort_of : ℕ → ℕ → DecodedException
insn_abort_of addr fsc = in_range (ltb fsc (2 ^ 8)) (insn_abort_at addr (first fsc))

-- 1 SVC, 2 HVC, 3 SMC, 4 BRK; the immediate has 16 bits
unfoldable pub call_exception_of : ℕ → ℕ → DecodedException
call_exception_of n imm =
    if eqb n 1 then in_range (ltb imm (2 ^ 16)) (Svc imm)
    else if eqb n 2 then in_range (ltb imm (2 ^ 16)) (Hvc imm)
    else if eqb n 3 then in_range (ltb imm (2 ^ 16)) (Smc imm)
    else if eqb n 4 then in_range (ltb imm (2 ^ 16)) (Brk imm)
    else DecodedException.Unknown

-- 0 Undefined; 1 to 4 with an immediate; 5 data abort with address, write and status; 6 instruction abort with address and status; 7 PC
-- alignment. Words out of range name nothing, and words that an exception does not take are not read.
unfoldable pub exception_of : ℕ → ℕ → ℕ → ℕ → DecodedException
exception_of n a b c =
    if eqb n 0 then DecodedException.Known Undefined
    else if eqb n 5 then data_abort_of a b c
    else if eqb n 6 then insn_abort_of a b
    else if eqb n 7 then DecodedException.Known PcAlignment
    else call_exception_of n a

-- the same of four words
abbrev pub exception_at : List ℕ → DecodedException
exception_at e = exception_of (get_or e 0 0) (get_or e 1 0) (get_or e 2 0) (get_or e 3 0)

-- a key that no 32 bits hold is that of no register
abbrev pub key_of : ℕ → ℕ
key_of n = if ltb n (2 ^ 32) then n else 0

unfoldable pub translate_call : Result Kind NoSuchKind → ℕ → DecodedCall
translate_call (Ok k) va = DecodedCall.Known (Call.Translate k va)
translate_call (Err e) va = DecodedCall.Unknown

abbrev pub abort_call : DecodedException → DecodedCall
abort_call (DecodedException.Known e) = DecodedCall.Known (Call.Abort e)
abort_call DecodedException.Unknown = DecodedCall.Unknown

abbrev pub mark_call : ℕ → DecodedCall
mark_call n = if eqb n 0 then DecodedCall.Known (Call.Mark false) else if eqb n 1 then DecodedCall.Known (Call.Mark true) else DecodedCall.Unknown

-- whether it is EL0's view: 0 privileged, 1 EL0's
abbrev pub view_at : ℕ → Option Bool
view_at n = if eqb n 0 then Some false else if eqb n 1 then Some true else None

unfoldable pub flip_call : Result Kind NoSuchKind → Option Bool → ℕ → DecodedCall
flip_call (Ok k) (Some user) va = DecodedCall.Known (Call.Flip k user va)
flip_call (Ok k) None va = DecodedCall.Unknown
flip_call (Err e) view va = DecodedCall.Unknown

abbrev pub encoding_of : ℕ → ℕ → ℕ → ℕ → ℕ → Encoding
encoding_of op1 crn crm op2 rt = record { op1 = op1; crn = crn; crm = crm; op2 = op2; rt = rt }

-- the call, by its code
unfoldable pub call_of : List ℕ → DecodedCall
call_of op =
    if eqb (get_or op 0 0) 1 then translate_call (kind_of (get_or op 1 0)) (get_or op 2 0)
    else if eqb (get_or op 0 0) 2 then DecodedCall.Known (Call.DataPa (get_or op 1 0))
    else if eqb (get_or op 0 0) 3 then DecodedCall.Known (Call.FetchPa (get_or op 1 0))
    else if eqb (get_or op 0 0) 4 then DecodedCall.Known (Call.Load (get_or op 1 0) (get_or op 2 0))
    else if eqb (get_or op 0 0) 5 then DecodedCall.Known (Call.Store (get_or op 1 0) (get_or op 2 0) (get_or op 3 0))
    else if eqb (get_or op 0 0) 6 then DecodedCall.Known (Call.Fetch (get_or op 1 0))
    else if eqb (get_or op 0 0) 7 then DecodedCall.Known (Call.System (encoding_of (get_or op 1 0) (get_or op 2 0) (get_or op 3 0) (get_or op 4 0) (get_or op 5 0)))
    else if eqb (get_or op 0 0) 8 then DecodedCall.Known (Call.Register (key_of (get_or op 1 0)) (get_or op 2 0))
    else if eqb (get_or op 0 0) 9 then DecodedCall.Known (Call.Level (get_or op 1 0))
    else if eqb (get_or op 0 0) 10 then mark_call (get_or op 1 0)
    else if eqb (get_or op 0 0) 11 then DecodedCall.Known (Call.General (get_or op 1 0) (get_or op 2 0))
    else if eqb (get_or op 0 0) 12 then abort_call (exception_of (get_or op 1 0) (get_or op 2 0) (get_or op 3 0) (get_or op 4 0))
    else if eqb (get_or op 0 0) 13 then DecodedCall.Known (Call.Census (get_or op 1 0) (get_or op 2 0))
    else if eqb (get_or op 0 0) 14 then DecodedCall.Known Call.Windows
    else if eqb (get_or op 0 0) 15 then flip_call (kind_of (get_or op 1 0)) (view_at (get_or op 2 0)) (get_or op 3 0)
    else DecodedCall.Unknown
