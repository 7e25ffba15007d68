-- The operations on memory, and what they answer: each answer as the requirement's value, or its fault's address and status.
use Rattle.std.specs.Prelude.{if◌then◌else◌, ℕ, ◌+◌, ◌-◌, List, length, Option, Some, None, Ok, Err, Bool, [], ◌∷◌}
use Rattle.word.specs.Bits.{wrap}
use Rattle.word.specs.Ram.{little_endian, within, word_at}
use Rattle.tlb.specs.Answers.{Answer}
use Rattle.exception.specs.declared.{kind.Stop.Stop, kind.Exception.Exception}
use Rattle.exception.specs.declared.kind.Exception.TheVariants.{Undefined, Svc, Hvc, Smc, Brk, DataAbort, InsnAbort, PcAlignment}
use Rattle.tlb.specs.Asks.{Given, answers, Ask, translates, fetches}
use Rattle.cpu.specs.Bytes.{Placed, Verdict, LoadAnswer, StoreAnswer, FetchAnswer, first_part, verdict_of, value_at, reached_by, store_ram_end}
use Rattle.cpu.specs.declared.place.Place.{Place}
use Rattle.cpu.specs.Memory.{translate_of, translate_access_of, read_of, write_of, fetch_of, fetch_pa_of, data_pa_of, ram_after_write}
use Rattle.cpu.specs.Asks.{first_of, placed_from, access_asks, access_now, on_now}
use Rattle.cpu.specs.declared.Core.{Core}
use Rattle.tlb.specs.declared.access.Kind.{Kind}
use Rattle.tlb.specs.declared.access.Kind.TheVariants.{Read, Write}

-- the operations; n is a number of bytes
pub data Operation : Type 0 where
  translate : (va : ℕ) → Kind → Operation
  access : (va n : ℕ) → Kind → Operation
  load : (va n : ℕ) → Operation
  store : (va n value : ℕ) → Operation
  fetch : (va : ℕ) → Operation
  fetch_pa : (va : ℕ) → Operation
  data_pa : (va : ℕ) → Operation

-- the core and RAM after each
abbrev pub operation_core : Core → ℕ → List ℕ → Operation → Core
operation_core c base ram (translate va kind) = (translate_of c (word_at base ram 8) va kind).core
operation_core c base ram (access va n kind) = (translate_access_of c (word_at base ram 8) va n kind).core
operation_core c base ram (load va n) = (read_of c base ram va n).core
operation_core c base ram (store va n v) = (write_of c base ram va n).core
operation_core c base ram (fetch va) = (fetch_of c base ram va).core
operation_core c base ram (fetch_pa va) = (fetch_pa_of c (word_at base ram 8) va).core
operation_core c base ram (data_pa va) = (data_pa_of c (word_at base ram 8) va).core

abbrev pub operation_ram : Core → ℕ → List ℕ → Operation → List ℕ
operation_ram c base ram (store va n v) = ram_after_write c base ram va n v
operation_ram c base ram _ = ram

-- its translations, by whether stage 1 is on
abbrev pub asks_of : Bool → Operation → List Ask
asks_of on (translate va kind) = translates kind va ∷ []
asks_of on (access va n kind) = access_asks on va n kind
asks_of on (load va n) = access_asks on va n Read
asks_of on (store va n v) = access_asks on va n Write
asks_of on (fetch va) = fetches va ∷ []
asks_of on (fetch_pa va) = fetches va ∷ []
asks_of on (data_pa va) = translates Read va ∷ []

-- WHAT THEY ANSWER

-- value: what was loaded or fetched, or where an access goes. lies: the place of an access. faults: no more is told.
pub data Said : Type 0 where
  value : ℕ → Said
  lies : Place → Said
  done : Said
  fault : (address status : ℕ) → Said
  faults : Said
  undefined : Said
  unimplemented : Said
  call : (immediate : ℕ) → Said
  misaligned : Said

abbrev pub answer_says : ℕ → Answer → Said
answer_says va (Ok pa) = value pa
answer_says va (Err f) = fault va f.fsc

-- what the translations of an access say
abbrev pub translated_says : Placed → (Place → Said) → Said
translated_says (Ok place) said = said place
translated_says (Err failed) said = fault failed.addr failed.fault.fsc

abbrev pub reached_says : Option ℕ → Said
reached_says (Some pa) = value pa
reached_says None = faults

abbrev pub exception_says : Exception → Said
exception_says (DataAbort a) = fault a.addr a.fault.fsc
exception_says (InsnAbort a) = fault a.addr a.fault.fsc
exception_says Undefined = undefined
exception_says (Svc imm) = call imm
exception_says (Hvc imm) = call imm
exception_says (Smc imm) = call imm
exception_says (Brk imm) = call imm
exception_says PcAlignment = misaligned

abbrev pub stop_says : Stop → Said
stop_says (Stop.Exception e) = exception_says e
stop_says Stop.Unimplemented = unimplemented

abbrev pub load_says : LoadAnswer → Said
load_says (Ok v) = value v
load_says (Err s) = stop_says s

abbrev pub store_says : StoreAnswer → Said
store_says (Ok x) = done
store_says (Err s) = stop_says s

abbrev pub fetch_says : FetchAnswer → Said
fetch_says (Ok v) = value v
fetch_says (Err e) = exception_says e

-- memory: 0x10 at the lowest failing byte
abbrev pub memory_says : Verdict → ℕ → Said → Said
memory_says (Ok x) va said = said
memory_says (Err out) va said = fault (wrap (va + out.index)) 0x10

-- an access: what memory says, or else the fault of its translations, or its own answer
abbrev pub access_says : Placed → (Placed → Verdict) → ℕ → (Place → Said) → Said
access_says placed judge va said = memory_says (judge placed) va (translated_says placed said)

-- whether its n bytes lie in RAM; where its second page faults, those of its first
abbrev pub verdict_in : ℕ → List ℕ → ℕ → ℕ → Placed → Verdict
verdict_in base ram va n (Err failed) = first_part base (length ram) va failed.first
verdict_in base ram va n (Ok place) = verdict_of base (length ram) place n

-- a fetch reads four bytes: the fault of its translation, or 0x10, at its own address
abbrev pub insn_says : ℕ → List ℕ → ℕ → Answer → Said
insn_says base ram va (Err f) = fault va f.fsc
insn_says base ram va (Ok pa) =
    if within base (length ram) 4 pa then value (little_endian ram 4 (pa - base)) else fault va 0x10

-- What an operation answers, and RAM after it, from its call, RAM before it and the answers that its translations got.
abbrev pub says : Core → ℕ → List ℕ → Operation → Said
says c base ram (translate va kind) = answer_says va (translate_of c (word_at base ram 8) va kind).answer
says c base ram (access va n kind) = translated_says (translate_access_of c (word_at base ram 8) va n kind).answer lies
says c base ram (load va n) = load_says (read_of c base ram va n).answer
says c base ram (store va n v) = store_says (write_of c base ram va n).answer
says c base ram (fetch va) = fetch_says (fetch_of c base ram va).answer
says c base ram (fetch_pa va) = reached_says (fetch_pa_of c (word_at base ram 8) va).answer
says c base ram (data_pa va) = reached_says (data_pa_of c (word_at base ram 8) va).answer

abbrev pub said_by : ℕ → List ℕ → Operation → List Given → Said
said_by base ram (translate va kind) l = answer_says va (first_of l)
said_by base ram (access va n kind) l = translated_says (placed_from va l) lies
said_by base ram (load va n) l = access_says (placed_from va l) (verdict_in base ram va n) va (λ p. value (value_at base ram p n))
said_by base ram (store va n v) l = access_says (placed_from va l) (verdict_in base ram va n) va (λ p. done)
said_by base ram (fetch va) l = insn_says base ram va (first_of l)
said_by base ram (fetch_pa va) l = reached_says (reached_by (first_of l))
said_by base ram (data_pa va) l = reached_says (reached_by (first_of l))

abbrev pub ram_by : ℕ → List ℕ → Operation → List Given → List ℕ
ram_by base ram (store va n v) l = store_ram_end (placed_from va l) base ram n v
ram_by base ram _ l = ram

-- the translations that an operation makes, and their answers
abbrev pub translations_of : Core → ℕ → List ℕ → Operation → List Given
translations_of c base ram o = answers (access_now c base ram) (asks_of (on_now c) o) c.tlb
