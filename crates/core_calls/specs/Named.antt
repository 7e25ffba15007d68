-- A call by its words: what is given where they name one; else 64, and nothing changes.
use Rattle.std.specs.Prelude.{List, ℕ}
use Rattle.cpu.specs.declared.Core.{Core}
use Rattle.cpu.specs.Step.{step_of, ram_after}
use Rattle.cpu.specs.Work.{step_work}
use Rattle.tlb.specs.Translate.{no_work}
use Rattle.call_words.specs.Replies.{code_by, value_by, reads_by, step_words}
use Rattle.call_words.specs.declared.op.DecodedCall.{DecodedCall}
use Rattle.call_words.specs.declared.op.DecodedCall.TheVariants.{Known, Unknown}

-- the number; the value and what was read, or else the word as it was; RAM and the core
abbrev pub call_number : DecodedCall → Core → ℕ → List ℕ → ℕ
call_number (Known call) c base ram = code_by (step_of c base ram call).reply
call_number Unknown c base ram = 64

abbrev pub call_value : DecodedCall → Core → ℕ → List ℕ → ℕ → ℕ
call_value (Known call) c base ram old = value_by (step_of c base ram call).reply old
call_value Unknown c base ram old = old

abbrev pub call_reads : DecodedCall → Core → ℕ → List ℕ → ℕ → ℕ
call_reads (Known call) c base ram old = reads_by (step_of c base ram call).reply (step_work c base ram call no_work).reads old
call_reads Unknown c base ram old = old

abbrev pub call_ram : DecodedCall → Core → ℕ → List ℕ → List ℕ
call_ram (Known call) c base ram = ram_after c base ram call
call_ram Unknown c base ram = ram

abbrev pub call_core : DecodedCall → Core → ℕ → List ℕ → Core
call_core (Known call) c base ram = (step_of c base ram call).core
call_core Unknown c base ram = c

-- every call by eight words: 0, and five words of answer
abbrev pub call_code : DecodedCall → ℕ
call_code (Known call) = 0
call_code Unknown = 64

abbrev pub call_words : DecodedCall → Core → ℕ → List ℕ → List ℕ → List ℕ
call_words (Known call) c base ram old = step_words (step_of c base ram call).reply (step_work c base ram call no_work).reads
call_words Unknown c base ram old = old
