-- What says that nothing was written: the number, and the first word of the answer.
use Rattle.std.specs.Prelude.{◌≡◌, Bool, true, false, List, ℕ, ◌<◌, get_or}
use Rattle.std.proofs.Common.{arith}
use Rattle.cpu.specs.Says.{Said, value, lies, done, fault, faults, undefined, unimplemented, call, misaligned}
use Rattle.cpu.specs.declared.Core.{Core}
use Rattle.cpu.specs.declared.{call.Call.Call, call.Reply.Reply}
use Rattle.cpu.specs.Step.{step_of, ram_after}
use Rattle.cpu.specs.EveryCallEnds.{Outcome, number, says, outcome_of, Ran}
use Rattle.cpu.proofs.EveryCallEnds.{each_call_ends}
use Rattle.call_words.specs.Replies.{code_by, value_by, reads_by, words_by, step_words}

-- a refusal, Undefined, Unimplemented, and the exceptions that stop no operation
abbrev pub still_said : Said → Bool
still_said (value v) = false
still_said (lies p) = false
still_said done = false
still_said (fault a f) = false
still_said faults = false
still_said undefined = true
still_said unimplemented = true
still_said (call imm) = true
still_said misaligned = true

abbrev pub still : Outcome → Bool
still (number n) = true
still (says s) = still_said s

module _ (c : Core) (ram : List ℕ) where
  ran-still : (d : Core) (after : List ℕ) (o : Outcome) → Ran c ram d after o → still o ≡ true → (d ≡ c) × (after ≡ ram)
  ran-still d after o h t = grind arith

-- such a call leaves core and RAM
pub step-still : (c : Core) (base : ℕ) (ram : List ℕ) (x : Call) → still (outcome_of (step_of c base ram x).reply) ≡ true
    → ((step_of c base ram x).core ≡ c) × (ram_after c base ram x ≡ ram)
step-still c base ram x t = let e = each_call_ends c base ram x in grind (arith, ran-still)

-- a number from 1 to 255 is of such a reply: 1 to 63 the checks', 65 Undefined, 66 Unimplemented
pub number-still : (r : Reply) → 0 < code_by r → code_by r < 256 → still (outcome_of r) ≡ true
number-still r l h = grind arith

-- and it has no value
pub value-still : (r : Reply) (old : ℕ) → still (outcome_of r) ≡ true → value_by r old ≡ old
value-still r old e = grind arith

-- nor does it report what it read
pub reads-still : (r : Reply) (reads old : ℕ) → still (outcome_of r) ≡ true → reads_by r reads old ≡ old
reads-still r reads old e = grind arith

-- an answer whose first word is 5, 6 or 7 is of such a reply
pub words-still : (r : Reply) (reads : ℕ) → 4 < get_or (step_words r reads) 0 0 → get_or (step_words r reads) 0 0 < 8 → still (outcome_of r) ≡ true
unfolding words_by
words-still r reads l h = grind arith
