-- A bit of RAM that is flipped, and the first whose flip changes an answer.
use Rattle.std.specs.Prelude.{if◌then◌else◌, ℕ, ◌+◌, ◌-◌, ◌*◌, ◌/◌, ◌%◌, ◌^◌, Bool, not, ◌&&◌, List, [], ◌∷◌, length, nat_lt, bit_xor, slice_index}
use Rattle.std.specs.Prelude.{slice_set, Option, None, Result, Ok, Err, find}
use Rattle.std.specs.Option.{option_or}
use Rattle.word.specs.Ram.{within, word_at}
use Rattle.word.specs.Tables.{table}
use Rattle.sysreg.specs.declared.regs.Control.{Control}
use Rattle.walk.specs.Regime.{stage1_on, untagged}
use Rattle.walk.specs.Walk.{fetches_of}
use Rattle.tlb.specs.declared.access.Kind.{Kind}
use Rattle.cpu.specs.Check.{passes}
use Rattle.cpu.specs.declared.check.Check.{Check}
use Rattle.flip.specs.Question.{question_of, answer_on, same_answer}
use Rattle.flip.specs.declared.{FlippedBit.FlippedBit, Question.Question}

-- RAM with its bit n, bit n mod 8 of byte n / 8, the other way; past its end there is none
unfoldable pub flipped : List ℕ → ℕ → List ℕ
flipped ram n = slice_set ram (n / 8) (bit_xor (slice_index ram (n / 8)) (2 ^ (n % 8)))

-- the number of a descriptor's bit in RAM
abbrev pub number_of_bit : ℕ → FlippedBit → ℕ
number_of_bit base f = 8 * (f.pa - base) + f.bit

-- RAM with a bit of a descriptor the other way; a descriptor that is not wholly in RAM has none, and none has one above 63
abbrev pub with_bit : ℕ → List ℕ → FlippedBit → List ℕ
with_bit base ram f = if nat_lt f.bit 64 && within base (length ram) 8 f.pa then flipped ram (number_of_bit base f) else ram

-- the bits of a descriptor, the lowest first
abbrev pub bits_of : ℕ → List FlippedBit
bits_of d = table 64 (λ b. record { pa = d; bit = b })

-- the first that a member of a list gives
abbrev pub find_map : {A B : Type 0} → (A → Option B) → List A → Option B
find_map f [] = None
find_map f (x ∷ xs) = option_or (f x) (find_map f xs)

module _ (q : Question) (base : ℕ) (ram : List ℕ) where
  -- the flip of bit n changes the answer
  abbrev pub changes : ℕ → Bool
  changes n = not (same_answer (answer_on q base (flipped ram n)) (answer_on q base ram))

  -- the addresses of the descriptors that the walk fetches from RAM as it is, in order
  abbrev pub descriptors : List ℕ
  descriptors = if stage1_on q.bank q.regime then fetches_of q.bank q.regime (untagged q.bank.tcr q.regime q.va) (word_at base ram 8) else []

  -- the lowest bit of a descriptor that changes the answer. One that is not wholly in RAM has none: its read aborts, whatever the bytes
  unfoldable pub first_in : ℕ → Option FlippedBit
  first_in d = if within base (length ram) 8 d then find (λ f. changes (number_of_bit base f)) (bits_of d) else None

  -- the first descriptor that has such a bit, and that bit
  unfoldable pub first_flip : Option FlippedBit
  first_flip = find_map first_in descriptors

-- the checks 1 and 2, and then what is found, by the registers that translate, the level, RAM and what is asked, and by nothing else
unfoldable pub flip_of : Control → ℕ → ℕ → List ℕ → ℕ → Kind → Bool → Result (Option FlippedBit) Check
flip_of control level base ram va kind user =
    if nat_lt 3 level then Err Check.Level
    else if passes base (length ram) then Err Check.Window
    else Ok (first_flip (question_of control level va kind user) base ram)
