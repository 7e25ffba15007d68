-- What is told of a flipped bit: the bit that the library finds, and what the answer becomes; or why there is none.
use Rattle.std.specs.Prelude.{if◌then◌else◌, ◌≡◌, ℕ, Bool, List, [], ◌∷◌, length, Option, Some, None, Result, Ok, Err}
use Rattle.word.specs.Ram.{within}
use Rattle.sysreg.specs.declared.regs.Control.{Control}
use Rattle.tlb.specs.declared.access.Kind.{Kind}
use Rattle.cpu.specs.declared.check.Check.{Check}
use Rattle.flip.specs.Question.{question_of, answer_on}
use Rattle.flip.specs.Flip.{descriptors, flip_of, with_bit}
use Rattle.flip.specs.declared.{FlippedBit.FlippedBit, Question.Question}
use Rattle.walk_report.specs.Told.{told_of}
use Rattle.walk_report.specs.Bits.{kind_bit}
use Rattle.flip_report.specs.declared.found.Found.{Found}
use Rattle.flip_report.specs.declared.found.Found.TheVariants.{Bit, NoBit, OutsideRam, NoDescriptor}

-- why no bit changes an answer, by the first of the descriptors that the walk fetches
abbrev pub unchanged_by : ℕ → ℕ → List ℕ → Found
unchanged_by base len [] = NoDescriptor
unchanged_by base len (d ∷ ds) = if within base len 8 d then NoBit else OutsideRam (record { 0 = d })

abbrev pub unchanged_of : Question → ℕ → List ℕ → Found
unchanged_of q base ram = unchanged_by base (length ram) (descriptors q base ram)

-- the bit by its descriptor's address, its number and its name, and the answer with that bit the other way
abbrev pub IsFound : Question → ℕ → List ℕ → Option FlippedBit → Found → Type 0
IsFound q base ram (Some f) (Bit level at bit field becomes) =
    (at.0 ≡ f.pa) × (bit ≡ f.bit) × (field ≡ kind_bit f.bit) × (becomes ≡ told_of (answer_on q base (with_bit base ram f)))
IsFound q base ram (Some f) found = ⊥
IsFound q base ram None found = found ≡ unchanged_of q base ram

-- of what the library says: no report where a check is missed
abbrev pub IsToldOf : Question → ℕ → List ℕ → Result (Option FlippedBit) Check → Found → Type 0
IsToldOf q base ram (Ok flip) found = IsFound q base ram flip found
IsToldOf q base ram (Err check) found = ⊥

abbrev pub IsTold : Control → ℕ → ℕ → List ℕ → ℕ → Kind → Bool → Found → Type 0
IsTold control level base ram va kind user found =
    IsToldOf (question_of control level va kind user) base ram (flip_of control level base ram va kind user) found
