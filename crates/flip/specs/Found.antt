-- What the bit that is found means, by conditions: where it lies, that it changes the answer, and that none before it does. The laws are the
-- contract of `theorems::found_bits`.
use Rattle.std.specs.Prelude.{◌≡◌, ℕ, ◌+◌, ◌-◌, ◌*◌, ◌<◌, ◌≤◌, ◌⊎◌, true, List, length, slice_get, Some}
use Rattle.word.specs.Ram.{word_at}
use Rattle.walk.specs.Regime.{stage1_on, untagged}
use Rattle.walk.specs.Walk.{fetches_of}
use Rattle.tlb.specs.Answers.{Answer}
use Rattle.flip.specs.Question.{answer_on}
use Rattle.flip.specs.Flip.{flipped}
use Rattle.flip.specs.declared.{FlippedBit.FlippedBit, Question.Question}

-- one bit stands before another: by their descriptors' places in walk order, and then by the bit
abbrev pub Earlier : ℕ → FlippedBit → ℕ → FlippedBit → Type 0
Earlier m g n f = (m < n) ⊎ ((m ≡ n) × (g.bit < f.bit))

module _ (q : Question) (base : ℕ) (ram : List ℕ) where
  -- the answer with a bit of the 64 from an address the other way
  abbrev pub turned : FlippedBit → Answer
  turned f = answer_on q base (flipped ram (8 * (f.pa - base) + f.bit))

  -- a bit of the descriptor that the walk fetches after n others, which lies in RAM with all its bytes
  pub record IsBitOf (n : ℕ) (f : FlippedBit) : Type 0 where
    pub on : stage1_on q.bank q.regime ≡ true
    pub fetched : slice_get (fetches_of q.bank q.regime (untagged q.bank.tcr q.regime q.va) (word_at base ram 8)) n ≡ Some f.pa
    pub begins : base ≤ f.pa
    pub ends : f.pa + 8 ≤ base + length ram
    pub bit : f.bit < 64

  -- no bit before it changes the answer
  abbrev pub NoneBefore : ℕ → FlippedBit → Type 0
  NoneBefore n f = (m : ℕ) (g : FlippedBit) → IsBitOf m g → Earlier m g n f → turned g ≡ answer_on q base ram

-- a fact of every question over every window of RAM
abbrev pub EachQuestion : (Question → ℕ → List ℕ → Type 0) → Type 0
EachQuestion P = (q : Question) (base : ℕ) (ram : List ℕ) → P q base ram
