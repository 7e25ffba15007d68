-- The translations that a step of a core makes, in order and until one faults, and the answers that they get in a
-- cache.
use Rattle.std.specs.Prelude.{ℕ, List, [], ◌∷◌, Ok, Err}
use Rattle.tlb.specs.Model.{Access}
use Rattle.tlb.specs.Translate.{translation_in, tlb_after, fetch_in, fetched_in, work_in, fetch_work_in}
use Rattle.tlb.specs.declared.{access.Kind.Kind, work.Work.Work, Tlb.Tlb}
use Rattle.tlb.specs.Answers.{Answer}
use Rattle.tlb.specs.declared.access.Kind.TheVariants.{Fetch}

-- One translation: of a kind, alone or in a load, a store or a zeroing; or the one that a fetch begins with, which asks
-- the fetch hint.
pub data Ask : Type 0 where
  translates : Kind → ℕ → Ask
  fetches : ℕ → Ask

abbrev pub kind_of : Ask → Kind
kind_of (translates k va) = k
kind_of (fetches va) = Fetch

abbrev pub address_of : Ask → ℕ
address_of (translates k va) = va
address_of (fetches va) = va

-- a translation made, and its answer
pub record Given : Type 0 where
  pub ask : Ask
  pub answer : Answer

-- on after an address, not after a fault
abbrev pub onward {ℓ} : {A : Type ℓ} → Answer → A → A → A
onward (Ok pa) x y = x
onward (Err f) x y = y

-- In a cache, by the accesses that registers, level and tables make of kinds and addresses: the answer to one
-- translation, the cache after it and what it did; the answers to a step's, the cache after them and what they did.
module _ (access : Kind → ℕ → Access) where
  abbrev pub answer_of : Ask → Tlb → Answer
  answer_of (translates k va) t = (translation_in (access k va) t).answer
  answer_of (fetches va) t = (fetch_in (access Fetch va) t).answer

  abbrev pub tlb_ask : Ask → Tlb → Tlb
  tlb_ask (translates k va) t = tlb_after (access k va) t
  tlb_ask (fetches va) t = fetched_in (access Fetch va) t

  -- what one translation did, and what a step's did
  abbrev pub work_of : Ask → Tlb → Work → Work
  work_of (translates k va) t w = work_in (access k va) t w
  work_of (fetches va) t w = fetch_work_in (access Fetch va) t w

  abbrev pub answers : List Ask → Tlb → List Given
  answers [] t = []
  answers (a ∷ l) t = record { ask = a; answer = answer_of a t } ∷ onward (answer_of a t) (answers l (tlb_ask a t)) []

  abbrev pub tlb_asks : List Ask → Tlb → Tlb
  tlb_asks [] t = t
  tlb_asks (a ∷ l) t = onward (answer_of a t) (tlb_asks l (tlb_ask a t)) (tlb_ask a t)

  abbrev pub works : List Ask → Tlb → Work → Work
  works [] t w = w
  works (a ∷ l) t w = onward (answer_of a t) (works l (tlb_ask a t) (work_of a t w)) (work_of a t w)
