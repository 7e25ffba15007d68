-- The order of a walk's answers: what the rows of the table of answers speak of, from the entry of a walk to the access flag of its leaf. The rows
-- themselves are the contract of `theorems::order_of_answers`. A row supposes its own condition and that the rows above do not hold, and says nothing
-- of the rows below: whatever those conditions are, the answer is this row's. Rows below the entry are of any table that the walk reaches.
use Rattle.std.specs.Prelude.{◌≡◌, List, Option, Some, Ok, ℕ, ◌+◌, ◌-◌, ◌≤◌, length, None}
use Rattle.std.proofs.Math.Bool.{true, false}
use Rattle.sysreg.specs.Regs.{single_priv}
use Rattle.sysreg.specs.declared.regs.Regime.{Regime}
use Rattle.walk.specs.Regime.{wxn_of}
use Rattle.walk.specs.Descriptor.{valid, table_or_page, af}
use Rattle.walk.specs.Table.{firstblocklevel, in_range, beyond, Lookup, deeper, first_lookup, range_of, params_of, leaf_translation, descaddr}
use Rattle.walk.specs.Table.{lookup_next, Result, ends, startlevel}
use Rattle.walk.specs.Walk.{leaf_of, walk_of, fetches_of}
use Rattle.walk.specs.declared.{regime.Bank.Bank, range.Range.Range, level.Params.Params, level.Leaf.Leaf}
use Rattle.walk.specs.Answers.{Walked}
use Prim.Native.Nat.{◌<◌}

-- what a descriptor is at a level: a table, a page or block, or a leaf where there can be none
pub data TableAt (l : Lookup) (desc : ℕ) : Type 0 where
  table : l.level < 3 → valid desc ≡ true → table_or_page desc ≡ true → TableAt l desc

pub data LeafAt (p : Params) (l : Lookup) (desc : ℕ) : Type 0 where
  page : l.level ≡ 3 → valid desc ≡ true → table_or_page desc ≡ true → LeafAt p l desc
  block : firstblocklevel p.largegrain ≤ l.level → l.level < 3 → valid desc ≡ true → table_or_page desc ≡ false → LeafAt p l desc

pub data NoLeafAt (p : Params) (l : Lookup) (desc : ℕ) : Type 0 where
  last : l.level ≡ 3 → table_or_page desc ≡ false → NoLeafAt p l desc
  early : l.level < firstblocklevel p.largegrain → table_or_page desc ≡ false → NoLeafAt p l desc

-- a descriptor is invalid or one of these
pub data Kind (p : Params) (l : Lookup) (desc : ℕ) : Type 0 where
  is_invalid : valid desc ≡ false → Kind p l desc
  is_table : TableAt l desc → Kind p l desc
  is_no_leaf : NoLeafAt p l desc → Kind p l desc
  is_leaf : LeafAt p l desc → Kind p l desc

-- what the registers say of every level of a walk
abbrev pub params_at : Bank → Regime → ℕ → Params
params_at s r va = params_of s r (range_of s r va)

-- the tables that a walk reaches: the first, where no row of the entry holds, and each that a table leads to
pub data Reached (s : Bank) (r : Regime) (va : ℕ) (memory : ℕ → Option ℕ) : Lookup → Type 0 where
  entry : in_range (range_of s r va) va ≡ true → (range_of s r va).disabled ≡ false
      → beyond (params_at s r va).outputsize (range_of s r va).baseregister ≡ false → Reached s r va memory (first_lookup (range_of s r va))
  onward : {l k : Lookup} → Reached s r va memory l → lookup_next memory (params_at s r va) va l ≡ deeper k → Reached s r va memory k

-- one level down from a table
pub record Below (s : Bank) (r : Regime) (va : ℕ) (memory : ℕ → Option ℕ) (l : Lookup) : Type 0 where
  pub lookup : Lookup
  pub level : lookup.level ≡ l.level + 1
  pub reached : Reached s r va memory lookup

-- a fact of every walk: of its range, what its registers say of every level, its address, its answer, and the addresses that it fetches from
abbrev pub EachWalk : (Range → Params → ℕ → Walked → List ℕ → Type 0) → Type 0
EachWalk P =
    (s : Bank) (r : Regime) (va : ℕ) (memory : ℕ → Option ℕ) → P (range_of s r va) (params_at s r va) va (walk_of s r va memory) (fetches_of s r va memory)

-- a fact of every table that a walk reaches: what the memory holds at the descriptor's address, and the walk's answer
abbrev pub EachTable : (Lookup → Option ℕ → Walked → Type 0) → Type 0
EachTable P =
    (s : Bank) (r : Regime) (va : ℕ) (memory : ℕ → Option ℕ) (l : Lookup) → Reached s r va memory l
    → P l (memory (descaddr (params_at s r va) va l)) (walk_of s r va memory)

-- a fact of every descriptor that a walk reads, at any table that it reaches
abbrev pub AtEach : (Bank → Regime → ℕ → (ℕ → Option ℕ) → Lookup → ℕ → Type 0) → Type 0
AtEach P =
    (s : Bank) (r : Regime) (va : ℕ) (memory : ℕ → Option ℕ) (l : Lookup) → Reached s r va memory l
    → (desc : ℕ) → memory (descaddr (params_at s r va) va l) ≡ Some desc → P s r va memory l desc

-- of what the registers say of every level, the table, the descriptor and the walk's answer
abbrev pub EachDescriptor : (Params → Lookup → ℕ → Walked → Type 0) → Type 0
EachDescriptor P = AtEach (λ s r va memory l desc. P (params_at s r va) l desc (walk_of s r va memory))

-- a table whose next address is not too large leads one level down
abbrev pub TablesLead : Type 0
TablesLead = AtEach (λ s r va memory l desc. TableAt l desc → beyond (params_at s r va).outputsize desc ≡ false → Below s r va memory l)

-- a leaf of which no row holds is the answer
abbrev pub LeafAnswers : Type 0
LeafAnswers =
    AtEach (λ s r va memory l desc. LeafAt (params_at s r va) l desc → beyond (params_at s r va).outputsize desc ≡ false → af desc ≡ true
    → walk_of s r va memory ≡ Ok (leaf_of (single_priv r) (wxn_of s) (leaf_translation (params_at s r va) va l desc)))

-- How many descriptors a walk reads, from levels alone: from the level at which its tables begin to that at which it ends.
module _ (s : Bank) (r : Regime) (va : ℕ) (memory : ℕ → Option ℕ) where
  abbrev pub reads : ℕ
  reads = length (fetches_of s r va memory)

  -- from the first level to this one
  abbrev pub reads_to : ℕ → ℕ
  reads_to level = level + 1 - startlevel (range_of s r va)

  -- some, where the walk begins: in range, enabled, with a base that is not too large
  abbrev pub SomeRead : Type 0
  SomeRead =
      in_range (range_of s r va) va ≡ true → (range_of s r va).disabled ≡ false
      → beyond (params_at s r va).outputsize (range_of s r va).baseregister ≡ false → 1 ≤ reads

  -- a walk that ends at a table of the level
  abbrev pub EndsAt : Type 0
  EndsAt =
      (l : Lookup) → Reached s r va memory l → (x : Result) → lookup_next memory (params_at s r va) va l ≡ ends x
      → reads ≡ reads_to l.level

  -- that has no word there
  abbrev pub OutsideCounts : Type 0
  OutsideCounts = (l : Lookup) → Reached s r va memory l → memory (descaddr (params_at s r va) va l) ≡ None → reads ≡ reads_to l.level

  -- that ends in a leaf of the level
  abbrev pub LeafCounts : Type 0
  LeafCounts = (leaf : Leaf) → walk_of s r va memory ≡ Ok leaf → reads ≡ reads_to leaf.level

-- a fact of every walk
abbrev pub EveryWalk : (Bank → Regime → ℕ → (ℕ → Option ℕ) → Type 0) → Type 0
EveryWalk says = (s : Bank) (r : Regime) (va : ℕ) (memory : ℕ → Option ℕ) → says s r va memory
