-- What holds of every walk's answer, for those who know the walk by its definition alone: the leaf's level, output address and
-- permission byte, and the status of a fault.
use Rattle.std.specs.Prelude.{◌≡◌, ℕ, ◌%◌, ◌^◌, ◌≤◌, ◌<◌, Ok, Err, Option}
use Rattle.word.specs.Bits.{align_down}
use Rattle.sysreg.specs.declared.regs.Regime.{Regime}
use Rattle.walk.specs.Table.{Fault, address_size, translation, access_flag, external_abort, status_of, Translation, Result, mapped, faults}
use Rattle.walk.specs.declared.{level.Leaf.Leaf, fresh.Fresh.Fresh, regime.Bank.Bank}
use Rattle.walk.specs.declared.fresh.Fresh.TheVariants.{Flat, Ended}
use Rattle.walk.specs.Answers.{Walked}
use Prim.Native.Nat.{◌+◌, ◌/◌}

-- the levels at which a fault of each kind can be: an access flag is read in a leaf, and no leaf is above level 1
abbrev pub Levelled : Fault → Type 0
Levelled (address_size n) = n ≤ 3
Levelled (translation n) = n ≤ 3
Levelled (access_flag n) = (1 ≤ n) × (n ≤ 3)
Levelled (external_abort n) = n ≤ 3

-- a status of the table of answers
pub record Status (n : ℕ) : Type 0 where
  pub fault : Fault
  pub level : Levelled fault
  pub code : n ≡ status_of fault

-- what holds of a leaf
pub record LeafBounds (leaf : Leaf) : Type 0 where
  pub level-low : 1 ≤ leaf.level
  pub level-high : leaf.level ≤ 3
  pub oa : leaf.oa < 2 ^ 44
  pub perms : leaf.perms < 64

-- and of what the manual's walk of an address finds, which lies at the address's offset in its page
pub record Found (va : ℕ) (t : Translation) : Type 0 where
  pub level-low : 1 ≤ t.level
  pub level-high : t.level ≤ 3
  pub address : t.address < 2 ^ 44
  pub offset : t.address % 2 ^ 12 ≡ va % 2 ^ 12

abbrev pub Sound : ℕ → Result → Type 0
Sound va (mapped t) = Found va t
Sound va (faults f) = Levelled f

abbrev pub SoundWalked : ℕ → Walked → Type 0
SoundWalked va (Ok leaf) = LeafBounds leaf × (leaf.oa % 2 ^ 12 ≡ va % 2 ^ 12)
SoundWalked va (Err n) = Status n

-- of a fresh answer: a leaf within its bounds, a status of the table of answers, or flat
abbrev pub SoundEnd : Walked → Type 0
SoundEnd (Ok leaf) = LeafBounds leaf
SoundEnd (Err n) = Status n

abbrev pub SoundFresh : Fresh → Type 0
SoundFresh (Ended w) = SoundEnd w
SoundFresh (Flat pa) = Unit {0}

-- A walk goes by pages: addresses of one page have one walk but for the offset in the page, which is the address's own.

-- a leaf with the output address of its page
abbrev pub paged_leaf : Leaf → Leaf
paged_leaf leaf = record leaf { oa = align_down leaf.oa 12 }

-- a walk of a page
abbrev pub paged : Walked → Walked
paged (Ok leaf) = Ok (paged_leaf leaf)
paged (Err n) = Err n

-- a leaf as another address of its page has it
abbrev pub leaf_at : Leaf → ℕ → Leaf
leaf_at leaf va = record leaf { oa = align_down leaf.oa 12 + va % 2 ^ 12 }

-- a fact of every two addresses of one page
abbrev pub EachPage : (Bank → Regime → (ℕ → Option ℕ) → ℕ → ℕ → Type 0) → Type 0
EachPage P = (s : Bank) (r : Regime) (memory : ℕ → Option ℕ) (va vb : ℕ) → va / 2 ^ 12 ≡ vb / 2 ^ 12 → P s r memory va vb
