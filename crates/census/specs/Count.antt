-- Counting: of how many numbers below n something holds, and how often each place below m is named.
use Rattle.std.specs.Prelude.{ℕ, zero, suc, ◌+◌, Bool, List, [], ◌∷◌, nat_eq, ◌*◌, Option, Ok, Err, ◌≡◌, ◌<◌, ◌≤◌, true, false, ◌⊎◌, ◌==◌}
use Rattle.std.specs.Prelude.{slice_index}
use Rattle.word.specs.Bits.{flag, align_down, wrap}
use Rattle.word.specs.Tables.{table}
use Rattle.sysreg.specs.declared.regs.Control.{Control}
use Rattle.walk.specs.Regime.{bank_of}
use Rattle.sysreg.specs.Regs.{regime_of}
use Rattle.walk.specs.Walk.{fresh_of}
use Rattle.walk.specs.declared.{regime.Bank.Bank, fresh.Fresh.Fresh}
use Rattle.sysreg.specs.declared.regs.Regime.{Regime}
use Rattle.walk.specs.declared.fresh.Fresh.TheVariants.{Flat, Ended}
use Rattle.walk.specs.Answers.{Walked}

-- the number of i below n of which p holds
unfoldable pub how_many : (ℕ → Bool) → ℕ → ℕ
how_many p zero = 0
how_many p (suc n) = how_many p n + flag (p n) 1

-- the sum of a list
unfoldable pub total : List ℕ → ℕ
total [] = 0
total (x ∷ xs) = x + total xs

-- how many i below n have their place at j
abbrev pub named : (ℕ → ℕ) → ℕ → ℕ → ℕ
named place n j = how_many (λ i. nat_eq (place i) j) n

-- the same of each place below m
abbrev pub tally : ℕ → (ℕ → ℕ) → ℕ → List ℕ
tally m place n = table m (named place n)

-- The page census: over a range of 4 KiB pages, how many a fresh walk ends at each status code, how many at each permission byte, and how
-- many are flat.

-- 129 places: a status code's is its number, a permission byte's 64 more, and 128 is that of flat pages
abbrev pub walk_place : Walked → ℕ
walk_place (Err status) = status
walk_place (Ok leaf) = 64 + leaf.perms

abbrev pub place_of : Fresh → ℕ
place_of (Ended w) = walk_place w
place_of (Flat pa) = 128

-- the i-th page from the page of first: "the low twelve bits of the first address are dropped"
abbrev pub page_at : ℕ → ℕ → ℕ
page_at first i = wrap (align_down first 12 + i * 4096)

-- each page by its own address, untagged as for a translation
abbrev pub place_at : Bank → Regime → (ℕ → Option ℕ) → ℕ → ℕ
place_at s r memory va = place_of (fresh_of s r va memory)

-- the 129 counts of so many pages
unfoldable pub census_of : Bank → Regime → (ℕ → Option ℕ) → ℕ → ℕ → List ℕ
census_of s r memory first pages = tally 129 (λ i. place_at s r memory (page_at first i)) pages

-- under the registers kept, in the regime of an exception level
abbrev pub census_at : Control → ℕ → (ℕ → Option ℕ) → ℕ → ℕ → List ℕ
census_at control level memory first pages = census_of (bank_of control (regime_of level)) (regime_of level) memory first pages

-- What the laws of a census speak of: how a page ends, which statuses no walk ends at, and each place of a census. The laws are the contracts of
-- `theorems`.

-- WHAT A FRESH ANSWER IS

-- a fault of this status
abbrev pub faults_with : ℕ → Fresh → Bool
faults_with status (Ended (Err n)) = n == status
faults_with status (Ended (Ok leaf)) = false
faults_with status (Flat pa) = false

-- a leaf of this permission byte
abbrev pub has_rights : ℕ → Fresh → Bool
has_rights perms (Ended (Err n)) = false
has_rights perms (Ended (Ok leaf)) = leaf.perms == perms
has_rights perms (Flat pa) = false

abbrev pub is_flat : Fresh → Bool
is_flat (Ended w) = false
is_flat (Flat pa) = true

-- NEVER

-- a status that no walk ends at: 0x08, 0x0C to 0x13, 0x18 on
abbrev pub NoStatus : ℕ → Type 0
NoStatus n = (n ≡ 8) ⊎ (((12 ≤ n) × (n < 20)) ⊎ (24 ≤ n))

-- A CENSUS

module _ (s : Bank) (r : Regime) (memory : ℕ → Option ℕ) (first : ℕ) where
  -- how the i-th page ends with nothing cached
  abbrev pub end_at : ℕ → Fresh
  end_at i = fresh_of s r (page_at first i) memory

  abbrev pub census_count : ℕ → ℕ → ℕ
  census_count pages j = slice_index (census_of s r memory first pages) j

-- a fact of every census: of its places, of how each of its pages ends, and of how many pages it has
abbrev pub EachCensus : ((ℕ → ℕ) → (ℕ → Fresh) → ℕ → Type 0) → Type 0
EachCensus P = (s : Bank) (r : Regime) (memory : ℕ → Option ℕ) (first pages : ℕ) → P (census_count s r memory first pages) (end_at s r memory first) pages
