-- Worked runs, in numbers: what is seen of a list of operations on a new cache and on the empty plain model, the same rows of both. Where a
-- definition is wrong, the cache's rows are others, computed.
use Rattle.std.specs.Prelude.{◌+◌, ◌*◌, if◌then◌else◌, ◌≡◌, ℕ, Bool, true, false, List, [], ◌∷◌, map, filter, Ok, Err}
use Rattle.sysreg.specs.declared.regs.Regime.{Regime}
use Rattle.sysreg.specs.declared.regs.Regime.TheVariants.{El1, El2, El3}
use Rattle.tlb.specs.Model.{Slot, empty, holds, Access, empty_model}
use Rattle.tlb.specs.Tlb.{fresh}
use Rattle.tlb.specs.Runs.{Op, invalidates, retags, broadcasts, translates, fetches, Seen, run, model_run}
use Rattle.tlb.specs.declared.{access.Kind.Kind, Inval.Inval}
use Rattle.tlb.specs.Answers.{Answer}
use Rattle.tlb.specs.declared.access.Kind.TheVariants.{Read, Write, Fetch}
use Rattle.tlb.specs.declared.Inval.TheVariants.{All, Page, Asid}
use Rattle.walk.specs.Answers.{Walked}

-- operations, each with the row that it shows, on the cache and on the plain model
pub record Shows (row : Seen → List ℕ) (steps : List (Op × List ℕ)) : Type 0 where
  pub cache : map row (run (map (λ s. s.0) steps) fresh) ≡ map (λ s. s.1) steps
  pub model : map row (model_run (map (λ s. s.0) steps) empty_model) ≡ map (λ s. s.1) steps

-- hits and walks of some levels
abbrev tallies : List ℕ → Seen → List ℕ
tallies [] s = []
tallies (l ∷ ls) s = s.counts.hits l ∷ s.counts.walks l ∷ tallies ls s

-- an access with stage 1 on
abbrev access_by : Regime → ℕ → Bool → Kind → ℕ → Walked → Access
access_by r level mark k va w =
    record {
      privilege = record { level = level; unprivileged = mark };
      kind = k;
      va = va;
      on = true;
      regime = r;
      untagged = va;
      walk = w;
      reads = 3;
    }

abbrev asked : Regime → ℕ → Bool → Kind → ℕ → Walked → Op
asked r level mark k va w = translates (access_by r level mark k va w)

-- A BLOCK and its invalidations: a 2 MiB block is walked, hinted, dropped by a Page of another of its pages, walked again, found after an Asid
-- that is not its own and after a Page of the next block, out of use under another ASID, and gone after an All. Each of the four takes
-- the hint along, which would answer every one of these reads by itself.

-- a block of the ASID in force, readable at EL1
abbrev block : ℕ → Walked
block oa = Ok (record { oa = oa; desc = 0; perms = 8; level = 2; global = false })

-- an EL1 access to 0x40003123
abbrev access : Kind → Walked → Op
access k w = asked El1 1 false k 0x40003123 w

-- the answer as a number, hits and walks of EL1, flushes, drops, epoch
abbrev answered : Slot Answer → ℕ
answered empty = 0
answered (holds (Ok pa)) = pa
answered (holds (Err f)) = f.fsc

abbrev row : Seen → List ℕ
row s = answered s.answer ∷ s.counts.hits 1 ∷ s.counts.walks 1 ∷ s.counts.flushes ∷ s.counts.drops ∷ s.counts.epoch ∷ []

abbrev pub WorkedRun : Type 0
WorkedRun =
    Shows row
    ((access Read (block 0x80003000), 0x80003123 ∷ 0 ∷ 1 ∷ 0 ∷ 0 ∷ 0 ∷ [])
    ∷ (access Read (block 0x80003000), 0x80003123 ∷ 0 ∷ 1 ∷ 0 ∷ 0 ∷ 0 ∷ [])
    ∷ (access Write (block 0x80003000), 0x0E ∷ 1 ∷ 1 ∷ 0 ∷ 0 ∷ 0 ∷ [])
    ∷ (invalidates (Page 0x401FF), 0 ∷ 1 ∷ 1 ∷ 0 ∷ 1 ∷ 1 ∷ [])
    ∷ (access Read (block 0x80003000), 0x80003123 ∷ 1 ∷ 2 ∷ 0 ∷ 1 ∷ 1 ∷ [])
    ∷ (invalidates (Asid 1), 0 ∷ 1 ∷ 2 ∷ 0 ∷ 1 ∷ 2 ∷ [])
    ∷ (access Read (block 0x80003000), 0x80003123 ∷ 2 ∷ 2 ∷ 0 ∷ 1 ∷ 2 ∷ [])
    ∷ (invalidates (Page 0x40200), 0 ∷ 2 ∷ 2 ∷ 0 ∷ 2 ∷ 3 ∷ [])
    ∷ (access Read (block 0x80003000), 0x80003123 ∷ 3 ∷ 2 ∷ 0 ∷ 2 ∷ 3 ∷ [])
    ∷ (retags 1, 0 ∷ 3 ∷ 2 ∷ 0 ∷ 2 ∷ 4 ∷ [])
    ∷ (access Read (block 0xA0003000), 0xA0003123 ∷ 3 ∷ 3 ∷ 0 ∷ 2 ∷ 4 ∷ [])
    ∷ (invalidates All, 0 ∷ 3 ∷ 3 ∷ 1 ∷ 2 ∷ 5 ∷ [])
    ∷ (access Read (Err 6), 6 ∷ 3 ∷ 4 ∷ 1 ∷ 2 ∷ 5 ∷ [])
    ∷ [])

-- LEVELS AND THE MARK: each access is counted at its own level, and under the mark EL1's at EL1.

-- a page that all may use, for every ASID, as a leaf of a level
abbrev open-page : ℕ → Walked
open-page level = Ok (record { oa = 0x90005000; desc = 0; perms = 63; level = level; global = true })

abbrev from : ℕ → Bool → Kind → ℕ → Op
from level mark k va = asked El1 level mark k va (open-page 3)

abbrev pub WorkedAtLevels : Type 0
WorkedAtLevels =
    Shows (tallies (0 ∷ 1 ∷ 2 ∷ 3 ∷ []))
    ((from 0 false Read 0x5000, 0 ∷ 1 ∷ 0 ∷ 0 ∷ 0 ∷ 0 ∷ 0 ∷ 0 ∷ [])
    ∷ (from 1 false Read 0x5000, 0 ∷ 1 ∷ 1 ∷ 0 ∷ 0 ∷ 0 ∷ 0 ∷ 0 ∷ [])
    ∷ (from 1 true Read 0x5000, 0 ∷ 1 ∷ 2 ∷ 0 ∷ 0 ∷ 0 ∷ 0 ∷ 0 ∷ [])
    ∷ (from 1 true Write 0x6000, 0 ∷ 1 ∷ 2 ∷ 1 ∷ 0 ∷ 0 ∷ 0 ∷ 0 ∷ [])
    ∷ (from 0 false Write 0x6000, 1 ∷ 1 ∷ 2 ∷ 1 ∷ 0 ∷ 0 ∷ 0 ∷ 0 ∷ [])
    ∷ (from 0 false Write 0x6008, 1 ∷ 1 ∷ 2 ∷ 1 ∷ 0 ∷ 0 ∷ 0 ∷ 0 ∷ [])
    ∷ (from 1 true Fetch 0x7000, 1 ∷ 1 ∷ 2 ∷ 2 ∷ 0 ∷ 0 ∷ 0 ∷ 0 ∷ [])
    ∷ [])

-- PLACES. Under the mark no hint answers, so that each access shows whether its page's entry is there. Pages 5 and 0x405 share a slot,
-- 5 and 0x205 do not; one page of EL1, of EL2 and of EL3 has one slot, and none of them serves another. Without the mark pages 5, 0x10D
-- and 0x425 share a hint's place, 5 and 0x105 do not.

abbrev pub WorkedSlots : Type 0
WorkedSlots =
    Shows (tallies (1 ∷ 2 ∷ 3 ∷ []))
    ((from 1 true Read 0x5000, 0 ∷ 1 ∷ 0 ∷ 0 ∷ 0 ∷ 0 ∷ [])
    ∷ (from 1 true Read 0x405000, 0 ∷ 2 ∷ 0 ∷ 0 ∷ 0 ∷ 0 ∷ [])
    ∷ (from 1 true Read 0x5000, 0 ∷ 3 ∷ 0 ∷ 0 ∷ 0 ∷ 0 ∷ [])
    ∷ (from 1 true Read 0x205000, 0 ∷ 4 ∷ 0 ∷ 0 ∷ 0 ∷ 0 ∷ [])
    ∷ (from 1 true Read 0x5000, 1 ∷ 4 ∷ 0 ∷ 0 ∷ 0 ∷ 0 ∷ [])
    ∷ (asked El2 2 true Read 0x5000 (open-page 3), 1 ∷ 4 ∷ 0 ∷ 1 ∷ 0 ∷ 0 ∷ [])
    ∷ (asked El3 3 true Read 0x5000 (open-page 3), 1 ∷ 4 ∷ 0 ∷ 1 ∷ 0 ∷ 1 ∷ [])
    ∷ (asked El2 2 true Read 0x5000 (open-page 3), 1 ∷ 4 ∷ 0 ∷ 2 ∷ 0 ∷ 1 ∷ [])
    ∷ (from 1 true Read 0x5000, 1 ∷ 5 ∷ 0 ∷ 2 ∷ 0 ∷ 1 ∷ [])
    ∷ (from 1 false Read 0x5000, 2 ∷ 5 ∷ 0 ∷ 2 ∷ 0 ∷ 1 ∷ [])
    ∷ (from 1 false Read 0x5000, 2 ∷ 5 ∷ 0 ∷ 2 ∷ 0 ∷ 1 ∷ [])
    ∷ (from 1 false Read 0x105000, 2 ∷ 6 ∷ 0 ∷ 2 ∷ 0 ∷ 1 ∷ [])
    ∷ (from 1 false Read 0x5000, 2 ∷ 6 ∷ 0 ∷ 2 ∷ 0 ∷ 1 ∷ [])
    ∷ (from 1 false Read 0x10D000, 2 ∷ 7 ∷ 0 ∷ 2 ∷ 0 ∷ 1 ∷ [])
    ∷ (from 1 false Read 0x5000, 3 ∷ 7 ∷ 0 ∷ 2 ∷ 0 ∷ 1 ∷ [])
    ∷ (from 1 false Read 0x425000, 3 ∷ 8 ∷ 0 ∷ 2 ∷ 0 ∷ 1 ∷ [])
    ∷ (from 1 false Read 0x5000, 4 ∷ 8 ∷ 0 ∷ 2 ∷ 0 ∷ 1 ∷ [])
    ∷ [])

-- COVERING. A leaf of level 1 spans 2^18 pages, of level 2 2^9, of level 3 one; a page's low 44 bits count and no higher one; a leaf for
-- every ASID stays after an Asid and under another ASID, and a Page takes it. Each read again is a hit or a walk.

-- a read of one of three pages of other slots, whose leaf is of the level
abbrev leaf_of : ℕ → Op
leaf_of level = asked El1 1 true Read (0x40000000 + level * 4096) (open-page level)

abbrev pub WorkedCovers : Type 0
WorkedCovers =
    Shows (tallies (1 ∷ []))
    ((leaf_of 1, 0 ∷ 1 ∷ [])
    ∷ (leaf_of 2, 0 ∷ 2 ∷ [])
    ∷ (leaf_of 3, 0 ∷ 3 ∷ [])
    ∷ (invalidates (Page 0x3FFFF), 0 ∷ 3 ∷ [])
    ∷ (invalidates (Page 0x80000), 0 ∷ 3 ∷ [])
    ∷ (leaf_of 1, 1 ∷ 3 ∷ [])
    ∷ (leaf_of 2, 2 ∷ 3 ∷ [])
    ∷ (leaf_of 3, 3 ∷ 3 ∷ [])
    ∷ (invalidates (Page 0x10000007FFFF), 3 ∷ 3 ∷ [])
    ∷ (leaf_of 2, 4 ∷ 3 ∷ [])
    ∷ (leaf_of 3, 5 ∷ 3 ∷ [])
    ∷ (leaf_of 1, 5 ∷ 4 ∷ [])
    ∷ (invalidates (Page 0x100000040200), 5 ∷ 4 ∷ [])
    ∷ (leaf_of 2, 6 ∷ 4 ∷ [])
    ∷ (leaf_of 1, 6 ∷ 5 ∷ [])
    ∷ (invalidates (Page 0x1000000401FF), 6 ∷ 5 ∷ [])
    ∷ (leaf_of 3, 7 ∷ 5 ∷ [])
    ∷ (leaf_of 1, 7 ∷ 6 ∷ [])
    ∷ (leaf_of 2, 7 ∷ 7 ∷ [])
    ∷ (invalidates (Page 0x40002), 7 ∷ 7 ∷ [])
    ∷ (invalidates (Page 0x80000040003), 7 ∷ 7 ∷ [])
    ∷ (leaf_of 3, 8 ∷ 7 ∷ [])
    ∷ (invalidates (Page 0x100000040003), 8 ∷ 7 ∷ [])
    ∷ (leaf_of 3, 8 ∷ 8 ∷ [])
    ∷ (invalidates (Asid 0), 8 ∷ 8 ∷ [])
    ∷ (retags 3, 8 ∷ 8 ∷ [])
    ∷ (leaf_of 3, 9 ∷ 8 ∷ [])
    ∷ [])

-- RIGHTS. Which of the six permission bits lets an access pass, each on a page that has this bit alone: EL0's read, write and fetch are bits 1, 2
-- and 4, the regime's own 8, 16 and 32. Under the mark EL1 reads and writes by EL0's, and fetches by its own; EL2 and EL3 have no EL0.

-- the only access of a list passes
abbrev is_address : Slot Answer → Bool
is_address empty = false
is_address (holds (Ok pa)) = true
is_address (holds (Err f)) = false

abbrev passes : List Seen → Bool
passes [] = false
passes (s ∷ ss) = is_address s.answer

abbrev with_bit : Regime → ℕ → Bool → Kind → ℕ → List Op
with_bit r level mark k bit =
    asked r level mark k 0x5000 (Ok (record { oa = 0x90005000; desc = 0; perms = bit; level = 3; global = true })) ∷ []

-- the bits that let a read, a write and a fetch pass
abbrev needed : (List Op → List Seen) → Regime → ℕ → Bool → List (List ℕ)
needed shown r level mark =
    map (λ k. filter (λ bit. passes (shown (with_bit r level mark k bit))) (1 ∷ 2 ∷ 4 ∷ 8 ∷ 16 ∷ 32 ∷ [])) (Read ∷ Write ∷ Fetch ∷ [])

abbrev NeededAre : (List Op → List Seen) → Type 0
NeededAre shown =
    (needed shown El1 0 false ≡ (1 ∷ []) ∷ (2 ∷ []) ∷ (4 ∷ []) ∷ [])
    × (needed shown El1 0 true ≡ (1 ∷ []) ∷ (2 ∷ []) ∷ (4 ∷ []) ∷ [])
    × (needed shown El1 1 false ≡ (8 ∷ []) ∷ (16 ∷ []) ∷ (32 ∷ []) ∷ [])
    × (needed shown El1 1 true ≡ (1 ∷ []) ∷ (2 ∷ []) ∷ (32 ∷ []) ∷ [])
    × (needed shown El2 2 true ≡ (8 ∷ []) ∷ (16 ∷ []) ∷ (32 ∷ []) ∷ [])
    × (needed shown El3 3 true ≡ (8 ∷ []) ∷ (16 ∷ []) ∷ (32 ∷ []) ∷ [])

abbrev pub WorkedRights : Type 0
WorkedRights = NeededAre (λ os. run os fresh) × NeededAre (λ os. model_run os empty_model)

-- FETCHES. The fetch hint serves its page at its level, whatever the mark, and counts nothing; it is one: the next page or level replaces it.
-- A translation of the kind alone asks no hint and leaves none. An invalidation empties it.

abbrev fetch_from : ℕ → Bool → ℕ → Op
fetch_from level mark va = fetches (access_by El1 level mark Fetch va (open-page 3))

abbrev pub WorkedFetches : Type 0
WorkedFetches =
    Shows (tallies (0 ∷ 1 ∷ []))
    ((fetch_from 1 false 0x7000, 0 ∷ 0 ∷ 0 ∷ 1 ∷ [])
    ∷ (fetch_from 1 false 0x7008, 0 ∷ 0 ∷ 0 ∷ 1 ∷ [])
    ∷ (fetch_from 1 true 0x7008, 0 ∷ 0 ∷ 0 ∷ 1 ∷ [])
    ∷ (fetch_from 0 false 0x7000, 1 ∷ 0 ∷ 0 ∷ 1 ∷ [])
    ∷ (fetch_from 0 false 0x7000, 1 ∷ 0 ∷ 0 ∷ 1 ∷ [])
    ∷ (fetch_from 1 false 0x7000, 1 ∷ 0 ∷ 1 ∷ 1 ∷ [])
    ∷ (fetch_from 1 false 0x8000, 1 ∷ 0 ∷ 1 ∷ 2 ∷ [])
    ∷ (fetch_from 1 false 0x7000, 1 ∷ 0 ∷ 2 ∷ 2 ∷ [])
    ∷ (from 1 false Fetch 0x7000, 1 ∷ 0 ∷ 3 ∷ 2 ∷ [])
    ∷ (fetch_from 1 false 0x7000, 1 ∷ 0 ∷ 3 ∷ 2 ∷ [])
    ∷ (invalidates (Asid 9), 1 ∷ 0 ∷ 3 ∷ 2 ∷ [])
    ∷ (fetch_from 1 false 0x7000, 1 ∷ 0 ∷ 4 ∷ 2 ∷ [])
    ∷ [])

-- FLAT. With stage 1 off the answer is the address without its tag, or a fault of status 0x00, and neither is counted. An address that is too
-- large drops no hint of its slot, nor the fetch hint; an alias by tag has a hint of its own, which takes it. That a hint serves shows where stage 1
-- is on and the walk would fault.

abbrev flat_from : Kind → ℕ → ℕ → Op
flat_from k va u = translates (record (access_by El1 1 false k va (Err 6)) { on = false; untagged = u })

abbrev flat_fetch_from : ℕ → Op
flat_fetch_from va = fetches (record (access_by El1 1 false Fetch va (Err 6)) { on = false; untagged = va })

-- whether it is an address, the answer, hits and walks of EL1
abbrev told : Seen → List ℕ
told s = (if is_address s.answer then 1 else 0) ∷ answered s.answer ∷ tallies (1 ∷ []) s

abbrev pub WorkedFlat : Type 0
WorkedFlat =
    Shows told
    ((flat_from Read 0x5123 0x5123, 1 ∷ 0x5123 ∷ 0 ∷ 0 ∷ [])
    ∷ (flat_from Read 0x1000_0000_5000 0x1000_0000_5000, 0 ∷ 0 ∷ 0 ∷ 0 ∷ [])
    ∷ (asked El1 1 false Read 0x5008 (Err 6), 1 ∷ 0x5008 ∷ 0 ∷ 0 ∷ [])
    ∷ (flat_from Read 0x5A00_0000_0000_5004 0x5004, 1 ∷ 0x5004 ∷ 0 ∷ 0 ∷ [])
    ∷ (asked El1 1 false Read 0x5A00_0000_0000_5010 (Err 6), 1 ∷ 0x5010 ∷ 0 ∷ 0 ∷ [])
    ∷ (asked El1 1 false Read 0x5008 (Err 6), 0 ∷ 6 ∷ 0 ∷ 1 ∷ [])
    ∷ (flat_from Write 0x5123 0x5123, 1 ∷ 0x5123 ∷ 0 ∷ 1 ∷ [])
    ∷ (flat_from Write 0x1000_0000_5000 0x1000_0000_5000, 0 ∷ 0 ∷ 0 ∷ 1 ∷ [])
    ∷ (asked El1 1 false Write 0x5008 (Err 6), 1 ∷ 0x5008 ∷ 0 ∷ 1 ∷ [])
    ∷ (flat_fetch_from 0x5123, 1 ∷ 0x5123 ∷ 0 ∷ 1 ∷ [])
    ∷ (flat_fetch_from 0x1000_0000_5000, 0 ∷ 0 ∷ 0 ∷ 1 ∷ [])
    ∷ (fetches (access_by El1 1 false Fetch 0x5008 (Err 6)), 1 ∷ 0x5008 ∷ 0 ∷ 1 ∷ [])
    ∷ [])

-- WHAT IS PENDING for other cores: an equal second broadcast leaves it, another makes it All, and what this core carries out does not count.
abbrev pending : List Seen → List (Slot Inval)
pending = map (λ s. s.pending)

abbrev PendingAre : (List Op → List Seen) → Type 0
PendingAre shown =
    (pending (shown (invalidates (Page 4) ∷ broadcasts (Page 5) ∷ broadcasts (Page 5) ∷ broadcasts (Page 6) ∷ broadcasts (Page 5) ∷ []))
    ≡ empty ∷ holds (Page 5) ∷ holds (Page 5) ∷ holds All ∷ holds All ∷ [])
    × (pending (shown (broadcasts (Asid 3) ∷ invalidates All ∷ broadcasts (Asid 3) ∷ broadcasts (Asid 4) ∷ []))
    ≡ holds (Asid 3) ∷ holds (Asid 3) ∷ holds (Asid 3) ∷ holds All ∷ [])
    × (pending (shown (broadcasts (Asid 3) ∷ broadcasts (Page 3) ∷ [])) ≡ holds (Asid 3) ∷ holds All ∷ [])

abbrev pub WorkedPending : Type 0
WorkedPending = PendingAre (λ os. run os fresh) × PendingAre (λ os. model_run os empty_model)
