-- The calls on four cores in numbers: which core a number speaks to, which check comes first, what is delivered.
use Rattle.std.specs.Prelude.{◌≡◌, ℕ, false, List, [], ◌∷◌, map, Option, Some, None, is_some}
use Rattle.word.specs.Bits.{flag}
use Rattle.tlb.specs.declared.Inval.{Inval}
use Rattle.tlb.specs.declared.Inval.TheVariants.{All}
use Rattle.cpu.specs.Core.{fresh_core}
use Rattle.cpu.specs.declared.Core.{Core}
use Rattle.cpu.specs.declared.call.Call.TheVariants.{Level}
use Rattle.call_words.specs.declared.op.DecodedCall.TheVariants.{Known, Unknown}
use Rattle.cluster_calls.specs.Four.{number_on, cores_on, delivered_after}

-- a core after reset, at a level, with what it has pending
abbrev pub core_with : ℕ → Option Inval → Core
core_with level what =
    record fresh_core { privilege = record { level = level; unprivileged = false }; tlb = record fresh_core.tlb { broadcast = what } }

-- the cores 0 to 3 at the levels 0 to 3; a core was put in as the core 1 that has a flush pending
abbrev pub cluster : List Core
cluster = core_with 0 None ∷ core_with 1 (Some All) ∷ core_with 2 None ∷ core_with 3 None ∷ []

abbrev pub levels : List Core → List ℕ
levels cs = map (λ (c : Core). c.privilege.level) cs

abbrev pub marks : List Core → List ℕ
marks cs = map (λ (c : Core). flag (is_some c.tlb.broadcast) 1) cs

abbrev pub flushes : List Core → List ℕ
flushes cs = map (λ (c : Core). c.tlb.flushes) cs

-- after the call that sets a level on the core i
abbrev pub set : ℕ → ℕ → List Core
set level i = cores_on (Known (Level level)) cluster i 0 []

pub record ClusterRows : Type 0 where
  -- the numbers 0 to 3 are the cores', and no other number is one's
  pub first : levels (set 3 0) ≡ (3 ∷ 1 ∷ 2 ∷ 3 ∷ [])
  pub second : levels (set 3 1) ≡ (0 ∷ 3 ∷ 2 ∷ 3 ∷ [])
  pub third : levels (set 3 2) ≡ (0 ∷ 1 ∷ 3 ∷ 3 ∷ [])
  pub last : levels (set 0 3) ≡ (0 ∷ 1 ∷ 2 ∷ 0 ∷ [])
  pub none : map (λ (i : ℕ). levels (set 3 i)) (4 ∷ 0x100000000 ∷ []) ≡ ((0 ∷ 1 ∷ 2 ∷ 3 ∷ []) ∷ (0 ∷ 1 ∷ 2 ∷ 3 ∷ []) ∷ [])
  -- 8 comes before 64 and before every check
  pub named : map (λ (i : ℕ). number_on Unknown cluster i 0 []) (0 ∷ 3 ∷ 4 ∷ 7 ∷ 0x100000001 ∷ []) ≡ (64 ∷ 64 ∷ 8 ∷ 8 ∷ 8 ∷ [])
  pub checked : map (λ (i : ℕ). number_on (Known (Level 9)) cluster i 0 []) (1 ∷ 3 ∷ 4 ∷ 0xFFFFFFFFFFFFFFFF ∷ []) ≡ (1 ∷ 1 ∷ 8 ∷ 8 ∷ [])
  -- what the core 1 has pending is delivered by its own call that is done, to the other three
  pub cleared : marks (set 2 1) ≡ (0 ∷ 0 ∷ 0 ∷ 0 ∷ [])
  pub heard : flushes (set 2 1) ≡ (1 ∷ 0 ∷ 1 ∷ 1 ∷ [])
  -- by none that is refused, and by no other core's
  pub refused : marks (set 9 1) ≡ (0 ∷ 1 ∷ 0 ∷ 0 ∷ [])
  pub unheard : flushes (set 9 1) ≡ (0 ∷ 0 ∷ 0 ∷ 0 ∷ [])
  pub other : marks (set 2 0) ≡ (0 ∷ 1 ∷ 0 ∷ 0 ∷ [])
  -- which numbers refuse: those from 1 to 255, windows' 9 and 10 among them, and no fault's
  pub numbers : map (λ (k : ℕ). marks (delivered_after k cluster 1)) (0 ∷ 1 ∷ 9 ∷ 10 ∷ 64 ∷ 66 ∷ 255 ∷ 256 ∷ 272 ∷ [])
      ≡ ((0 ∷ 0 ∷ 0 ∷ 0 ∷ [])
      ∷ (0 ∷ 1 ∷ 0 ∷ 0 ∷ [])
      ∷ (0 ∷ 1 ∷ 0 ∷ 0 ∷ [])
      ∷ (0 ∷ 1 ∷ 0 ∷ 0 ∷ [])
      ∷ (0 ∷ 1 ∷ 0 ∷ 0 ∷ [])
      ∷ (0 ∷ 1 ∷ 0 ∷ 0 ∷ [])
      ∷ (0 ∷ 1 ∷ 0 ∷ 0 ∷ [])
      ∷ (0 ∷ 0 ∷ 0 ∷ 0 ∷ [])
      ∷ (0 ∷ 0 ∷ 0 ∷ 0 ∷ [])
      ∷ [])
