-- THE PREMISE IN NUMBERS: which TLBI and which register write covers which earlier walk, and which walks are equal, row
-- by row. A row of covering is a call of EL1 with its operand, and what it makes of a walk: computed by `Covers` and
-- `drops_of`, which the rows judge.
use Rattle.std.specs.Prelude.{true, false, Bool, [], ◌∷◌, ℕ}
use Rattle.walk.specs.declared.level.Leaf.{Leaf}
use Rattle.tlb.specs.Live.{Each}
use Rattle.cpu.specs.Bare.{Bare, fresh_bare}
use Rattle.cpu.specs.declared.call.Call.{Call}
use Rattle.cpu.specs.declared.call.Call.TheVariants.{System, Register, Level, General}
use Rattle.history.specs.Window.{window_of}
use Rattle.transparency.specs.Steps.{Step, bare_run}
use Rattle.transparency.specs.Claim.{Covers, EqualLeaves, drops_run}

-- a walk that ended in a leaf: its page, the leaf's level, whether it is global, and the ASID in force
pub record Was : Type 0 where
  pub page : ℕ
  pub level : ℕ
  pub global : Bool
  pub asid : ℕ

abbrev pub was : ℕ → ℕ → Bool → ℕ → Was
was page level global asid = record { page = page; level = level; global = global; asid = asid }

abbrev pub leaf_of : Was → Leaf
leaf_of w = record { oa = 0; desc = 0; perms = 0; level = w.level; global = w.global }

abbrev pub step : Call → Step
step x = record { ram = window_of 0 []; call = x }

-- From reset, at EL3: TCR_EL1 (T0SZ 25, TG1 4 KiB) is written; then this level, and the operand in X1.
abbrev pub with_operand : ℕ → ℕ → Bare
with_operand level operand =
    bare_run fresh_bare (step (Register 0xC102 0x80000019) ∷ step (General 1 operand) ∷ step (Level level) ∷ [])

-- no invalidation of the call covers the walk; one does
abbrev pub Spares : Bare → Call → Was → Type 0
Spares b x w = Each (λ v. Covers v w.page (leaf_of w) w.asid → ⊥) (drops_run b (step x ∷ []))

abbrev pub Takes : Bare → Call → Was → Type 0
Takes b x w = Spares b x w → ⊥

-- TLBI of EL1, by op2, with X1
abbrev pub tlbi : ℕ → Call
tlbi op2 = System (record { op1 = 0; crn = 8; crm = 7; op2 = op2; rt = 1 })

abbrev pub Keeps : ℕ → ℕ → Was → Type 0
Keeps op2 operand w = Spares (with_operand 1 operand) (tlbi op2) w

abbrev pub Drops : ℕ → ℕ → Was → Type 0
Drops op2 operand w = Takes (with_operand 1 operand) (tlbi op2) w

-- VMALLE1 covers every walk; at EL0 it is refused, and covers none.
abbrev pub all_rows : Type 0
all_rows =
    Drops 0 0 (was 0x40001 3 false 5)
    × Drops 0 0 (was 0xF_FFFF_FFFF_F012 1 true 0)
    × Spares (with_operand 0 0) (tlbi 0) (was 0x40001 3 false 5)

-- VAE1, VAAE1, VALE1 and VAALE1 cover the operand's page, whatever the ASID, and with a block the 2 MiB or 1 GiB about
-- it.
abbrev pub page_rows : Type 0
page_rows =
    Drops 1 0x40001 (was 0x40001 3 false 5)
    × Drops 1 0x40001 (was 0x40001 3 true 6)
    × Drops 3 0x40001 (was 0x40001 3 false 5)
    × Drops 5 0x40001 (was 0x40001 3 false 5)
    × Drops 7 0x40001 (was 0x40001 3 false 5)
    × Keeps 1 0x40001 (was 0x40000 3 false 5)
    × Drops 1 0x40001 (was 0x40000 2 false 5)
    × Drops 1 0x40001 (was 0x401FF 2 false 5)
    × Keeps 1 0x40001 (was 0x40200 2 false 5)
    × Drops 1 0x40001 (was 0x40200 1 false 5)
    × Drops 1 0x40001 (was 0x7FFFF 1 false 5)
    × Keeps 1 0x40001 (was 0x80000 1 false 5)

-- Of an operand the low 44 bits are the page's, address bits 55:12; those above, the ASID too, count for nothing.
abbrev pub bit_rows : Type 0
bit_rows =
    Drops 1 0x0006_0FFF_FFFF_F012 (was 0xF_FFFF_FFFF_F012 3 false 5)
    × Drops 1 0xFFFF_F000_0004_0001 (was 0x40001 3 false 5)
    × Keeps 1 0x0000_0800_0004_0001 (was 0x40001 3 false 5)

-- ASIDE1 covers the walks of its ASID that are not global, of every page and level.
abbrev pub asid_rows : Type 0
asid_rows =
    Drops 2 0x0005_0000_0004_0001 (was 0x40001 3 false 5)
    × Drops 2 0x0005_0000_0004_0001 (was 0x12345 3 false 5)
    × Drops 2 0x0005_0000_0004_0001 (was 0x80000 1 false 5)
    × Drops 2 0 (was 0x40001 2 false 0)
    × Keeps 2 0x0005_0000_0004_0001 (was 0x40001 3 true 5)
    × Keeps 2 0x0005_0000_0004_0001 (was 0x40001 3 false 6)

-- A write that changes the shape (SCTLR_EL1.M is set) covers every walk; one of TCR_EL1 to what it is, and one of
-- TTBR0_EL1 that brings another ASID, none.
abbrev pub write_rows : Type 0
write_rows =
    Takes (with_operand 1 0) (Register 0xC080 1) (was 0x40001 3 true 5)
    × Takes (with_operand 1 0) (Register 0xC102 0x19) (was 0x40001 1 false 5)
    × Spares (with_operand 1 0) (Register 0xC102 0x80000019) (was 0x40001 3 true 5)
    × Spares (with_operand 1 0) (Register 0xC100 0x0006_0000_0000_1000) (was 0x40001 3 false 5)

-- EQUAL WALKS: whatever the descriptor, whether it is global, and the offset in the page; not where the page, the
-- permission bits or the level differ.
abbrev pub leaf : ℕ → ℕ → ℕ → Leaf
leaf oa perms level = record { oa = oa; desc = 0x80000401; perms = perms; level = level; global = true }

abbrev pub equal_rows : Type 0
equal_rows =
    EqualLeaves (leaf 0x80001234 0x3C 3)
    (record { oa = 0x80001FFF; desc = 0x80000C03; perms = 0x3C; level = 3; global = false })
    × (EqualLeaves (leaf 0x80001234 0x3C 3) (leaf 0x80002234 0x3C 3) → ⊥)
    × (EqualLeaves (leaf 0x80001234 0x3C 3) (leaf 0x80001234 0x3D 3) → ⊥)
    × (EqualLeaves (leaf 0x80001234 0x3C 3) (leaf 0x80001234 0x3C 2) → ⊥)
