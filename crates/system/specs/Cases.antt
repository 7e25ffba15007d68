-- Worked cases 10 and 11 of docs/SCOPE.md: AT of case 1, as one computed statement.
use Rattle.std.specs.Prelude.{◌≡◌, [], ◌∷◌, ◌++◌, ℕ, Bool, true, false, List, ◌+◌, ◌*◌, Ok}
use Rattle.word.specs.Bits.{bit0}
use Rattle.word.specs.Ram.{word_at, bytes_of}
use Rattle.sysreg.specs.Regs.{levels, fresh_control}
use Rattle.sysreg.specs.declared.regs.Control.{Control}
use Rattle.sysreg.specs.declared.regs.Regime.{Regime}
use Rattle.sysreg.specs.declared.regs.Regime.TheVariants.{El1, El2, El3}
use Rattle.system.specs.Decode.{decode_of}
use Rattle.system.specs.Par.{at_par, walk_par}
use Rattle.system.specs.declared.decode.{AtForm.AtForm, SysOp.SysOp}
use Rattle.system.specs.declared.decode.SysOp.TheVariants.{At}

-- SCTLR_ELx.M as given, TCR_ELx = 25, TTBR0_ELx = 0x1000, and SCR_EL3
abbrev settings : ℕ → ℕ → Control
settings m scr =
    record fresh_control { sctlr = levels m m m; tcr = levels 25 25 25; ttbr0 = levels 0x1000 0x1000 0x1000; scr_el3 = scr }

-- PAR_EL1 after the operation at address 0x40001234, where 0x80000401 stands at 0x1008; no other operation moves it
abbrev par_after : SysOp → ℕ
par_after (At f) = at_par (settings 1 0) 0 f 0x40001234 (word_at 0x1008 (bytes_of 8 0x80000401) 8)
par_after _ = 0

-- AT S1E1R and AT S1E0R
abbrev pub WorkedAt : Type 0
WorkedAt = (par_after (decode_of 1 0 7 8 0) ∷ par_after (decode_of 1 0 7 8 2) ∷ []) ≡ (0x80001800 ∷ 0x81B ∷ [])

-- PAR_EL1 a second time: tables in numbers that `theorems` promises, each row computed of a walk.

abbrev form : Regime → Bool → Bool → AtForm
form r user write = record { regime = r; user = user; write = write }

-- AT of 0x40001234, with MAIR 0x8877665544332211, where a descriptor stands at 0x1008: a block of 1 GiB
abbrev par : ℕ → ℕ → AtForm → ℕ → ℕ
par m scr f descriptor = at_par (settings m scr) 0x8877_6655_4433_2211 f 0x40001234 (word_at 0x1008 (bytes_of 8 descriptor) 8)

abbrev read : Regime → AtForm
read r = form r false false

-- NS<9> and SH<8:7>: SCR_EL3.NS clear and set, the leaf's NS<5> clear and set; SH is 0b10
abbrev securities : Regime → List ℕ
securities r =
    par 1 0 (read r) 0x8000_0601 ∷ par 1 0 (read r) 0x8000_0621 ∷ par 1 1 (read r) 0x8000_0601 ∷ par 1 1 (read r) 0x8000_0621 ∷ []

-- with stage 1 off, SCR_EL3.NS clear and set
abbrev flat : Regime → List ℕ
flat r = par 0 0 (read r) 0x8000_0601 ∷ par 0 1 (read r) 0x8000_0601 ∷ []

pub record Securities : Type 0 where
  pub el1 : securities El1 ≡ (0x1100_0000_8000_1900 ∷ 0x1100_0000_8000_1B00 ∷ 0x1100_0000_8000_1B00 ∷ 0x1100_0000_8000_1B00 ∷ [])
  pub el2 : securities El2 ≡ (0x1100_0000_8000_1900 ∷ 0x1100_0000_8000_1B00 ∷ 0x1100_0000_8000_1B00 ∷ 0x1100_0000_8000_1B00 ∷ [])
  pub el3 : securities El3 ≡ (0x1100_0000_8000_1900 ∷ 0x1100_0000_8000_1B00 ∷ 0x1100_0000_8000_1900 ∷ 0x1100_0000_8000_1B00 ∷ [])
  pub el1_flat : flat El1 ≡ (0x4000_1800 ∷ 0x4000_1A00 ∷ [])
  pub el2_flat : flat El2 ≡ (0x4000_1800 ∷ 0x4000_1A00 ∷ [])
  pub el3_flat : flat El3 ≡ (0x4000_1800 ∷ 0x4000_1800 ∷ [])

-- ATTR<63:56>: the byte of MAIR that the leaf's AttrIndx<4:2> names
abbrev attribute : ℕ → ℕ
attribute n = par 1 0 (read El1) (0x8000_0401 + n * 4)

pub record Attributes : Type 0 where
  pub low : (attribute 0 ∷ attribute 1 ∷ attribute 2 ∷ attribute 3 ∷ [])
      ≡ (0x1100_0000_8000_1800 ∷ 0x2200_0000_8000_1800 ∷ 0x3300_0000_8000_1800 ∷ 0x4400_0000_8000_1800 ∷ [])
  pub high : (attribute 4 ∷ attribute 5 ∷ attribute 6 ∷ attribute 7 ∷ [])
      ≡ (0x5500_0000_8000_1800 ∷ 0x6600_0000_8000_1800 ∷ 0x7700_0000_8000_1800 ∷ 0x8800_0000_8000_1800 ∷ [])

-- whether a regime's own read or write, or EL0's, fails: F<0>, with the leaf's AP<7:6>
abbrev fails : Regime → ℕ → Bool → Bool → Bool
fails r ap user write = bit0 (par 1 0 (form r user write) (0x8000_0401 + ap * 0x40))

abbrev own_failures : Regime → ℕ → List Bool
own_failures r ap = fails r ap false false ∷ fails r ap false true ∷ []

abbrev failures : ℕ → List Bool
failures ap = own_failures El1 ap ++ (fails El1 ap true false ∷ fails El1 ap true true ∷ [])

pub record Rights : Type 0 where
  pub none_of_el0 : failures 0 ≡ (false ∷ false ∷ true ∷ true ∷ [])
  pub all : failures 1 ≡ (false ∷ false ∷ false ∷ false ∷ [])
  pub own_read : failures 2 ≡ (false ∷ true ∷ true ∷ true ∷ [])
  pub reads : failures 3 ≡ (false ∷ true ∷ false ∷ true ∷ [])
  pub el2_all : own_failures El2 0 ≡ (false ∷ false ∷ [])
  pub el2_read : own_failures El2 2 ≡ (false ∷ true ∷ [])
  pub el3_all : own_failures El3 0 ≡ (false ∷ false ∷ [])
  pub el3_read : own_failures El3 2 ≡ (false ∷ true ∷ [])

-- Of failures: bit 11, FST<6:1> and F<0>, with S<9> and PTW<8> clear. A leaf without the right, of each level; and of the first lookup, at level 1: not
-- valid, an output address past 32 bits, the access flag clear, and a descriptor outside RAM.
abbrev without_right : ℕ → ℕ
without_right level = walk_par 0 true (read El1) (Ok (record { oa = 0x8000_1234; level = level; desc = 0x8000_0621; perms = 0; global = false }))

pub record Failures : Type 0 where
  pub denied : (without_right 0 ∷ without_right 1 ∷ without_right 2 ∷ without_right 3 ∷ []) ≡ (0x819 ∷ 0x81B ∷ 0x81D ∷ 0x81F ∷ [])
  pub invalid : par 1 1 (read El1) 0x8000_0420 ≡ 0x80B
  pub too_far : par 1 1 (read El1) 0x1_8000_0421 ≡ 0x803
  pub not_accessed : par 1 1 (read El1) 0x8000_0021 ≡ 0x813
  -- with stage 1 off: the last address below 2^44, and the next
  pub flat_last : at_par (settings 0 0) 0 (read El3) 0xFFF_FFFF_FFFF (word_at 0 [] 8) ≡ 0xFFF_FFFF_F800
  pub flat_too_large : at_par (settings 0 0) 0 (read El3) 0x1000_0000_0000 (word_at 0 [] 8) ≡ 0x801
  pub outside : at_par (settings 1 1) 0 (read El1) 0x40001234 (word_at 0x1010 (bytes_of 8 0x8000_0421) 8) ≡ 0x82B
