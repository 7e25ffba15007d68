-- PSTATE, and SPSR_ELx as an entry to AArch64 saves it: DDI 0487, GetPSRFromPSTATE, from knowledge of ARMv8.0: the document itself was not at
-- hand. A15 is a row of docs/DIFFERENCES.md.
use Rattle.std.specs.Prelude.{◌≡◌, ℕ, ◌+◌, ◌*◌, ◌%◌, ◌^◌, Bool, true, bit_or}
use Rattle.word.specs.Bits.{field, align_down, flag}
use Rattle.exception.specs.declared.flags.Flags.{Flags}

-- PSTATE.<D,A,I,F> = '1111', where the DAIF register holds them
abbrev pub daif_all : ℕ
daif_all = 15 * 2 ^ 6

-- PSTATE by its words
abbrev pub flags : ℕ → ℕ → Bool → Flags
flags nzcv daif spsel = record { nzcv = nzcv; daif = daif; spsel = spsel }

-- after reset
abbrev pub fresh_flags : Flags
fresh_flags = flags 0 daif_all true

-- SPSR_ELx: N, Z, C, V are <31:28>, D, A, I, F <9:6>, EL <3:2>, SP <0>. The words of PSTATE hold their bits at the same places.
-- A15: SP is saved as it stands, at EL0 too.
abbrev pub psr : ℕ → Flags → ℕ
psr level f = field f.nzcv 28 4 * 2 ^ 28 + field f.daif 6 4 * 2 ^ 6 + level % 2 ^ 2 * 2 ^ 2 + flag f.spsel 1

-- That is all where the words hold no bit elsewhere, as after reset and after every entry (`theorems::fields_of_entry`): nothing else writes them.
pub record OwnBits (f : Flags) : Type 0 where
  pub nzcv-31-28 : f.nzcv % 2 ^ 28 ≡ 0
  pub daif-9 : align_down f.daif 10 ≡ 0
  pub daif-6 : f.daif % 2 ^ 6 ≡ 0

-- for words of any other kind: a bit elsewhere is or-ed in as it stands
abbrev pub stray_bits : Flags → ℕ
stray_bits f = bit_or (f.nzcv % 2 ^ 28) (align_down f.daif 10 + f.daif % 2 ^ 6)

unfoldable pub spsr_of : ℕ → Flags → ℕ
spsr_of level f = bit_or (psr level f) (stray_bits f)
