-- The fields of TCR_ELx that stage 1 reads, by the manual's names: DDI 0487, TCR_EL1, TCR_EL2 and TCR_EL3 of ARMv8.0.
-- Written from knowledge of the manual; the document itself was not at hand. `theorems::places_in_tcr` has the bits of each field.
use Rattle.std.specs.Prelude.{Bool, ℕ, ◌%◌, ◌^◌, if◌then◌else◌, ◌≡◌, true, false, not, ◌&&◌, ◌||◌, List, [], ◌∷◌, eqb, get_or, Some, Option, None}
use Rattle.word.specs.Bits.{bit_on, field}
use Rattle.sysreg.specs.declared.{regs.Control.Control, regs.Regime.Regime, regs.Register.Register}
use Rattle.sysreg.specs.declared.regs.Regime.TheVariants.{El1, El2, El3}
use Rattle.sysreg.specs.declared.regs.Register.TheVariants.{Sctlr, Tcr, Ttbr0, Ttbr1, Scr, Hcr}
use Rattle.sysreg.specs.Regs.{control_at}
use Rattle.sysreg.specs.Encoding.{key_of}

-- T0SZ and TG0 stand at the same place in all three: TCR_ELx<5:0> and TCR_ELx<15:14>
abbrev pub t0sz : ℕ → ℕ
t0sz tcr = tcr % 2 ^ 6

abbrev pub tg0 : ℕ → ℕ
tg0 tcr = field tcr 14 2

-- TCR_EL1 alone. EPD0 and EPD1 forbid walks by TTBR0_EL1 and TTBR1_EL1
abbrev pub epd0 : ℕ → Bool
epd0 tcr = bit_on tcr 7

abbrev pub t1sz : ℕ → ℕ
t1sz tcr = field tcr 16 6

-- TTBR1_EL1, and not TTBR0_EL1, holds the ASID
abbrev pub a1 : ℕ → Bool
a1 tcr = bit_on tcr 22

abbrev pub epd1 : ℕ → Bool
epd1 tcr = bit_on tcr 23

abbrev pub tg1 : ℕ → ℕ
tg1 tcr = field tcr 30 2

-- the code of the output address size
abbrev pub ips : ℕ → ℕ
ips tcr = field tcr 32 3

-- an ASID has 16 bits, and not 8
abbrev pub «as» : ℕ → Bool
«as» tcr = bit_on tcr 36

-- the top byte of an address is ignored, in the lower and in the upper range
abbrev pub tbi0 : ℕ → Bool
tbi0 tcr = bit_on tcr 37

abbrev pub tbi1 : ℕ → Bool
tbi1 tcr = bit_on tcr 38

-- TCR_EL2 and TCR_EL3: the code of the output address size, and the top byte ignored
abbrev pub ps : ℕ → ℕ
ps tcr = field tcr 16 3

abbrev pub tbi : ℕ → Bool
tbi tcr = bit_on tcr 20

-- What of the registers shapes a translation, and the ASID of the EL1&0 regime.

-- The registers that shape translations: all that translation reads but TTBR0_EL1 and TTBR1_EL1, which an ASID tells apart.
abbrev pub shape : List Register
shape =
    Sctlr El1 ∷ Sctlr El2 ∷ Sctlr El3 ∷ Tcr El1 ∷ Tcr El2 ∷ Tcr El3 ∷ Ttbr0 El2 ∷ Ttbr0 El3 ∷ Hcr ∷ Scr ∷ []

abbrev pub member : List Register → Register → Bool
member [] r = false
member (q ∷ qs) r = eqb (key_of q) (key_of r) || member qs r

-- a write of what the key names leaves the shape alone
abbrev pub outside_shape : Option Register → Bool
outside_shape None = true
outside_shape (Some r) = not (member shape r)

-- each register of a list holds the same in both
abbrev pub agree_on : List Register → Control → Control → Bool
agree_on [] a b = true
agree_on (r ∷ rs) a b = eqb (control_at a r) (control_at b r) && agree_on rs a b

unfoldable pub same_shape : Control → Control → Bool
same_shape a b = agree_on shape a b

-- two arrays hold the same at EL1, EL2 and EL3
abbrev pub same_levels : List ℕ → List ℕ → Bool
same_levels a b = eqb (get_or a 1 0) (get_or b 1 0) && eqb (get_or a 2 0) (get_or b 2 0) && eqb (get_or a 3 0) (get_or b 3 0)

-- Two settings of one shape agree in all that translation reads but TTBR0_EL1 and TTBR1_EL1.
pub record SameShape (a b : Control) : Type 0 where
  pub sctlr : (r : Regime) → control_at a (Sctlr r) ≡ control_at b (Sctlr r)
  pub tcr : (r : Regime) → control_at a (Tcr r) ≡ control_at b (Tcr r)
  pub ttbr0-el2 : control_at a (Ttbr0 El2) ≡ control_at b (Ttbr0 El2)
  pub ttbr0-el3 : control_at a (Ttbr0 El3) ≡ control_at b (Ttbr0 El3)
  pub hcr : control_at a Hcr ≡ control_at b Hcr
  pub scr : control_at a Scr ≡ control_at b Scr

-- by TCR_EL1.A1, TTBR1_EL1 and not TTBR0_EL1 holds the ASID
unfoldable pub asid_base : Control → ℕ
asid_base c = if a1 (control_at c (Tcr El1)) then control_at c Ttbr1 else control_at c (Ttbr0 El1)

-- by TCR_EL1.AS, the ASID is its bits 63:48, and not 55:48
unfoldable pub asid_of : Control → ℕ
asid_of c = field (asid_base c) 48 (if «as» (control_at c (Tcr El1)) then 16 else 8)
