-- How the manual encodes each register, and the register that an encoding names.
use Rattle.std.specs.Prelude.{if◌then◌else◌, List, [], ◌∷◌, ◌++◌, ℕ, ◌+◌, ◌*◌, ◌%◌, ◌^◌, eqb, Some, Option, None}
use Rattle.std.specs.Int.Bits.{bit_or}
use Rattle.sysreg.specs.declared.{regs.Regime.Regime, regs.Register.Register}
use Rattle.sysreg.specs.declared.regs.Regime.TheVariants.{El1, El2, El3}
use Rattle.sysreg.specs.declared.regs.Register.TheVariants.{Sctlr, Tcr, Ttbr0, Ttbr1, Scr, Hcr}
use Rattle.sysreg.specs.declared.regs.Register.TheVariants.{Mair, Vbar, Elr, Spsr, Esr, Far, Vpidr, Vmpidr, Par}

-- op0:op1:CRn:CRm:op2, fields of 2, 3, 4, 4 and 3 bits
abbrev pub encode : ℕ → ℕ → ℕ → ℕ → ℕ → ℕ
encode op0 op1 crn crm op2 = op0 * 2 ^ 14 + op1 * 2 ^ 11 + crn * 2 ^ 7 + crm * 2 ^ 3 + op2

-- x << n in 32 bits
abbrev pub shifted : ℕ → ℕ → ℕ
shifted x n = x * 2 ^ n % 2 ^ 32

-- the Rust's `key`, of any five words: shifted and or-ed, none cut to its field. Of fields in range it is `encode` (`theorems::encodings_of_registers`)
abbrev pub key_word : ℕ → ℕ → ℕ → ℕ → ℕ → ℕ
key_word op0 op1 crn crm op2 =
    bit_or (bit_or (bit_or (bit_or (shifted op0 14) (shifted op1 11)) (shifted crn 7)) (shifted crm 3)) op2

-- op0, op1, CRn, CRm and op2 of each register: DDI 0487, its description (from knowledge of the manual; the document itself was not at hand)
abbrev pub key_of : Register → ℕ
key_of (Sctlr El1) = encode 3 0 1 0 0
key_of (Sctlr El2) = encode 3 4 1 0 0
key_of (Sctlr El3) = encode 3 6 1 0 0
key_of (Ttbr0 El1) = encode 3 0 2 0 0
key_of (Ttbr0 El2) = encode 3 4 2 0 0
key_of (Ttbr0 El3) = encode 3 6 2 0 0
key_of (Tcr El1) = encode 3 0 2 0 2
key_of (Tcr El2) = encode 3 4 2 0 2
key_of (Tcr El3) = encode 3 6 2 0 2
key_of Ttbr1 = encode 3 0 2 0 1
key_of Hcr = encode 3 4 1 1 0
key_of Scr = encode 3 6 1 1 0
key_of (Spsr El1) = encode 3 0 4 0 0
key_of (Spsr El2) = encode 3 4 4 0 0
key_of (Spsr El3) = encode 3 6 4 0 0
key_of (Elr El1) = encode 3 0 4 0 1
key_of (Elr El2) = encode 3 4 4 0 1
key_of (Elr El3) = encode 3 6 4 0 1
key_of (Esr El1) = encode 3 0 5 2 0
key_of (Esr El2) = encode 3 4 5 2 0
key_of (Esr El3) = encode 3 6 5 2 0
key_of (Far El1) = encode 3 0 6 0 0
key_of (Far El2) = encode 3 4 6 0 0
key_of (Far El3) = encode 3 6 6 0 0
key_of (Mair El1) = encode 3 0 10 2 0
key_of (Mair El2) = encode 3 4 10 2 0
key_of (Mair El3) = encode 3 6 10 2 0
key_of (Vbar El1) = encode 3 0 12 0 0
key_of (Vbar El2) = encode 3 4 12 0 0
key_of (Vbar El3) = encode 3 6 12 0 0
key_of Vpidr = encode 3 4 0 0 0
key_of Vmpidr = encode 3 4 0 0 5
key_of Par = encode 3 0 7 4 0

-- a register at each level
abbrev pub at_each : (Regime → Register) → List Register
at_each f = f El1 ∷ f El2 ∷ f El3 ∷ []

-- the banked registers with an instance at each level
abbrev pub each_level : List Register
each_level =
    at_each Sctlr ++ at_each Tcr ++ at_each Ttbr0
    ++ at_each Mair ++ at_each Vbar ++ at_each Elr ++ at_each Spsr ++ at_each Esr ++ at_each Far

-- and those that one level alone has
abbrev pub one_level : List Register
one_level = Ttbr1 ∷ Hcr ∷ Scr ∷ Vpidr ∷ Vmpidr ∷ []

-- the register of a list whose encoding is k
abbrev pub find : List Register → ℕ → Option Register
find [] k = None
find (r ∷ rs) k = if eqb k (key_of r) then Some r else find rs k

-- a banked register; PAR_EL1 is none
unfoldable pub banked_at : ℕ → Option Register
banked_at k = find (each_level ++ one_level) k

-- any register kept
unfoldable pub register_at : ℕ → Option Register
register_at k = if eqb k (key_of Par) then Some Par else banked_at k
