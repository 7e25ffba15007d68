-- Laws of encodings that crates above cite: each register has its own.
use Rattle.std.proofs.Common.{arith}
use Rattle.std.specs.Prelude.{◌≡◌, Some}
use Rattle.std.proofs.Common.{sym, ap, ◌∙◌}
use Rattle.sysreg.specs.declared.{regs.Regime.Regime, regs.Register.Register}
use Rattle.sysreg.specs.declared.regs.Regime.TheVariants.{El1, El2, El3}
use Rattle.sysreg.specs.Encoding.{key_of, banked_at, register_at}

-- what holds at each level holds at any
pub by_level : (P : Regime → Type 0) → P El1 → P El2 → P El3 → (r : Regime) → P r
by_level P a b c El1 = a
by_level P a b c El2 = b
by_level P a b c El3 = c

-- the encoding of a register names it
pub key-names : (r : Register) → register_at (key_of r) ≡ Some r
unfolding register_at banked_at
key-names r = grind arith

-- two registers of one encoding are one
pub key_one : (q r : Register) → key_of q ≡ key_of r → q ≡ r
key_one q r e = let a : Some q ≡ Some r = sym (key-names q) ∙ ap register_at e ∙ key-names r in cc
