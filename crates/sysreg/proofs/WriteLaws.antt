-- Of any five fields the key, and of any number the register that it names.
use Rattle.std.proofs.Common.{rules, mod-eq_of_lt, arith, eqb-true, length, get_or}
use Rattle.std.specs.Prelude.{if◌then◌else◌, ◌≡◌, refl, Bool, true, false, List, [], ◌∷◌, ◌++◌, ℕ, ◌+◌, ◌*◌, ◌^◌, ◌≤◌, ◌<◌, eqb, Some, None, not, Err}
use Rattle.std.specs.Int.Bits.{bit_or}
use Rattle.std.proofs.lemmas.Nat.{or_shifted}
use Rattle.std.proofs.lemmas.Bool.{false≢true}
use Rattle.std.proofs.lemmas.Grind.{common_steps}
use Rattle.sysreg.specs.declared.{regs.Register.Register, regs.Control.Control, regs.SysRegs.SysRegs}
use Rattle.sysreg.specs.declared.regs.Register.TheVariants.{Par}
use Rattle.sysreg.specs.Encoding.{encode, key_word, key_of, find, banked_at, register_at, each_level, one_level}
use Rattle.sysreg.specs.declared.write.WriteError.TheVariants.{Undefined, NoRegister}
use Rattle.sysreg.specs.Regs.{in_control, control_at, sys_at, reg_at}
use Rattle.sysreg.proofs.EncodingLaws.{by_level, key_one}
use Rattle.sysreg.specs.Write.{kept, held_after, control_with, sys_with, ended, wrote, write_reg}
use Rattle.sysreg.specs.declared.regs.Control.{Control}
use borrow.Author.Tests.{eq-eqb, ne_eqb}

-- what stands below the bits of a word is or-ed to it by a sum
below : (x k b y : ℕ) → b < 2 ^ k → y ≡ x * 2 ^ k → bit_or y b ≡ y + b
below x k b y h e = rw e (or_shifted x k b h)

-- the key of fields within their widths is the encoding
pub key-in-range : (op0 op1 crn crm op2 : ℕ) → op0 < 4 → op1 < 8 → crn < 16 → crm < 16 → op2 < 8 →
    key_word op0 op1 crn crm op2 ≡ encode op0 op1 crn crm op2
key-in-range op0 op1 crn crm op2 a b c d e =
    rw (
      mod-eq_of_lt {n = op0 * 2 ^ 14} {m = 2 ^ 32} (omega arith),
      mod-eq_of_lt {n = op1 * 2 ^ 11} {m = 2 ^ 32} (omega arith),
      mod-eq_of_lt {n = crn * 2 ^ 7} {m = 2 ^ 32} (omega arith),
      mod-eq_of_lt {n = crm * 2 ^ 3} {m = 2 ^ 32} (omega arith),
      below op0 14 (op1 * 2 ^ 11) (op0 * 2 ^ 14) (omega arith) refl,
      below (op0 * 8 + op1) 11 (crn * 2 ^ 7) (op0 * 2 ^ 14 + op1 * 2 ^ 11) (omega arith) (omega arith),
      below ((op0 * 8 + op1) * 16 + crn) 7 (crm * 2 ^ 3) (op0 * 2 ^ 14 + op1 * 2 ^ 11 + crn * 2 ^ 7) (omega arith) (omega arith),
      below (((op0 * 8 + op1) * 16 + crn) * 16 + crm) 3 op2 (op0 * 2 ^ 14 + op1 * 2 ^ 11 + crn * 2 ^ 7 + crm * 2 ^ 3) (omega arith) (omega arith),
    )

-- a number of more than 16 bits names nothing
pub wide_key : (k : ℕ) → 2 ^ 16 ≤ k → register_at k ≡ None
unfolding register_at banked_at
wide_key k h = search rules

-- what is found has the encoding looked for
found-key : (l : List Register) (k : ℕ) (r : Register) → find l k ≡ Some r → k ≡ key_of r
found-key [] k r = λ e. let z : ◌≡◌ {A = ℕ} 0 1 = cc in absurd (omega arith)
found-key (q ∷ qs) k r = elim (eqb k (key_of q)) as (λ b. eqb k (key_of q) ≡ b → (if b then Some q else find qs k) ≡ Some r → k ≡ key_of r)
    [ true ↦ λ t e. grind (arith, eqb-true) | false ↦ λ t e. found-key qs k r e ] refl

-- what names a register is its encoding
pub named-key : (k : ℕ) (r : Register) → register_at k ≡ Some r → k ≡ key_of r
unfolding register_at banked_at
named-key k r e = found-key (Par ∷ each_level ++ one_level) k r e

-- Laws of register writes: a write changes the register that it names and no other.

-- a register of `Control` keeps all of a value
pub control-kept : (r : Register) (v : ℕ) → in_control r ≡ true → kept r v ≡ v
control-kept r v i = grind arith

-- registers of two structs have no encoding in common
apart : (q r : Register) (b : Bool) → in_control q ≡ not b → in_control r ≡ b → eqb (key_of q) (key_of r) ≡ false
apart q r b i j = search rules

module _ (c : Control) (r : Register) (v : ℕ) where
  pub control-after : (q : Register) → in_control q ≡ true → control_at (control_with c r v) q ≡ held_after r v q (control_at c q)
  unfolding control_with
  control-after q i = grind arith

  pub control-written : in_control r ≡ true → control_at (control_with c r v) r ≡ v
  control-written i = rw (control-after r i, eq-eqb (key_of r) (key_of r) refl) (control-kept r v i)

module _ (s : SysRegs) (r : Register) (v : ℕ) where
  sys-after : (q : Register) → in_control q ≡ false → sys_at (sys_with s r v) q ≡ held_after r v q (sys_at s q)
  unfolding sys_with
  sys-after q i = grind arith

module _ (c : Control) (s : SysRegs) (r : Register) (v : ℕ) where
  -- each register after a write
  reg-after : (q : Register) → reg_at (wrote c s r v).control (wrote c s r v).sys q ≡ held_after r v q (reg_at c s q)
  reg-after q = grind (arith, control-after, apart, sys-after)

  pub reg-written : reg_at (wrote c s r v).control (wrote c s r v).sys r ≡ kept r v
  unfolding sys_with
  reg-written = grind (arith, eq-eqb, control-after, ne_eqb, key_one, false≢true, by_level)

  pub reg-others : (q : Register) → (q ≡ r → ⊥) → reg_at (wrote c s r v).control (wrote c s r v).sys q ≡ reg_at c s q
  reg-others q n = search (rules, reg-after, ne_eqb, key_one)

-- A whole write, by what the key names.
module _ (c : Control) (s : SysRegs) (level k v : ℕ) where
  pub write-nothing : register_at k ≡ None → write_reg c s level k v ≡ ended c s (Err NoRegister)
  unfolding write_reg
  write-nothing e = rw e

  pub write-el0 : (r : Register) → register_at k ≡ Some r → level ≡ 0 → write_reg c s level k v ≡ ended c s (Err Undefined)
  unfolding write_reg
  write-el0 r e l = rw (e, eq-eqb level 0 l)

  pub write_done : (r : Register) → register_at k ≡ Some r → (level ≡ 0 → ⊥) → write_reg c s level k v ≡ wrote c s r v
  unfolding write_reg
  write_done r e l = rw (e, ne_eqb level 0 l)

  -- a register of one struct leaves the other as it is
  pub write-control : (r : Register) → register_at k ≡ Some r → in_control r ≡ true → (write_reg c s level k v).sys ≡ s
  unfolding write_reg
  write-control r e i = grind arith

  pub write-sys : (r : Register) → register_at k ≡ Some r → in_control r ≡ false → (write_reg c s level k v).control ≡ c
  unfolding write_reg
  write-sys r e i = grind arith

-- A store at a level's place is the write of one register of a bank.

-- a bank written out
pub four : (l : List ℕ) → length l ≡ 4 → get_or l 0 0 ∷ get_or l 1 0 ∷ get_or l 2 0 ∷ get_or l 3 0 ∷ [] ≡ l
four l h = grind (arith, common_steps)
