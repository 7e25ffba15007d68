-- Masks of the code as the fields of the definitions.
use Rattle.std.specs.Prelude.{◌≡◌, refl, ℕ, ◌+◌, ◌-◌, ◌*◌, ◌/◌, ◌%◌, ◌^◌, ◌≤◌, ◌<◌, not, eqb, ◌==◌, ◌||◌, Bool, false, ◌&&◌}
use Rattle.std.proofs.Common.{ap, ◌∙◌, arith, rules}
use Rattle.std.specs.Int.Bits.{bit_and}
use Rattle.std.proofs.lemmas.Nat.Bits.{and_pow, ones_shr}
use Rattle.std.proofs.lemmas.Nat.{and_mask}
use Rattle.word.specs.Bits.{bit_on, field, align_down}
use Rattle.word.proofs.RamLaws.{cut_field, place, or-bit}
use Rattle.sysreg.proofs.Masks.{run}
use Rattle.walk.specs.Table.{beyond, grainsize, stride, table_next}
use Rattle.walk.specs.State.{lookup_of, stepped, meant, Standing, Leads}
use Rattle.walk.specs.declared.{level.Params.Params, level.WalkState.WalkState, rights.Permissions.Permissions}
use Rattle.walk.specs.declared.level.Step.TheVariants.{Next}
use Rattle.walk.specs.Permission.{Access, allowed, permission_byte, kind_bit, first_bit}
use lib.Pow.{high, shl-shr, shr-shr, mod-pow-add, pow_pos, pow_mono}
use mathlib.Core.Path.{sym}
use native.Mathlib.Nat.{mod-lt}
use lib.Bits.{bit_or}

-- all ones, shifted down
pub ones_shifted : (n : ℕ) → n ≤ 64 → (2 ^ 64 - 1) / 2 ^ n ≡ 2 ^ (64 - n) - 1
ones_shifted n h = ones_shr 64 n h

-- SCTLR_ELx.WXN
pub wxn_mask : (x : ℕ) → not (bit_and x 0x8_0000 == 0) ≡ bit_on x 19
wxn_mask x = rw (and_pow x 19) (grind arith)

-- HCR_EL2.TGE and DC
pub neither_mask : (x : ℕ) → (bit_and x 0x800_1000 == 0) ≡ not (bit_on x 27 || bit_on x 12)
neither_mask x = rw (run x 0x800_1000 27 1 refl, and_pow x 12) (grind arith)

pub ruleset masks = (wxn_mask)

-- an address beyond n bits
pub beyond_mask : (n x : ℕ) → n ≤ 44 → not (eqb (bit_and x 0xFFFF_FFFF_FFFF / 2 ^ n) 0) ≡ beyond n x
beyond_mask n x h = ap (λ (k : ℕ). not (eqb (k / 2 ^ n) 0)) (and_mask x 48) ∙ ap (λ (k : ℕ). not (eqb k 0)) (cut_field x {lo = n} {hi = 48} (omega arith))

pub ruleset ends = (beyond_mask)

-- One level of the walk case by case, on plain values.

-- bits top-1 to lsb, by a shift up and a shift down
pub index_is : (va top lsb : ℕ) → lsb ≤ top → top ≤ 64 → (va * 2 ^ (64 - top)) % 2 ^ 64 / 2 ^ (64 - top + lsb) ≡ field va lsb (top - lsb)
index_is va top lsb h k =
    let s = 64 - top in
    let e : 64 ≡ top + s = omega arith in
    let cut : (va * 2 ^ s) % 2 ^ 64 ≡ va % 2 ^ top * 2 ^ s + (va * 2 ^ s) % 2 ^ s =
    ap (λ (n : ℕ). (va * 2 ^ s) % 2 ^ n) e ∙ mod-pow-add (va * 2 ^ s) top s ∙ ap (λ (n : ℕ). n % 2 ^ top * 2 ^ s + (va * 2 ^ s) % 2 ^ s) (shl-shr va s) in
    ap (λ (n : ℕ). n / 2 ^ (s + lsb)) cut ∙ sym (shr-shr (va % 2 ^ top * 2 ^ s + (va * 2 ^ s) % 2 ^ s) s lsb)
    ∙ ap (λ (n : ℕ). n / 2 ^ lsb) (high (va % 2 ^ top) s (mod-lt (va * 2 ^ s) (pow_pos s))) ∙ cut_field va h

-- an index is small
pub index-small : (va top lsb : ℕ) → lsb ≤ top → top ≤ 48 → field va lsb (top - lsb) < 2 ^ 48
index-small va top lsb h k = grind (arith, mod-lt, pow_pos, pow_mono)

-- a table descriptor
and-or : (a b c : Bool) → (a && (b || c)) ≡ ((a && b) || (a && c))
and-or a b c = grind arith

module _ (p : Params) (w : WalkState) (desc : ℕ) (large : Bool) (el : large ≡ beyond p.outputsize desc) where
  pub table-onward : (g s x : ℕ) → large ≡ false → Standing p w → g ≡ grainsize p.largegrain → g ≤ 16 → x ≡ align_down (desc % 2 ^ 48) (g % 64)
      → stepped p (Next record { tables = bit_or w.tables desc; table = x; top = w.lsb; lsb = w.lsb - s; level = w.level + 1 })
      ≡ meant p (table_next p (lookup_of p w) desc)
  unfolding table_next
  table-onward g s x t st eg hg ex =
      rw (← el, t, ex, place {n = g} (omega arith), eg, st.lsb)
      (simp (or-bit w.tables desc 62, or-bit w.tables desc 61, or-bit w.tables desc 60, or-bit w.tables desc 59, and-or))

pub table-leads : (p : Params) (w : WalkState) (desc g s x o : ℕ) → Standing p w → w.level < 3 → s ≡ stride p.largegrain → x
    ≡ align_down (desc % 2 ^ 48) (g % 64)
    → Leads p w (Next record { tables = o; table = x; top = w.lsb; lsb = w.lsb - s; level = w.level + 1 })
table-leads p w desc g s x o st h es ex = grind arith

-- the two parts of an output address fit together, wherever they meet
pub parts_fit : (va desc x o n : ℕ) → x ≡ align_down (desc % 2 ^ 48) (n % 64) → o ≡ va % 2 ^ (n % 64) → x + o < 2 ^ 64
parts_fit va desc x o n ex eo = search rules

pub ruleset addresses = (index_is, index-small)

pub ruleset tables = (table-leads)

pub ruleset leaves = (parts_fit)

-- Bit k of the permission byte is set exactly where the permission check allows that access.

-- the law: singlepriv, WXN, the attributes; whether the access is privileged, and what it is
pub permission-bit : (singlepriv wxn : Bool) (p : Permissions) (privileged : Bool) (a : Access)
    → bit_on (permission_byte singlepriv wxn p) (kind_bit a + first_bit privileged) ≡ allowed singlepriv privileged wxn p a
permission-bit singlepriv wxn p privileged a = search rules
