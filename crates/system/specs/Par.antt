-- PAR_EL1 after an AT, its two formats by field name (DDI 0487, D17.2, from knowledge of ARMv8.0: the document itself
-- was not at hand). A1, D1 and the like are rows of docs/DIFFERENCES.md.
use Rattle.std.specs.Prelude.{if◌then◌else◌, ◌≡◌, Bool, true, false, not, ◌||◌, ℕ, ◌+◌, ◌*◌, ◌^◌, Option, Ok, Err}
use Rattle.word.specs.Bits.{bit_on, field, flag}
use Rattle.sysreg.specs.declared.regs.Control.{Control}
use Rattle.walk.specs.Regime.{bank_of, non_secure, wxn_of, untagged}
use Rattle.sysreg.specs.Regs.{single_priv}
use Rattle.walk.specs.Descriptor.{attr_indx, ns, sh}
use Rattle.walk.specs.Table.{Translation, Result, mapped, faults, status_of}
use Rattle.walk.specs.Permission.{Access, reading, writing, allowed}
use Rattle.walk.specs.Walk.{flat_by, fresh_of, walk_of}
use Rattle.walk.specs.declared.{regime.Bank.Bank, level.Leaf.Leaf, fresh.Fresh.Fresh}
use Rattle.sysreg.specs.declared.regs.Regime.{Regime}
use Rattle.sysreg.specs.declared.regs.Regime.TheVariants.{El1, El2, El3}
use Rattle.walk.specs.declared.fresh.Fresh.TheVariants.{Flat, Ended}
use Rattle.tlb.specs.Access.{right_of, has_right}
use Rattle.tlb.specs.declared.access.Kind.{Kind}
use Rattle.tlb.specs.declared.access.Kind.TheVariants.{Read, Write}
use Rattle.system.specs.declared.decode.AtForm.{AtForm}
use Rattle.walk.specs.Answers.{Walked}

-- F is 0: ATTR<63:56>, PA<47:12>, bit 11 RES1, NS<9>, SH<8:7>
unfoldable pub success : ℕ → ℕ → Bool → ℕ → ℕ
success attr pa nonsecure shareability =
    attr * 2 ^ 56 + field pa 12 36 * 2 ^ 12 + 2 ^ 11 + flag nonsecure (2 ^ 9) + shareability * 2 ^ 7

-- F is 1: bit 11 RES1, FST<6:1>. M3: without stage 2 the fault is of stage 1, so S<9> and PTW<8> are 0. A1: a walk's
-- external abort is reported here and not taken.
unfoldable pub abort : ℕ → ℕ
abort status = 2 ^ 11 + status * 2 ^ 1 + 1

-- MAIR_ELx.Attr<n>. O9: as it stands.
abbrev pub mair_attr : ℕ → ℕ → ℕ
mair_attr mair n = field mair (n * 8) 8

-- a regime is Non-secure by SCR_EL3.NS, and EL3's never. O10: PAR.NS, UNKNOWN from a Non-secure regime in the manual,
-- is 1.
abbrev pub from_non_secure : Bank → Regime → Bool
from_non_secure s El1 = non_secure s
from_non_secure s El2 = non_secure s
from_non_secure s El3 = false

abbrev pub kind_of : Bool → Kind
kind_of true = Write
kind_of false = Read

-- the leaf has the right that the form asks for: EL0's or the regime's own, to read or to write
abbrev pub permits : AtForm → Leaf → Bool
permits f leaf = has_right leaf.perms (right_of (kind_of f.write) f.user)

-- NS and SH are the leaf descriptor's. A6: NSTable is ignored. D1: SH is not made 0b10 for Device and Non-cacheable
-- memory.
abbrev pub leaf_found : ℕ → Bool → Leaf → ℕ
leaf_found mair nonsecure leaf =
    success (mair_attr mair (attr_indx leaf.desc)) leaf.oa (nonsecure || ns leaf.desc) (sh leaf.desc)

-- a permission fault has status 0x0C plus the leaf's level
unfoldable pub leaf_par : ℕ → Bool → AtForm → Leaf → ℕ
leaf_par mair nonsecure f leaf = if permits f leaf then leaf_found mair nonsecure leaf else abort (12 + leaf.level)

abbrev pub walk_par : ℕ → Bool → AtForm → Walked → ℕ
walk_par mair nonsecure f (Ok leaf) = leaf_par mair nonsecure f leaf
walk_par mair nonsecure f (Err status) = abort status

-- With stage 1 off PA is that of the address; one that is too large is a fault. D1: SH is 0, and not 0b10. A5: ATTR is 0 under HCR_EL2.DC too.
abbrev pub fresh_par : ℕ → Bool → AtForm → Fresh → ℕ
fresh_par mair nonsecure f (Ended w) = walk_par mair nonsecure f w
fresh_par mair nonsecure f (Flat pa) = success 0 pa nonsecure 0

-- by the fresh answer of the form's regime
unfoldable pub par_in : Bank → ℕ → AtForm → ℕ → (ℕ → Option ℕ) → ℕ
par_in s mair f va memory = fresh_par mair (from_non_secure s f.regime) f (fresh_of s f.regime va memory)

-- the registers of the form's regime
unfoldable pub at_par : Control → ℕ → AtForm → ℕ → (ℕ → Option ℕ) → ℕ
at_par c mair f va memory = par_in (bank_of c f.regime) mair f va memory

-- PAR_EL1 by the manual's own walk and permission check, AArch64.TranslationTableWalk and AArch64.CheckPermission:
-- `manual-par` of proofs/Words.antt has the two equal
abbrev pub access_of : Bool → Access
access_of true = writing
access_of false = reading

abbrev pub checked : Bank → AtForm → Translation → Bool
checked s f t = allowed (single_priv f.regime) (not f.user) (wxn_of s) t.perms (access_of f.write)

unfoldable pub result_par : Bank → AtForm → ℕ → Bool → Result → ℕ
result_par s f mair nonsecure (mapped t) =
    if checked s f t then success (mair_attr mair (attr_indx t.descriptor)) t.address (nonsecure || ns t.descriptor) (sh t.descriptor)
    else abort (12 + t.level)
result_par s f mair nonsecure (faults x) = abort (status_of x)

-- WHAT THE THEOREMS SAY

-- the walk that an AT makes
abbrev pub at_walk : Control → AtForm → ℕ → (ℕ → Option ℕ) → Walked
at_walk c f va memory = walk_of (bank_of c f.regime) f.regime (untagged (bank_of c f.regime).tcr f.regime va) memory

-- what its address is with stage 1 off
abbrev pub at_flat : Control → AtForm → ℕ → Option ℕ
at_flat c f va = flat_by (untagged (bank_of c f.regime).tcr f.regime va)

-- the walk ends in a leaf that has the right asked for
abbrev pub granted : AtForm → Walked → Bool
granted f (Ok leaf) = permits f leaf
granted f (Err status) = false

-- each field stands where the manual has it
pub record Fields (par attr pa : ℕ) (n : Bool) (s : ℕ) : Type 0 where
  pub attr-63-56 : field par 56 8 ≡ attr
  pub pa-47-12 : field par 12 36 ≡ field pa 12 36
  pub ns-9 : bit_on par 9 ≡ n
  pub sh-8-7 : field par 7 2 ≡ s
