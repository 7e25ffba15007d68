-- The premise in numbers: each row is computed.
use Rattle.std.proofs.Common.{arith, true≢false}
use Rattle.std.specs.Prelude.{refl, false, [], ◌∷◌}
use Rattle.std.proofs.lemmas.Bool.{eqb-false}
use Rattle.sysreg.specs.Regs.{fresh_control, fresh_sys}
use Rattle.sysreg.specs.Encoding.{banked_at, register_at}
use Rattle.sysreg.specs.Write.{control_with, sys_with, write_reg}
use Rattle.sysreg.specs.Shape.{same_shape, asid_base, asid_of}
use Rattle.tlb.specs.Live.{Each, done, more}
use Rattle.tlb.specs.declared.Inval.{Inval}
use Rattle.tlb.specs.declared.Inval.TheVariants.{All, Page, Asid}
use Rattle.system.specs.Decode.{named, decode_of}
use Rattle.system.specs.Tlbi.{scope_of, what_of, tlbi_of}
use Rattle.cpu.specs.Bare.{zeros}
use Rattle.cpu.specs.Check.{missed_of}
use Rattle.history.proofs.Lists.{each-head}
use Rattle.transparency.specs.Claim.{Covers}
use Rattle.transparency.specs.PremiseRows.{Was, was, leaf_of}
use Rattle.transparency.specs.PremiseRows as Statement

taken : (v : Inval) (w : Was) → Covers v w.page (leaf_of w) w.asid → Each (λ u. Covers u w.page (leaf_of w) w.asid → ⊥) (v ∷ []) → ⊥
taken v w h e = each-head e h

pub all-rows : Statement.all_rows
unfolding zeros fresh_control fresh_sys banked_at register_at control_with sys_with write_reg missed_of named decode_of scope_of what_of tlbi_of
all-rows = (taken All _ tt, taken All _ tt, done)

pub page-rows : Statement.page_rows
unfolding zeros fresh_control fresh_sys banked_at register_at control_with sys_with write_reg missed_of named decode_of scope_of what_of tlbi_of
page-rows = (
  taken (Page 0x40001) (was 0x40001 3 false 5) refl,
  taken (Page 0x40001) _ refl,
  taken (Page 0x40001) _ refl,
  taken (Page 0x40001) _ refl,
  taken (Page 0x40001) _ refl,
  more (eqb-false _ _ refl) done,
  taken (Page 0x40001) _ refl,
  taken (Page 0x40001) _ refl,
  more (eqb-false _ _ refl) done,
  taken (Page 0x40001) _ refl,
  taken (Page 0x40001) _ refl,
  more (eqb-false _ _ refl) done,
)

pub bit-rows : Statement.bit_rows
unfolding zeros fresh_control fresh_sys banked_at register_at control_with sys_with write_reg missed_of named decode_of scope_of what_of tlbi_of
bit-rows = (taken (Page 0x0006_0FFF_FFFF_F012) _ refl, taken (Page 0xFFFF_F000_0004_0001) _ refl, more (eqb-false _ _ refl) done)

pub asid-rows : Statement.asid_rows
unfolding zeros fresh_control fresh_sys banked_at register_at control_with sys_with write_reg missed_of named decode_of scope_of what_of tlbi_of
asid-rows = (
  taken (Asid 5) _ (refl, refl),
  taken (Asid 5) _ (refl, refl),
  taken (Asid 5) _ (refl, refl),
  taken (Asid 0) _ (refl, refl),
  more (λ h. true≢false h.0) done,
  more (λ h. eqb-false _ _ refl h.1) done,
)

pub write-rows : Statement.write_rows
unfolding zeros fresh_control fresh_sys banked_at register_at control_with sys_with write_reg missed_of same_shape asid_of asid_base
write-rows = (taken All _ tt, taken All _ tt, done, done)

pub equal-rows : Statement.equal_rows
equal-rows = grind arith
