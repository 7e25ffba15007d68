-- Laws of exception entry: which registers change, and where it goes.
use Rattle.std.proofs.Common.{rules}
use Rattle.std.specs.Prelude.{◌≡◌, ℕ, ◌≤◌, false, Some}
use Rattle.std.proofs.Common.{arith}
use Rattle.sysreg.specs.Regs.{sys_at}
use Rattle.sysreg.proofs.EncodingLaws.{by_level}
use Rattle.sysreg.specs.declared.{regs.Register.Register, regs.SysRegs.SysRegs}
use Rattle.exception.specs.declared.{kind.Exception.Exception, flags.Flags.Flags}
use Rattle.exception.specs.Route.{routed_to}
use Rattle.exception.specs.Entry.{entered_sys, register_after, of_entry, enter_of, take_sync, EachEntry}

-- each register after a synchronous exception
pub take_at : EachEntry (λ target esr far spsr ret before after. (q : Register) → sys_at after q ≡ register_after target (Some esr) far spsr ret q (sys_at before q))
unfolding take_sync enter_of entered_sys
take_at level pc scr hcr f s e = grind (arith, by_level)

pub take-others : EachEntry (λ target esr far spsr ret before after. (q : Register) → of_entry target q ≡ false → sys_at after q ≡ sys_at before q)
unfolding take_sync enter_of entered_sys
take-others level pc scr hcr f s e = grind (arith, by_level)

module _ (level pc scr hcr : ℕ) (f : Flags) (s : SysRegs) (e : Exception) where
  -- to EL1, EL2 or EL3
  pub take_level : (1 ≤ (take_sync level f pc scr hcr s e).level) × ((take_sync level f pc scr hcr s e).level ≤ 3)
  unfolding take_sync enter_of
  take_level = grind arith

  -- and never down
  pub take-up : level ≤ 3 → level ≤ (take_sync level f pc scr hcr s e).level
  unfolding take_sync enter_of routed_to
  take-up h = search rules
