use Rattle.std.specs.Prelude.{Err}
use Rattle.std.proofs.Common.{refl, sym, ap, ◌∙◌, arith}
use Rattle.sysreg.specs.Write.{WriteAnswer}
use Rattle.sysreg.specs.declared.write.WriteError.{WriteError}
use Rattle.cpu.specs.Check.{registering}
use Rattle.call_words.specs.Replies.{code_by}
use Rattle.quick.proofs.Setting.{register-high, register-written}
use Rattle.quick.proofs.settings.register.Goals as goal

pub returns-then-core-gt3 : goal.returns-then-core-gt3
returns-then-core-gt3 c = register-high _ _ _ _ refl (omega (arith, c.if-core-gt3.true))

pub returns-in-Ok : goal.returns-in-Ok
returns-in-Ok c =
    register-written _ _ _ _ c.key_of.ensures _ _ _ (omega (arith, c.if-core-gt3.false)) c.write_reg.ensures
    (ap (λ (x : WriteAnswer). code_by (registering x)) (sym c.in-Ok.is))

pub returns-in-Err-Undefined : goal.returns-in-Err-Undefined
returns-in-Err-Undefined c =
    register-written _ _ _ _ c.key_of.ensures _ _ _ (omega (arith, c.if-core-gt3.false)) c.write_reg.ensures
    (ap (λ (e : WriteError). code_by (registering (Err e))) (sym c.in-Err-Undefined.field-0-is)
    ∙ ap (λ (x : WriteAnswer). code_by (registering x)) (sym c.in-Err-Undefined.is))

pub returns-in-Err-NoRegister : goal.returns-in-Err-NoRegister
returns-in-Err-NoRegister c =
    register-written _ _ _ _ c.key_of.ensures _ _ _ (omega (arith, c.if-core-gt3.false)) c.write_reg.ensures
    (ap (λ (e : WriteError). code_by (registering (Err e))) (sym c.in-Err-NoRegister.field-0-is)
    ∙ ap (λ (x : WriteAnswer). code_by (registering x)) (sym c.in-Err-NoRegister.is))
