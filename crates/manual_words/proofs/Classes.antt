-- The class that an exception reports is told by its name, and FAR_ELx of those that write it.
use Rattle.std.specs.Prelude.{is_some}
use Rattle.std.proofs.Common.{◌≡◌, ℕ, Bool, true, false, refl, arith}
use Rattle.exception.specs.Syndrome.{class_of, far_of}
use Rattle.exception.specs.declared.kind.Exception.{Exception}
use Rattle.manual_words.specs.Syndrome.{class_at, far_told, told_class}

pub told_by_name : (lower : Bool) (e : Exception) → class_at (class_of lower e) ≡ told_class lower e
told_by_name lower Exception.Undefined = refl
told_by_name lower (Exception.Svc imm) = refl
told_by_name lower (Exception.Hvc imm) = refl
told_by_name lower (Exception.Smc imm) = refl
told_by_name lower (Exception.Brk imm) = refl
told_by_name true (Exception.DataAbort a) = refl
told_by_name false (Exception.DataAbort a) = refl
told_by_name true (Exception.InsnAbort a) = refl
told_by_name false (Exception.InsnAbort a) = refl
told_by_name lower Exception.PcAlignment = refl

pub told_far : (lower : Bool) (pc : ℕ) (e : Exception) → far_told (told_class lower e) ≡ is_some (far_of pc e)
told_far lower pc e = grind arith
