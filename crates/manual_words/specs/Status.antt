-- A fault status by its cause (DDI 0487, D17.2.37, from knowledge of ARMv8.0: the document itself was not at hand):
-- DFSC<5:0> and IFSC<5:0> of ESR_ELx, FST of PAR_EL1.
use Rattle.std.specs.Prelude.{if◌then◌else◌, ℕ, Bool, true, false, ◌==◌, Option, Some, None}
use Rattle.word.specs.Bits.{field}
use Rattle.manual_words.specs.declared.{status.Cause.Cause, status.Status.Status}
use Rattle.manual_words.specs.declared.status.Cause.TheVariants.{AddressSize, Translation, AccessFlag, Permission, External, ExternalOnWalk, Other}

-- by bits 5 to 2. Of 0b0100xx the first alone is the external abort of an access.
abbrev pub cause_at : ℕ → Cause
cause_at n =
    if field n 2 4 == 0b0000 then AddressSize
    else if field n 2 4 == 0b0001 then Translation
    else if field n 2 4 == 0b0010 then AccessFlag
    else if field n 2 4 == 0b0011 then Permission
    else if field n 0 6 == 0b010000 then External
    else if field n 2 4 == 0b0101 then ExternalOnWalk
    else Other

abbrev pub has_level : Cause → Bool
has_level AddressSize = true
has_level Translation = true
has_level AccessFlag = true
has_level Permission = true
has_level External = false
has_level ExternalOnWalk = true
has_level Other = false

-- where there is one it is bits 1 and 0
abbrev pub level_at : ℕ → Option ℕ
level_at n = if has_level (cause_at n) then Some (field n 0 2) else None

abbrev pub cause_of : Status → Cause
cause_of s = cause_at s.0

abbrev pub level_of : Status → Option ℕ
level_of s = level_at s.0
