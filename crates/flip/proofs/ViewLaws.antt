-- What a call asks, level by level.
use Rattle.std.specs.Prelude.{◌≡◌, refl, ℕ, ◌+◌, ◌^◌, ◌<◌, ◌≤◌, Bool, false, List, length, None, Ok, Err}
use Rattle.std.proofs.Common.{sym}
use Rattle.std.proofs.lemmas.Bool.{lt-ltb, le-ltb}
use Rattle.sysreg.specs.declared.regs.Regime.TheVariants.{El1, El2, El3}
use Rattle.walk.specs.Regime.{stage1_on}
use Rattle.cpu.specs.declared.check.Check.TheVariants as Check
use Rattle.flip.specs.Flip.{first_flip, flip_of}
use Rattle.flip.specs.Views.{EachView, EachAsked}
use Rattle.flip.specs.declared.Question.{Question}
use Rattle.flip.proofs.Finding.{stage-off}

pub at-el0 : EachView (λ asks by. (user : Bool) → asks 0 user ≡ by 1 El1 user)
at-el0 control va kind user = refl

pub at-el1 : EachView (λ asks by. (user : Bool) → asks 1 user ≡ by 1 El1 user)
at-el1 control va kind user = refl

pub at-el2 : EachView (λ asks by. (user : Bool) → asks 2 user ≡ by 2 El2 false)
at-el2 control va kind user = refl

pub at-el3 : EachView (λ asks by. (user : Bool) → asks 3 user ≡ by 3 El3 false)
at-el3 control va kind user = refl

pub told : EachAsked (λ level end found first. level ≤ 3 → end ≤ 2 ^ 64 → found ≡ Ok first)
unfolding flip_of
told control level base ram va kind user h fits = rw (le-ltb 3 level h, le-ltb (2 ^ 64) (base + length ram) fits) refl

pub off-none : (q : Question) (base : ℕ) (ram : List ℕ) → stage1_on q.bank q.regime ≡ false → first_flip q base ram ≡ None
off-none q base ram h = sym (stage-off q base ram (stage1_on q.bank q.regime) refl h)

pub no-level : EachAsked (λ level end found first. 3 < level → found ≡ Err Check.Level)
unfolding flip_of
no-level control level base ram va kind user h = rw (lt-ltb 3 level h) refl

pub no-window : EachAsked (λ level end found first. level ≤ 3 → 2 ^ 64 < end → found ≡ Err Check.Window)
unfolding flip_of
no-window control level base ram va kind user h w = rw (le-ltb 3 level h, lt-ltb (2 ^ 64) (base + length ram) w) refl
