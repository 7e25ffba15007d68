use Rattle.std.proofs.Common.{refl, sym, ap, ◌∙◌}
use Rattle.call_words.specs.Ops.{abort_call}
use Rattle.core_calls.proofs.Promised.{of-words-setting, unnamed-setting}
use Rattle.core_calls.proofs.Said.{set-said}
use Rattle.core_calls.proofs.settings.abort.Goals as goal

pub returns-in-Known : goal.returns-in-Known
returns-in-Known c = of-words-setting _ _ _ _ _ (ap abort_call (sym c.exception_of.ensures ∙ c.in-Known.is)) (set-said _ _ refl _ _ c.abort.ensures)

pub returns-in-Unknown : goal.returns-in-Unknown
returns-in-Unknown c = unnamed-setting _ _ (ap abort_call (sym c.in-Unknown.is ∙ c.exception_of.ensures))
