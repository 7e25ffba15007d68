use Rattle.std.proofs.Common.{sym, ◌∙◌}
use Rattle.quick.proofs.ByHint.{hint-moves}
use Rattle.quick.proofs.OnePage.{told}
use Rattle.quick.proofs.load.by_hint.Goals as goal

pub returns-in-Some : goal.returns-in-Some
returns-in-Some g c =
    told _ _ _ _ _ _ _ _ _ _ _ _ c.requires.near (hint-moves _ _ _ _ c.in-Some.pa _ (sym c.by_hint.ensures ∙ c.in-Some.is) c.none.ensures) c.ended.ensures
