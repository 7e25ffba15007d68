use Rattle.std.proofs.Common.{sym, ◌∙◌}
use Rattle.quick.proofs.Fetching.{fetch-serves, told}
use Rattle.quick.proofs.fetch.by_hint.Goals as goal

pub returns-in-Some : goal.returns-in-Some
returns-in-Some g c =
    told _ _ _ _ _ _ _ (fetch-serves _ _ _ c.in-Some.pa _ (sym c.by_fetch_hint.ensures ∙ c.in-Some.is) c.none.ensures) _ _ _ _ _ c.ended.ensures
