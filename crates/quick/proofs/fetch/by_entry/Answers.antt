use Rattle.quick.proofs.ByHint.{by-hand}
use Rattle.quick.proofs.Fetching.{fetch-missed, told}
use Rattle.quick.proofs.fetch.by_entry.Goals as goal

pub returns-in-Some : goal.returns-in-Some
returns-in-Some g c =
    let past = by-hand _ _ _ _ _ _ _ c.in-Some.ensures.answer c.none.ensures in
    told _ _ _ _ _ _ _ (fetch-missed _ _ _ _ _ _ _ c.requires.no_hint past c.leave.ensures) _ _ _ _ _ c.ended.ensures
