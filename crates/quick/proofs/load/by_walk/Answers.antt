use Rattle.std.proofs.Common.{refl}
use Rattle.quick.proofs.ByHint.{by-walk, unhinted-as}
use Rattle.quick.proofs.OnePage.{told}
use Rattle.quick.proofs.load.by_walk.Goals as goal

pub returns : goal.returns
returns g c =
    let past = by-walk _ _ _ _ _ _ _ _ c.none-work.ensures c.by_walk-answer.ensures.core c.by_walk-answer.ensures.work c.requires.needs_walk in
    told _ _ _ _ _ _ _ _ _ _ _ _ c.requires.near (unhinted-as _ _ _ _ _ refl _ _ _ c.requires.no_hint past) c.ended.ensures
