use Rattle.std.proofs.Common.{refl}
use Rattle.quick.proofs.ByHint.{by-hand, unhinted-as}
use Rattle.quick.proofs.OnePage.{told}
use Rattle.quick.proofs.load.past_hint.Goals as goal

pub returns-in-Some : goal.returns-in-Some
returns-in-Some g c =
    let past = by-hand _ _ _ _ _ _ _ c.in-Some.ensures.answer c.none.ensures in
    told _ _ _ _ _ _ _ _ _ _ _ _ c.requires.near (unhinted-as _ _ _ _ _ refl _ _ _ c.requires.no_hint past) c.ended.ensures
