use Rattle.std.proofs.Common.{refl}
use Rattle.quick.proofs.ByHint.{by-walk, unhinted-as}
use Rattle.quick.proofs.OneStore.{told, put-told}
use Rattle.quick.proofs.store.by_walk.Goals as goal

pub returns : goal.returns
returns g c =
    let past = by-walk _ _ _ _ _ _ _ _ c.none-work.ensures c.by_walk-answer.ensures.core c.by_walk-answer.ensures.work c.requires.needs_walk in
    let moved = unhinted-as _ _ _ _ _ refl _ _ _ c.requires.no_hint past in
    record {
      tells = told _ _ _ _ _ c.requires.near _ _ _ moved _ _ _ _ c.ended.ensures.tells;
      ram = put-told _ _ _ _ _ c.requires.near _ _ _ moved _ _ c.ended.ensures.ram;
    }
