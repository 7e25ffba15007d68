use Rattle.std.proofs.Common.{refl}
use Rattle.quick.proofs.ByHint.{by-hand, unhinted-as}
use Rattle.quick.proofs.OneStore.{told, put-told}
use Rattle.quick.proofs.store.past_hint.Goals as goal

pub returns-in-Some : goal.returns-in-Some
returns-in-Some g c =
    let past = by-hand _ _ _ _ _ _ _ c.in-Some.ensures.answer c.none.ensures in
    let moved = unhinted-as _ _ _ _ _ refl _ _ _ c.requires.no_hint past in
    record {
      tells = told _ _ _ _ _ c.requires.near _ _ _ moved _ _ _ _ c.ended.ensures.tells;
      ram = put-told _ _ _ _ _ c.requires.near _ _ _ moved _ _ c.ended.ensures.ram;
    }
