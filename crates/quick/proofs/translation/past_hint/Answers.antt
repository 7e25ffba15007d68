use Rattle.quick.proofs.ByHint.{by-hand, unhinted-as, asked-told}
use Rattle.quick.proofs.translation.past_hint.Goals as goal

pub returns-in-Some : goal.returns-in-Some
returns-in-Some g c =
    let past = by-hand _ _ _ _ _ _ _ c.in-Some.ensures.answer c.none.ensures in
    asked-told _ _ _ _ _ _ _ _ (unhinted-as _ _ _ _ _ c.KIND.ensures _ _ _ c.requires.no_hint past) _ _ _ (c.told.ensures c.args.va)
