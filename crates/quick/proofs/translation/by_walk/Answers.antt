use Rattle.quick.proofs.ByHint.{by-walk, needs-as, unhinted-as, asked-told}
use Rattle.quick.proofs.translation.by_walk.Goals as goal

pub returns : goal.returns
returns g c =
    let past = by-walk _ _ _ _ _ _ _ _ c.none-work.ensures c.by_walk-answer.ensures.core c.by_walk-answer.ensures.work (needs-as c.args.core.now _ _ _ _ c.KIND.ensures c.requires.needs_walk) in
    asked-told _ _ _ _ _ _ _ _ (unhinted-as _ _ _ _ _ c.KIND.ensures _ _ _ c.requires.no_hint past) _ _ _ (c.told.ensures c.args.va)
