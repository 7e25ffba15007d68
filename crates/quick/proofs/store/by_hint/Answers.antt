use Rattle.std.proofs.Common.{sym, ◌∙◌}
use Rattle.quick.proofs.ByHint.{hint-moves}
use Rattle.quick.proofs.OneStore.{told, put-told}
use Rattle.quick.proofs.store.by_hint.Goals as goal

pub returns-in-Some : goal.returns-in-Some
returns-in-Some g c =
    let moved = hint-moves _ _ _ _ c.in-Some.pa _ (sym c.by_hint.ensures ∙ c.in-Some.is) c.none.ensures in
    record {
      tells = told _ _ _ _ _ c.requires.near _ _ _ moved _ _ _ _ c.ended.ensures.tells;
      ram = put-told _ _ _ _ _ c.requires.near _ _ _ moved _ _ c.ended.ensures.ram;
    }
