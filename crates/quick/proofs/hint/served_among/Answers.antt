use Rattle.std.proofs.Common.{◌∙◌}
use Rattle.quick.proofs.Hinting.{none-is, serves-among}
use Rattle.quick.proofs.hint.served_among.Goals as goal

pub returns : goal.returns
returns c =
    c.then_some.ensures
    ∙ serves-among c.args.core.now c.args.n c.args.va c.args.base c.args.len _ c.args.kind _ _ _ c.place.ensures.value (none-is _ _ c.is_none.ensures) c.hint_at-found.ensures c.on_page.ensures
