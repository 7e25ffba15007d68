use Rattle.std.proofs.Common.{◌∙◌, arith}
use Rattle.quick.proofs.Hinting.{low, serves}
use Rattle.quick.proofs.hint.served.Goals as goal

pub hint_at-found-requires : goal.hint_at-found-requires
hint_at-found-requires c = grind (arith, low)

pub returns : goal.returns
returns c =
    c.then_some.ensures
    ∙ serves c.args.core.now c.args.va c.args.base c.args.len c.data_slot.result c.data_slot.ensures.value c.args.kind _ _ c.hint_at-found.ensures c.on_page.ensures
