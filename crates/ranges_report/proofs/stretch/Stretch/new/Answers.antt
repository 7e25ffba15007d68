use Rattle.std.proofs.Common.{◌≡◌, ◌∙◌}
use Rattle.word.specs.Ram.{word_at}
use Rattle.ranges_report.specs.Block.{level_of}
use Rattle.ranges_report.proofs.Blocks.{place-ahead, level-within}
use Rattle.ranges_report.proofs.stretch.Stretch.new.Goals as goal

pub last_of-last-requires : goal.last_of-last-requires
last_of-last-requires c =
    let h = level-within c.args.bank c.args.regime c.args.va (word_at c.args.base c.args.ram.now 8) in
    let l : c.from.result ≡ level_of c.walk-end.result.end = c.from.ensures ∙ c.level_of.ensures in
    rw (l, c.walk-end.ensures.end) h

pub returns-clause-holds : goal.returns-clause-holds
returns-clause-holds c vb h k =
    let memory = word_at c.args.base c.args.ram.now 8 in
    let l : c.from.result ≡ level_of c.walk-end.result.end = c.from.ensures ∙ c.level_of.ensures in
    let a = rw (l, c.walk-end.ensures.end, c.range-range.ensures) at (c.last_of-last.ensures.alike vb h k) in
    place-ahead c.args.bank c.args.regime c.args.va vb memory h a
