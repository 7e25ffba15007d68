use Rattle.std.proofs.Common.{◌%◌, ◌^◌, ◌<◌, ◌≡◌, arith}
use Rattle.ranges_report.proofs.Windows.{block-fits, block-page, one-shift}
use Rattle.ranges_report.proofs.stretch.end_of_block.Goals as goal

pub overflow_add-result : goal.overflow_add-result
overflow_add-result c =
    let v : c.args.va < 2 ^ 64 = omega arith in
    let e : c.args.n % 64 ≡ c.args.n = omega arith in
    let a = rw e at c.align_down.ensures in
    rw (one-shift c.args.n c.requires, a) (omega (arith, block-fits c.args.va c.args.n v c.requires))

pub returns-clause-page : goal.returns-clause-page
returns-clause-page c h =
    let e : c.args.n % 64 ≡ c.args.n = omega arith in
    let a = rw e at c.align_down.ensures in
    rw (one-shift c.args.n c.requires, a) (block-page c.args.va c.args.n h)
