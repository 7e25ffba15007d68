use Rattle.std.proofs.Common.{refl}
use Rattle.ranges_report.proofs.Windows.{lower-window, upper-window, lower-page, upper-page}
use Rattle.ranges_report.proofs.stretch.Window.new.Goals as goal

pub returns-then-range : goal.returns-then-range
returns-then-range c = rw c.clamp-size.ensures (record {
  pages = (upper-page c.args.range, refl);
  ends = λ va h. upper-window c.args.range va h c.if-range.true;
})

pub returns-else-range : goal.returns-else-range
returns-else-range c = rw c.clamp-size.ensures (record {
  pages = (refl, lower-page c.args.range);
  ends = λ va h. lower-window c.args.range va c.if-range.false;
})
