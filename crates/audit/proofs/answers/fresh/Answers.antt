-- The leaf of the walk of now, judged.
use Rattle.std.specs.Prelude.{◌≡◌, true, Ok}
use Rattle.std.proofs.Common.{rules, ◌∙◌}
use Rattle.walk.specs.Regime.{bank_of, stage1_on}
use Rattle.sysreg.specs.Regs.{regime_of}
use Rattle.walk.specs.Walk.{walk_of}
use Rattle.cpu.specs.Bare.{bare_of}
use Rattle.history.specs.Window.{window_of, memory_of}
use Rattle.transparency.specs.Claim.{untagged_in}
use Rattle.audit.proofs.Laws.{fresh-leaf}
use Rattle.audit.proofs.answers.fresh.Goals as goal

pub returns : goal.returns
returns c =
    let b = bare_of c.args.core.now in
    let m = window_of c.args.base c.args.ram.now in
    let r = regime_of b.privilege.level in
    let on : stage1_on (bank_of b.control r) r ≡ true = search rules in
    let walked : walk_of (bank_of b.control r) r (untagged_in b c.args.va) (memory_of m) ≡ Ok c.in_ok-leaf.leaf = search rules in
    c.judge.ensures
    ∙ rw (c.new.ensures, c.is_user-user.ensures, c.of_level-regime.ensures)
    (fresh-leaf b m c.args.kind c.args.va c.in_ok-leaf.leaf on walked)
