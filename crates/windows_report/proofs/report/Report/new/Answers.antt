use Rattle.std.proofs.Common.{sym, subst, ap, ◌∙◌, Ok, Err}
use Rattle.windows.specs.Windows.{Found}
use Rattle.windows.specs.declared.WindowsError.{WindowsError}
use Rattle.windows_report.proofs.Lists.{Refuses, wrong_list}
use Rattle.windows_report.proofs.report.Report.new.Goals.{in-Ok, in-Err-Page}
use Rattle.windows_report.proofs.report.Report.new.Goals as goal

pub returns-in-Err-clause-refused : goal.returns-in-Err-clause-refused
returns-in-Err-clause-refused c =
    let none : Refuses c.windows.result =
    rw c.windows.ensures
    (wrong_list c.args.core.now.control c.args.core.now.privilege.level c.args.base c.args.ram.now c.args.list.now c.in-Err.why
    (c.in-Err.ensures.wrong)) in
    elim c.match-windows.branch [
      | in-Ok w ↦ absurd (rw w.in-Ok.is at none)
      | in-Err-Page w ↦ absurd (rw (w.in-Err-Page.is, w.in-Err-Page.field-0-is) at none)
    ]
