-- The row of a page stands where the page does.
use Rattle.std.proofs.Common.{ap, ◌∙◌, List}
use Rattle.std.specs.List.{position}
use Rattle.reads_report.specs.Rows.{same}
use Rattle.reads_report.specs.declared.rows.{Page.Page}
use Rattle.reads_report.proofs.Same.{position-pages}
use Rattle.reads_report.proofs.pages.Pages.place_of.Goals as goal

pub returns-clause-place : goal.returns-clause-place
returns-clause-place c =
    c.get_index_of.ensures.index
    ∙ ap (λ (l : List Page). position (same c.args.page.now) l) c.args.self.now.placed
    ∙ position-pages (same c.args.page.now) c.args.self.now.rows.items
