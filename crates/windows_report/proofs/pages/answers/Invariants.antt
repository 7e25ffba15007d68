-- The answers of the pages so far.
use Rattle.std.proofs.Common.{◌≡◌, map}
use Rattle.std.specs.List.{range_with_len}
use Rattle.word.specs.Ram.{word_at}
use Rattle.windows_report.specs.Pages.{answer_at}
use Rattle.windows_report.proofs.pages.answers.Given as goal

abbrev pub invariant-loop-page : goal.invariant-loop-page
invariant-loop-page l = l.all.items ≡ map (answer_at l.core (word_at l.base l.ram 8) l.window) (range_with_len 0 l.page)
