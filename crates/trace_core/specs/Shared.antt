-- What an operation says of what a list of windows is answered.
use Rattle.std.specs.Prelude.{Option, Result, Ok, Err}
use Rattle.cpu.specs.declared.call.Reply.TheVariants.{Refused}
use Rattle.windows.specs.Error.{number_of_error}
use Rattle.windows.specs.declared.{Pair.Pair, WindowsError.WindowsError}
use Rattle.windows.specs.declared.WindowsError.TheVariants as Error
use Rattle.trace_text.specs.declared.answer.Answer.{Answer}
use Rattle.trace_text.specs.declared.answer.Answer.TheVariants.{Reply, Shared, Page}

-- an answer to all pages, a page's own fault, or the number of the error
abbrev pub shared_told : Result (Option Pair) WindowsError → Answer
shared_told (Ok pair) = Shared pair
shared_told (Err (Error.Page page)) = Page page
shared_told (Err why) = Reply (Refused (number_of_error why))
