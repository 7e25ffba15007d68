-- The status that the tool ends with where a command is not carried out.
use Rattle.std.specs.Prelude.{ℕ}
use Rattle.tool_call.specs.declared.stop.Stop.{Stop}
use Rattle.tool_call.specs.declared.stop.Stop.TheVariants.{NoCommand, NoSuchCommand, NoSuchOption, Usage, Argument, Trace}
use Rattle.tool_call.specs.declared.stop.Stop.TheVariants.{Census, List, LongList, PastRam, NoCore, WrongList, NotApart, Stale, Unfinished, LostTone, Output, Memory}

-- 2 where the call is wrong, else 1
abbrev pub status_of : Stop → ℕ
status_of NoCommand = 2
status_of NoSuchCommand = 2
status_of NoSuchOption = 2
status_of (Usage why) = 2
status_of (Argument wrong) = 1
status_of (Trace trouble) = 1
status_of (Census refused) = 1
status_of (List error) = 1
status_of LongList = 1
status_of PastRam = 1
status_of NoCore = 1
status_of (WrongList refusal) = 1
status_of NotApart = 1
status_of Stale = 1
status_of Unfinished = 1
status_of LostTone = 1
status_of (Output error) = 1
status_of (Memory error) = 1
