-- What an operation says of what a flip is answered.
use Rattle.std.specs.Prelude.{Option, Result, Ok, Err}
use Rattle.cpu.specs.Check.{number_of}
use Rattle.cpu.specs.declared.check.Check.{Check}
use Rattle.cpu.specs.declared.call.Reply.TheVariants.{Refused}
use Rattle.flip.specs.declared.FlippedBit.{FlippedBit}
use Rattle.trace_text.specs.declared.answer.Answer.{Answer}
use Rattle.trace_text.specs.declared.answer.Answer.TheVariants.{Reply, Flipped}

-- the bit, or the number of a check
abbrev pub flip_told : Result (Option FlippedBit) Check → Answer
flip_told (Ok bit) = Flipped bit
flip_told (Err check) = Reply (Refused (number_of check))
