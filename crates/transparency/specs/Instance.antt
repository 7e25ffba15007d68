-- What a call of the core replies, beside the core without a cache.
use Rattle.history.specs.Calls.{Replies}
use Rattle.history.specs.Instance.{real}
use Rattle.transparency.specs.Machine.{machine}
use Rattle.transparency.specs.Replies.{Outcome, outcome_of, bare_reply}

-- the reply and RAM of a call: by `step_of` and `ram_after`, and by the core without a cache
abbrev pub replies : Replies real machine
replies = record { Reply = Outcome; reply = outcome_of; bare_reply = bare_reply }
