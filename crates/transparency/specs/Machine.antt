-- The core as a machine of the theory: its step is `step_of` of `cpu`, which the contract of the code's `step` cites.
use Rattle.cpu.specs.Bare.{Bare, bare_of}
use Rattle.cpu.specs.declared.Core.{Core}
use Rattle.cpu.specs.Step.{step_of}
use Rattle.cpu.specs.declared.call.Call.{Call}
use Rattle.history.specs.Calls.{Machine}
use Rattle.history.specs.Instance.{real}
use Rattle.transparency.specs.Bare.{bare_step}
use Rattle.transparency.specs.Events.{plain_in}
use Rattle.transparency.specs.Events.{events_in}
use Rattle.transparency.specs.Starts.{later_in}

abbrev pub machine : Machine real
machine =
    record {
      Core = Core;
      Bare = Bare;
      Call = Call;
      bare = bare_of;
      tlb = λ c. c.tlb;
      step = λ c m x. (step_of c m.base m.bytes x).core;
      later = later_in;
      plain = plain_in;
      bare_step = bare_step;
      events = events_in;
    }
