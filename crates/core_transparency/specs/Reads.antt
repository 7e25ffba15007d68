-- What a call reports of its reads, on a core that calls made: what `every_read` (crates/transparency/src/theorems.rt) says of it after the list.
use Rattle.std.specs.Prelude.{◌≡◌, List, ℕ, ◌+◌, ◌<◌, get_or}
use Rattle.cpu.specs.declared.Core.{Core}
use Rattle.cpu.specs.declared.call.Call.{Call}
use Rattle.history.specs.Calls.{Lent}
use Rattle.history.specs.Instance.{Ram, window_of, real}
use Rattle.history.specs.Tallies.{reads_of}
use Rattle.transparency.specs.Machine.{machine}
use Rattle.transparency.specs.Bare.{ruling_in, if_allowed}
use Rattle.transparency.specs.Beside.{bare_after}
use Rattle.transparency.specs.LevelCounts.{made_after}
use Rattle.transparency.specs.Reads.{own_reads}
use Rattle.call_words.specs.declared.reply.Report.{Report}
use Rattle.call_words.specs.declared.op.DecodedCall.TheVariants.{Known}
use Rattle.core_calls.specs.Promise.{Promise, StepPromise}
use Rattle.core_transparency.specs.OnCore.{Made}

-- the descriptors of the walks that the plain model makes of a call's translations after a list, and those of AT's own walk
abbrev pub reads_due : List (Lent real machine) → Ram → Call → ℕ
reads_due list m x = reads_of (made_after list m x) + if_allowed (ruling_in (bare_after list) m x) (own_reads (bare_after list) m x) 0

-- with each number that is none from 1 to 255, whatever the report held before
abbrev pub reads_on_core : Type 0
reads_on_core =
    (c : Core) (list : List (Lent real machine)) → Made c list
    → (x : Call) (base : ℕ) (ram : List ℕ) (n : ℕ) (old new : Report) (ys : List ℕ) (d : Core) → Promise (Known x) base ram c n old new ys d
    → (0 < n → n < 256 → ⊥) → new.reads ≡ reads_due list (window_of base ram) x

-- so does the fifth word of a step whose first is none of 5, 6 and 7; and with those it is 0
abbrev pub step_reads_on_core : Type 0
step_reads_on_core =
    (c : Core) (list : List (Lent real machine)) → Made c list
    → (x : Call) (base : ℕ) (ram : List ℕ) (n : ℕ) (old v ys : List ℕ) (d : Core) → StepPromise (Known x) base ram c n old v ys d
    → ((4 < get_or v 0 0 → get_or v 0 0 < 8 → ⊥) → get_or v 4 0 ≡ reads_due list (window_of base ram) x)
    × (4 < get_or v 0 0 → get_or v 0 0 < 8 → get_or v 4 0 ≡ 0)
