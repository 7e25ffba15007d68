-- Faithfulness as a promise of one call: what the second clause of its contract says.
use Rattle.std.proofs.Common.{arith, sym, subst}
use Rattle.std.specs.Prelude.{◌≡◌, refl}
use mathlib.Core.List.{List}
use Rattle.cpu.specs.Bare.{fresh_bare}
use Rattle.cpu.specs.Core.{fresh_core}
use Rattle.cpu.specs.declared.call.Call.{Call}
use Rattle.history.specs.Calls.{Lent}
use Rattle.history.specs.Faithful.{EveryReplyFaithful}
use Rattle.history.proofs.Faithful.{list-shown, every-reply-faithful}
use Rattle.history.specs.Instance.{Ram, window_of, real}
use Rattle.history.proofs.Instance.{real-laws, fresh-asid}
use Rattle.transparency.specs.Starts.{later_in}
use Rattle.transparency.specs.Machine.{machine}
use Rattle.transparency.specs.Instance.{replies}
use Rattle.transparency.specs.Replies.{outcome, outcome_of}
use Rattle.transparency.specs.Says.{says_in}
use Rattle.transparency.proofs.Alone.{alone-same}
use Rattle.transparency.proofs.Answered.{reply-is}
use Rattle.transparency.proofs.Bridge.{bridge}
use Rattle.transparency.specs.Beside.{core_after, bare_after}
use Rattle.transparency.specs.Faithful.{answers_after, Faithful, FaithfulCall}
use Rattle.transparency.specs.Faithful as Statement

pub every-outcome : EveryReplyFaithful real machine fresh_core fresh_bare replies says_in
unfolding fresh_core
every-outcome = every-reply-faithful real machine bridge real-laws fresh_core refl fresh-asid (omega arith) replies says_in alone-same reply-is

pub said : (list : List (Lent real machine)) (m : Ram) (x : Call)
    → outcome_of (core_after list) m x ≡ says_in (bare_after list) m (later_in (core_after list) m x) x (answers_after list m x)
said list m x = (every-outcome list m x).answered

pub faithful-step : Statement.faithful_step
unfolding FaithfulCall
faithful-step c base bytes x r after er ea list ec =
    let m : Ram = window_of base bytes in
    let made : outcome r.reply after ≡ outcome_of (core_after list) m x = rw (er, ea, ec) in
    subst (Faithful list m x) (sym made) (every-outcome list m x)

pub every-list-shown : Statement.every_list_shown
every-list-shown = list-shown real machine fresh_core
