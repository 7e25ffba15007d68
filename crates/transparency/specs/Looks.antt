-- Calls that only look, a census, windows and a flip, after every list of calls: each replies what the core without a
-- cache would, and is a step that does nothing. What a census finds is said in Census.antt, what windows and a flip find
-- where they are called.
use Rattle.std.specs.Prelude.{◌≡◌, ℕ, Bool, true, List, ◌∷◌, ◌++◌}
use Rattle.tlb.specs.declared.access.Kind.{Kind}
use Rattle.cpu.specs.Step.{looks, step_of}
use Rattle.cpu.specs.declared.call.Call.{Call}
use Rattle.cpu.specs.declared.call.Call.TheVariants.{Census, Windows, Flip}
use Rattle.history.specs.Calls.{Lent}
use Rattle.history.specs.Instance.{Ram, real}
use Rattle.transparency.specs.Replies.{bare_reply}
use Rattle.transparency.specs.Machine.{machine}
use Rattle.transparency.specs.Beside.{core_after, bare_after}

-- which they are
abbrev pub looking_calls : Type 0
looking_calls =
    (first pages va : ℕ) (kind : Kind) (user : Bool)
    → (looks (Census first pages) ≡ true) × ((looks Windows ≡ true) × (looks (Flip kind user va) ≡ true))

-- after every list, refused or not
abbrev pub look_reply : Type 0
look_reply =
    (list : List (Lent real machine)) (m : Ram) (x : Call) → looks x ≡ true
    → (step_of (core_after list) m.base m.bytes x).reply ≡ (bare_reply (bare_after list) m x).reply

-- A list with such a call in it leaves what it leaves without, whatever RAM the call was shown.
abbrev pub look_skipped : Type 0
look_skipped =
    (before after : List (Lent real machine)) (m : Ram) (x : Call) → looks x ≡ true
    → (core_after (before ++ (record { ram = m; call = x } ∷ after)) ≡ core_after (before ++ after))
    × (bare_after (before ++ (record { ram = m; call = x } ∷ after)) ≡ bare_after (before ++ after))
