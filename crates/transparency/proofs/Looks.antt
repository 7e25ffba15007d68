-- Calls that only look, a census, windows and a flip, after every list of calls.
use Rattle.std.specs.Prelude.{◌≡◌, true, List, [], ◌∷◌, ◌++◌}
use Rattle.std.proofs.Common.{ap, arith}
use Rattle.cpu.specs.Bare.{Bare, fresh_bare, bare_of}
use Rattle.cpu.specs.Core.{fresh_core}
use Rattle.cpu.specs.Step.{looks, run_of, step_of}
use Rattle.cpu.specs.declared.Core.{Core}
use Rattle.cpu.specs.declared.call.Call.{Call}
use Rattle.cpu.proofs.EveryCallEnds.{looking-core}
use Rattle.history.specs.Calls.{Lent, run, bare_run}
use Rattle.history.specs.Instance.{Ram, real}
use Rattle.transparency.specs.Bare.{bare_step}
use Rattle.transparency.specs.Replies.{bare_reply}
use Rattle.transparency.specs.Machine.{machine}
use Rattle.transparency.proofs.Beside.{two-cores}
use Rattle.transparency.specs.Looks.{looking_calls, look_reply, look_skipped}

pub looking-calls : looking_calls
looking-calls first pages va kind user = grind arith

-- after every list, refused or not
pub reply-bare : (c : Core) (m : Ram) (x : Call) → looks x ≡ true
    → (step_of c m.base m.bytes x).reply ≡ (bare_reply (bare_of c) m x).reply
unfolding step_of run_of
reply-bare c m x h = grind arith

pub look-reply : look_reply
look-reply list m x h = grind (arith, reply-bare, two-cores)

-- A list with such a call in it leaves what it leaves without.
bare-stays : (b : Bare) (m : Ram) (x : Call) → looks x ≡ true → bare_step b m x ≡ b
bare-stays b m x h = grind arith

module _ (after : List (Lent real machine)) (m : Ram) (x : Call) (h : looks x ≡ true) where
  core-skips : (c : Core) (before : List (Lent real machine))
      → run real machine c (before ++ (record { ram = m; call = x } ∷ after)) ≡ run real machine c (before ++ after)
  core-skips c [] = ap (λ (d : Core). run real machine d after) (looking-core c m.base m.bytes x h)
  core-skips c (s ∷ before) = core-skips (step_of c s.ram.base s.ram.bytes s.call).core before

  bare-skips : (b : Bare) (before : List (Lent real machine))
      → bare_run real machine b (before ++ (record { ram = m; call = x } ∷ after)) ≡ bare_run real machine b (before ++ after)
  bare-skips b [] = ap (λ (d : Bare). bare_run real machine d after) (bare-stays b m x h)
  bare-skips b (s ∷ before) = bare-skips (bare_step b s.ram s.call) before

pub look-skipped : look_skipped
look-skipped before after m x h = (core-skips after m x h fresh_core before, bare-skips after m x h fresh_bare before)
