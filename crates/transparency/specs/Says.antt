-- What a call of the core replies, and RAM after it, made from the answers to its translations, through which alone the
-- cache reaches a reply (`reply-is`, in proofs/Answered.antt): faithfulness of them is faithfulness of what a caller sees.
use Rattle.std.specs.Prelude.{◌≡◌, List, None, [], ◌∷◌, ℕ, ◌+◌}
use Rattle.word.specs.Bits.{align_down, wrap}
use Rattle.word.specs.Ram.{width_of}
use Rattle.tlb.specs.Asks.{Given}
use Rattle.system.specs.declared.decode.SysOp.{SysOp}
use Rattle.system.specs.declared.decode.SysOp.TheVariants as Op
use Rattle.cpu.specs.Bare.{Bare, bare_of}
use Rattle.cpu.specs.declared.Core.{Core}
use Rattle.cpu.specs.Asks.{first_of}
use Rattle.cpu.specs.Bytes.{fetch_end, reached_by}
use Rattle.cpu.specs.Check.{translation, fetching, reaching}
use Rattle.cpu.specs.declared.{call.Call.Call}
use Rattle.cpu.specs.declared.call.Call.TheVariants.{Translate, DataPa, FetchPa, Load, Store, Fetch, System}
use Rattle.cpu.specs.declared.call.Reply.TheVariants.{Done}
use Rattle.history.specs.Instance.{Ram}
use Rattle.transparency.specs.Bare.{op_in, operand_in, ruling_in, refusal_of, if_allowed}
use Rattle.transparency.specs.Steps.{Step, zeroed}
use Rattle.transparency.specs.Claim.{answers_of}
use Rattle.transparency.specs.Replies.{outcome_of, Outcome, outcome, store_says, load_by_size, store_by_size}

abbrev pub fetch_says : Ram → ℕ → List Given → Outcome
fetch_says m va gs = outcome (fetching (fetch_end (first_of gs) 0 m.base m.bytes va).answer) m.bytes

-- A zeroing replies as the last store begun, and RAM is as that one leaves it; each store has one answer, so that the
-- case without one is none.
abbrev pub zero_says : Ram → List Ram → ℕ → List Given → Outcome
zero_says m [] va gs = store_says m va 8 0 gs
zero_says m (n ∷ ms) va [] = outcome Done m.bytes
zero_says m (n ∷ ms) va (g ∷ gs) = zero_says n ms (wrap (va + 8)) gs

abbrev pub sys_says : SysOp → Ram → List Ram → ℕ → List Given → Outcome
sys_says Op.Zva m ms x gs = zero_says m ms (align_down x 6) gs
sys_says _ m ms x gs = outcome Done m.bytes

-- a call that is not refused
abbrev pub call_says : Bare → Ram → List Ram → Call → List Given → Outcome
call_says b m ms (Translate kind va) gs = outcome (translation va (first_of gs)) m.bytes
call_says b m ms (DataPa va) gs = outcome (reaching (reached_by (first_of gs))) m.bytes
call_says b m ms (FetchPa va) gs = outcome (reaching (reached_by (first_of gs))) m.bytes
call_says b m ms (Load va size) gs = load_by_size (width_of size) m va gs
call_says b m ms (Store va size value) gs = store_by_size (width_of size) m va value gs
call_says b m ms (Fetch va) gs = fetch_says m va gs
call_says b m ms (System e) gs = sys_says (op_in b e) m ms (operand_in b e) gs
call_says b m ms _ gs = outcome Done m.bytes

-- A call that the table refuses gets that refusal.
abbrev pub says_in : Bare → Ram → List Ram → Call → List Given → Outcome
says_in b m ms x gs = if_allowed (ruling_in b m x) (call_says b m ms x gs) (outcome (refusal_of (ruling_in b m x)) m.bytes)

-- The core's reply to a step, and RAM after it, are made from its answers.
abbrev pub answered_step : Type 0
answered_step =
    (c : Core) (s : Step) → zeroed (bare_of c) s.ram s.call ≡ None
    → outcome_of c s.ram s.call ≡ says_in (bare_of c) s.ram [] s.call (answers_of c s)
