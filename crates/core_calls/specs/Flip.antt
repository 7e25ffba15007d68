-- What a flip gives: a number and three words; and what the core without a cache would find.
use Rattle.std.specs.Prelude.{◌≡◌, ℕ, Bool, true, false, List, [], ◌∷◌, Option, Some, None, Result, Ok, Err}
use Rattle.sysreg.specs.Regs.{regime_of}
use Rattle.sysreg.specs.declared.regs.Regime.{Regime}
use Rattle.sysreg.specs.declared.regs.Regime.TheVariants.{El1, El2, El3}
use Rattle.tlb.specs.declared.{access.Kind.Kind, access.NoSuchKind.NoSuchKind}
use Rattle.cpu.specs.Bare.{Bare, with_privilege}
use Rattle.cpu.specs.Check.{number_missed}
use Rattle.cpu.specs.declared.Core.{Core}
use Rattle.cpu.specs.declared.check.Check.{Check}
use Rattle.cpu.specs.declared.call.Call.TheVariants as Call
use Rattle.flip.specs.Flip.{flip_of}
use Rattle.flip.specs.Question.{question_of, answer_on}
use Rattle.flip.specs.declared.FlippedBit.{FlippedBit}
use Rattle.history.specs.World.{uncached}
use Rattle.history.specs.Calls.{Lent}
use Rattle.history.specs.Instance.{Ram, real}
use Rattle.call_words.specs.Ops.{kind_of, view_at, flip_call}
use Rattle.call_words.specs.declared.op.DecodedCall.TheVariants.{Known}
use Rattle.transparency.specs.Events.{plain_in}
use Rattle.transparency.specs.Machine.{machine}
use Rattle.transparency.specs.Beside.{core_after, bare_after}
use Rattle.core_calls.specs.Named.{call_number}

abbrev pub Flipped : Type 0
Flipped = Result (Option FlippedBit) Check

-- what is asked by the words of a kind and of a view, 0 privileged or 1 EL0's; nothing where one of them names nothing
abbrev pub asked_by : Result Kind NoSuchKind → Option Bool → (Kind → Bool → Flipped) → Option Flipped
asked_by (Ok kind) (Some user) find = Some (find kind user)
asked_by (Ok kind) None find = None
asked_by (Err e) view find = None

-- 0, or the number of the check; 64 where nothing is asked
abbrev pub flip_number : Option Flipped → ℕ
flip_number (Some found) = number_missed found
flip_number None = 64

-- 1, the descriptor's address and the number of its bit; zeros where no bit of RAM changes the answer; else the words stay
abbrev pub flip_words : Option Flipped → List ℕ → List ℕ
flip_words (Some (Ok (Some f))) old = 1 ∷ f.pa ∷ f.bit ∷ []
flip_words (Some (Ok None)) old = 0 ∷ 0 ∷ 0 ∷ []
flip_words (Some (Err check)) old = old
flip_words None old = old

-- of a core, and of the core without a cache
abbrev pub flip_in : Core → ℕ → List ℕ → ℕ → ℕ → ℕ → Option Flipped
flip_in c base ram va kind user = asked_by (kind_of kind) (view_at user) (flip_of c.control c.privilege.level base ram va)

abbrev pub bare_flip : Bare → Ram → ℕ → ℕ → ℕ → Option Flipped
bare_flip b m va kind user = asked_by (kind_of kind) (view_at user) (flip_of b.control b.privilege.level m.base m.bytes va)

-- after every list of calls both find the same
abbrev pub flip_after : Type 0
flip_after =
    (list : List (Lent real machine)) (m : Ram) (va kind user : ℕ)
    → flip_in (core_after list) m.base m.bytes va kind user ≡ bare_flip (bare_after list) m va kind user

-- words that name a flip find what that call's kind, view and address do
abbrev pub flip_by_words : Type 0
flip_by_words =
    (c : Core) (base : ℕ) (ram : List ℕ) (va kind user : ℕ) (k : Kind) (view : Bool)
    → flip_call (kind_of kind) (view_at user) va ≡ Known (Call.Flip k view va)
    → flip_in c base ram va kind user ≡ Some (flip_of c.control c.privilege.level base ram va k view)

-- the level whose own translations are in a regime, in one of its views: of the first regime EL0's is level 0's, and the regime's own level 1's
abbrev pub level_of_view : Regime → Bool → ℕ
level_of_view El1 true = 0
level_of_view El1 false = 1
level_of_view El2 user = 2
level_of_view El3 user = 3

-- the answer that a bit may change is that of the core without a cache, unmarked and at such a level, to a translation of the kind
abbrev pub answers_as_translated : Type 0
answers_as_translated =
    (b : Bare) (m : Ram) (va : ℕ) (kind : Kind) (user : Bool)
    → answer_on (question_of b.control b.privilege.level va kind user) m.base m.bytes
    ≡ uncached real (plain_in (with_privilege b (level_of_view (regime_of b.privilege.level) user) false)) m kind va

-- in a list of calls it is a step, done or with the number of the check; and words that name none are no call's
abbrev pub flip_is_a_step : Type 0
flip_is_a_step =
    (c : Core) (base : ℕ) (ram : List ℕ) (va kind user : ℕ)
    → call_number (flip_call (kind_of kind) (view_at user) va) c base ram ≡ flip_number (flip_in c base ram va kind user)
