-- Faithfulness of every list of calls. A core after reset that calls then changed, each as its contract promises, is the core after
-- the list, so that each further call is faithful.
use Rattle.std.specs.Prelude.{◌≡◌, refl, true, List, [], ◌∷◌, ◌++◌, ℕ}
use Rattle.std.proofs.Common.{sym, ap, ◌∙◌}
use Rattle.cpu.specs.Core.{fresh_core}
use Rattle.cpu.specs.declared.Core.{Core}
use Rattle.cpu.specs.Step.{step_of, looks}
use Rattle.cpu.proofs.EveryCallEnds.{looking-core}
use Rattle.cpu.specs.declared.call.Call.{Call}
use Rattle.cpu.specs.declared.call.Call.TheVariants.{Census}
use Rattle.history.specs.Calls.{Lent, run}
use Rattle.history.specs.Instance.{window_of, real}
use Rattle.transparency.specs.Machine.{machine}
use Rattle.transparency.specs.Replies.{bare_reply}
use Rattle.transparency.specs.Beside.{core_after, bare_after}
use Rattle.transparency.specs.Census.{bare_counts}
use Rattle.call_words.specs.Replies.{code_by}
use Rattle.call_words.specs.declared.reply.Report.{Report}
use Rattle.core_calls.specs.Named.{call_core}
use Rattle.core_calls.specs.Promise.{FaithfulNumber, FaithfulWords, Promise, Setting, StepPromise, CensusPromise, WindowsPromise, FlipPromise}
use Rattle.core_calls.specs.Windows.{found_number, found_words, bare_windows}
use Rattle.core_calls.specs.Flip.{flip_number, flip_words, bare_flip}
use Rattle.call_words.specs.declared.op.DecodedCall.{DecodedCall}
use Rattle.call_words.specs.declared.op.DecodedCall.TheVariants.{Known, Unknown}

-- a call with the RAM that stands when it begins
abbrev pub lent_of : ℕ → List ℕ → Call → Lent real machine
lent_of base ram x = record { ram = window_of base ram; call = x }

-- what a call adds to the list; words that name none add nothing
abbrev pub added : DecodedCall → ℕ → List ℕ → List (Lent real machine)
added (Known x) base ram = lent_of base ram x ∷ []
added Unknown base ram = []

-- the core after a list of calls; one that only looks is lent it shared
pub data Made : Core → List (Lent real machine) → Type 0 where
  fresh : (c : Core) → c ≡ fresh_core → Made c []
  called : (call : DecodedCall) (base : ℕ) (ram : List ℕ) (c : Core) (n : ℕ) (old new : Report) (ys : List ℕ) (d : Core) (list : List (Lent real machine))
      → Made c list → Promise call base ram c n old new ys d → Made d (list ++ added call base ram)
  set : (call : DecodedCall) (base : ℕ) (ram : List ℕ) (c : Core) (n : ℕ) (d : Core) (list : List (Lent real machine))
      → Made c list → Setting call c n d → Made d (list ++ added call base ram)
  stepped : (call : DecodedCall) (base : ℕ) (ram : List ℕ) (c : Core) (n : ℕ) (old v ys : List ℕ) (d : Core) (list : List (Lent real machine))
      → Made c list → StepPromise call base ram c n old v ys d → Made d (list ++ added call base ram)
  looked : (x : Call) (base : ℕ) (ram : List ℕ) (c : Core) (list : List (Lent real machine))
      → Made c list → looks x ≡ true → Made c (list ++ added (Known x) base ram)

run-append : (c : Core) (l k : List (Lent real machine))
    → run real machine c (l ++ k) ≡ run real machine (run real machine c l) k
run-append c [] k = refl
run-append c (x ∷ l) k = run-append (step_of c x.ram.base x.ram.bytes x.call).core l k

run-added : (call : DecodedCall) (c : Core) (base : ℕ) (ram : List ℕ)
    → call_core call c base ram ≡ run real machine c (added call base ram)
run-added (Known x) c base ram = refl
run-added Unknown c base ram = refl

-- one call more
grown : (call : DecodedCall) (base : ℕ) (ram : List ℕ) (c d : Core) (list : List (Lent real machine))
    → c ≡ core_after list → d ≡ call_core call c base ram
    → d ≡ core_after (list ++ added call base ram)
grown call base ram c d list e m =
    m ∙ ap (λ (k : Core). call_core call k base ram) e ∙ run-added call (core_after list) base ram
    ∙ (rw (run-append fresh_core list (added call base ram)) refl)

abbrev pub made_is_core : Type 0
made_is_core = (c : Core) (list : List (Lent real machine)) → Made c list → c ≡ core_after list

pub made-core : made_is_core
made-core _ _ (fresh c e) = e
made-core _ _ (called call base ram c n old new ys d list m p) = grown call base ram c d list (made-core c list m) p.core
made-core _ _ (set call base ram c n d list m p) = grown call base ram c d list (made-core c list m) (p.on base ram 0).core
made-core _ _ (stepped call base ram c n old v ys d list m p) = grown call base ram c d list (made-core c list m) p.core
made-core _ _ (looked x base ram c list m h) = grown (Known x) base ram c c list (made-core c list m) (sym (looking-core c base ram x h))

-- THE THEOREM: on such a core each call that its contract promises is faithful.

abbrev pub faithful_on_core : Type 0
faithful_on_core =
    (c : Core) (list : List (Lent real machine)) → Made c list
    → (x : Call) (base : ℕ) (ram : List ℕ) (n : ℕ) (old new : Report) (ys : List ℕ) (d : Core) → Promise (Known x) base ram c n old new ys d
    → FaithfulNumber list (window_of base ram) x n old.value new.value ys

pub faithful-on-core : faithful_on_core
faithful-on-core c list m x base ram n old new ys d p = p.faithful list (made-core c list m)

-- so does a step, by the words of its call
abbrev pub faithful_step_on_core : Type 0
faithful_step_on_core =
    (c : Core) (list : List (Lent real machine)) → Made c list
    → (x : Call) (base : ℕ) (ram : List ℕ) (n : ℕ) (old v ys : List ℕ) (d : Core)
    → StepPromise (Known x) base ram c n old v ys d
    → FaithfulWords list (window_of base ram) x v ys

pub faithful-step-on-core : faithful_step_on_core
faithful-step-on-core c list m x base ram n old v ys d p = p.faithful list (made-core c list m)

-- and a census counts, and answers, as the core without a cache does
abbrev pub counts_on_core : Type 0
counts_on_core =
    (c : Core) (list : List (Lent real machine)) → Made c list
    → (first pages base : ℕ) (ram : List ℕ) (n : ℕ) (old counts : List ℕ)
    → CensusPromise first pages base ram c n old counts
    → (counts ≡ bare_counts (bare_after list) (window_of base ram) first pages old)
    × (n ≡ code_by (bare_reply (bare_after list) (window_of base ram) (Census first pages)).reply)

pub census-on-core : counts_on_core
census-on-core c list m first pages base ram n old counts p = p.faithful list (made-core c list m)

-- and windows are found, and told, as on the core without a cache
abbrev pub windows_on_core : Type 0
windows_on_core =
    (c : Core) (list : List (Lent real machine)) → Made c list
    → (bytes : List ℕ) (base : ℕ) (ram : List ℕ) (n : ℕ) (old words : List ℕ)
    → WindowsPromise bytes base ram c n old words
    → (n ≡ found_number (bare_windows (bare_after list) (window_of base ram) bytes))
    × (words ≡ found_words (bare_windows (bare_after list) (window_of base ram) bytes) old)

pub windows-on-core : windows_on_core
windows-on-core c list m bytes base ram n old words p = p.faithful list (made-core c list m)

-- and a flip is found, and told, as on the core without a cache, and leaves RAM as it was
abbrev pub flip_on_core : Type 0
flip_on_core =
    (c : Core) (list : List (Lent real machine)) → Made c list
    → (va kind user base : ℕ) (ram : List ℕ) (n : ℕ) (old words ys : List ℕ)
    → FlipPromise va kind user base ram c n old words ys
    → (n ≡ flip_number (bare_flip (bare_after list) (window_of base ram) va kind user))
    × ((words ≡ flip_words (bare_flip (bare_after list) (window_of base ram) va kind user) old) × (ys ≡ ram))

pub flip-on-core : flip_on_core
flip-on-core c list m va kind user base ram n old words ys p =
    let told = p.faithful list (made-core c list m) in
    (told.0, (told.1, p.bytes))
