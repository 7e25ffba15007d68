-- A run of calls from the core after reset: what `run` promises.
use Rattle.std.specs.Prelude.{◌≡◌, List, [], ◌∷◌, ◌++◌, ℕ, zero, suc, ◌+◌, ◌*◌, ◌≤◌, get_or}
use Rattle.std.proofs.Math.Path.{refl}
use Rattle.std.proofs.Common.{add-one, arith}
use Rattle.cpu.specs.Core.{fresh_core}
use Rattle.cpu.specs.declared.Core.{Core}
use Rattle.history.specs.Calls.{Lent}
use Rattle.history.specs.Instance.{window_of, real}
use Rattle.transparency.specs.Machine.{machine}
use Rattle.call_words.specs.Ops.{call_of}
use Rattle.core_calls.specs.Named.{call_code, call_core, call_ram}
use Rattle.core_calls.specs.Promise.{FaithfulWords, StepPromise}
use Rattle.call_words.specs.declared.op.DecodedCall.{DecodedCall}
use Rattle.call_words.specs.declared.op.DecodedCall.TheVariants.{Known, Unknown}
use Rattle.core_transparency.specs.OnCore.{added, Made, fresh, stepped, faithful-step-on-core}

-- the k-th call of words, eight to a call
abbrev pub eight : List ℕ → ℕ → List ℕ
eight l i =
    get_or l i 0 ∷ get_or l (i + 1) 0 ∷ get_or l (i + 2) 0 ∷ get_or l (i + 3) 0 ∷ get_or l (i + 4) 0 ∷ get_or l (i + 5) 0
    ∷ get_or l (i + 6) 0 ∷ get_or l (i + 7) 0 ∷ []

abbrev pub call_at : List ℕ → ℕ → DecodedCall
call_at ops k = call_of (eight ops (k * 8))

-- the core, RAM's bytes and the list after some calls
pub record Reached : Type 0 where
  pub core : Core
  pub bytes : List ℕ
  pub list : List (Lent real machine)

abbrev pub one_more : DecodedCall → ℕ → Reached → Reached
one_more call base a =
    record {
      core = call_core call a.core base a.bytes;
      bytes = call_ram call a.core base a.bytes;
      list = a.list ++ added call base a.bytes;
    }

-- the first n calls from reset, on RAM as each leaves it
unfoldable pub reached : ℕ → List ℕ → ℕ → List ℕ → Reached
reached zero ops base ram = record { core = fresh_core; bytes = ram; list = [] }
reached (suc k) ops base ram = one_more (call_at ops k) base (reached k ops base ram)

-- the core d and the bytes ys are those reached
pub record On (a : Reached) (ys : List ℕ) (d : Core) : Type 0 where
  pub made : Made d a.list
  pub core_is : d ≡ a.core
  pub bytes_are : ys ≡ a.bytes

-- faithfulness of a last call, on what was reached: no more is asked of the core
abbrev pub FaithfulLast : DecodedCall → Reached → ℕ → List ℕ → List ℕ → Type 0
FaithfulLast (Known x) a base v ys = FaithfulWords a.list (window_of base a.bytes) x v ys
FaithfulLast Unknown a base v ys = Unit {0}

pub record RunPromise (call : DecodedCall) (a : Reached) (base n : ℕ) (v ys : List ℕ) (d : Core) : Type 0 where
  pub code : n ≡ call_code call
  pub on : On (one_more call base a) ys d
  pub faithful : FaithfulLast call a base v ys

-- one call more, as a step promises
pub on-more : (call : DecodedCall) (base : ℕ) (a : Reached) (ram : List ℕ) (c : Core) (n : ℕ) (old v ys : List ℕ) (d : Core)
    → On a ram c → StepPromise call base ram c n old v ys d → On (one_more call base a) ys d
on-more call base a ram c n old v ys d o p =
    record {
      made = rw o.bytes_are at (stepped call base ram c n old v ys d a.list o.made p);
      core_is = rw (o.core_is, o.bytes_are) at p.core;
      bytes_are = rw (o.core_is, o.bytes_are) at p.bytes;
    }

pub last-call : (call : DecodedCall) (base : ℕ) (a : Reached) (ram : List ℕ) (c : Core) (n : ℕ) (old v ys : List ℕ) (d : Core)
    → On a ram c → StepPromise call base ram c n old v ys d → RunPromise call a base n v ys d
last-call (Known x) base a ram c n old v ys d o p =
    record {
      code = p.code;
      on = on-more (Known x) base a ram c n old v ys d o p;
      faithful = rw o.bytes_are at (faithful-step-on-core c a.list o.made x base ram n old v ys d p);
    }
last-call Unknown base a ram c n old v ys d o p =
    record { code = p.code; on = on-more Unknown base a ram c n old v ys d o p; faithful = tt }

-- THE RUN, CALL BY CALL

module _ (ops : List ℕ) (base : ℕ) (ram : List ℕ) where
  pub on-fresh : (c : Core) → c ≡ fresh_core → On (reached 0 ops base ram) ram c
  unfolding reached
  on-fresh c e = record { made = fresh c e; core_is = e; bytes_are = refl }

  pub on-next : (k : ℕ) (bs : List ℕ) (c : Core) (n : ℕ) (op old v ys : List ℕ) (d : Core) → On (reached k ops base ram) bs c
      → op ≡ eight ops (k * 8) → StepPromise (call_of op) base bs c n old v ys d → On (reached (k + 1) ops base ram) ys d
  unfolding reached
  on-next k bs c n op old v ys d o e p =
      rw (add-one k) (on-more (call_at ops k) base (reached k ops base ram) bs c n old v ys d o (rw e at p))

  pub on-last : (k m : ℕ) (bs : List ℕ) (c : Core) (call : DecodedCall) (n : ℕ) (old v ys : List ℕ) (d : Core) → On (reached k ops base ram) bs c
      → StepPromise call base bs c n old v ys d → (q : ℕ) → q ≡ m → k ≤ q → q ≤ k → RunPromise call (reached m ops base ram) base n v ys d
  on-last k m bs c call n old v ys d o p q e l h =
      let s : k ≡ m = omega arith in last-call call base (reached m ops base ram) bs c n old v ys d (rw s at o) p
