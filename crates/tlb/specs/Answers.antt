-- The code's answer, and what an operation leaves with it.
use Rattle.std.specs.Prelude.{ℕ, Result}
use Rattle.fault.specs.declared.Fault.{Fault}

-- the address that an access goes to, or its fault
abbrev pub Answer : Type 0
Answer = Result ℕ Fault

-- an answer, and the cache or the plain model after it
pub record Outcome (S : Type 0) : Type 0 where
  pub answer : Answer
  pub after : S
