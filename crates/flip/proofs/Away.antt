-- A walk that goes on below a level, or finds a leaf there, never ends in a translation fault of that level; nor does its answer.
use Rattle.std.specs.Prelude.{◌≡◌, ◌≢◌, Bool, not, ◌||◌, ◌&&◌, Option, Some, Ok, Err}
use Rattle.std.proofs.Common.{refl, arith}
use Rattle.std.proofs.Math.Bool.{true, false}
use Prim.Native.Nat.{ℕ, zero, suc, ◌+◌, ◌-◌, ◌<◌, ◌≤◌}
use borrow.Author.Tests.{ne_eqb}
use Rattle.fault.specs.First.{first}
use Rattle.sysreg.specs.declared.regs.Regime.{Regime}
use Rattle.walk.specs.Walk.{walked_of}
use Rattle.walk.specs.Descriptor.{valid, table_or_page}
use Rattle.walk.specs.Table.{status_of, Result, mapped, faults, firstblocklevel, Lookup, Next, deeper, ends, descaddr, table_next, leaf_result}
use Rattle.walk.specs.Table.{level_next, lookup_next, walk_from, table_walk}
use Rattle.walk.specs.Order.{NoLeafAt, params_at, Reached}
use Rattle.walk.specs.declared.{regime.Bank.Bank, level.Params.Params}
use Rattle.walk.proofs.Order.{stage}
use Rattle.tlb.specs.Translate.{walk_answer}
use Rattle.tlb.specs.Answers.{Answer}
use Rattle.flip.specs.Question.{same_answer}
use Rattle.flip.specs.FirstDescriptor.{has_blocks}

-- AWAY FROM a status: what is no fault of that status
abbrev pub AwayFrom : ℕ → Result → Type 0
AwayFrom n (mapped t) = Unit {0}
AwayFrom n (faults f) = status_of f ≢ n

-- a step from a level that leads one level down, or ends so
abbrev pub AwayNext : ℕ → ℕ → Next → Type 0
AwayNext n level (deeper k) = (k.level ≡ level + 1) × (k.level ≤ 3)
AwayNext n level (ends x) = AwayFrom n x

-- may lead to more than a translation fault of its level
abbrev pub leads : Params → Lookup → ℕ → Bool
leads p l desc = table_or_page desc || has_blocks p.largegrain l.level

module _ (p : Params) (va top : ℕ) (high : top ≤ 3) where
  leaf-away : (l : Lookup) (desc : ℕ) → top ≤ l.level → l.level ≤ 3 → firstblocklevel p.largegrain ≤ l.level
      → AwayFrom (4 + top) (leaf_result p va l desc)
  unfolding leaf_result
  leaf-away l desc a b c = grind arith

  leaf-below : (l : Lookup) (desc : ℕ) → top < l.level → l.level ≤ 3 → AwayFrom (4 + top) (leaf_result p va l desc)
  unfolding leaf_result
  leaf-below l desc a b = grind arith

  table-away : (l : Lookup) (desc : ℕ) → l.level < 3 → AwayNext (4 + top) l.level (table_next p l desc)
  unfolding table_next
  table-away l desc h = grind arith

  -- below the level, whatever is read
  lookup-away : (memory : ℕ → Option ℕ) (l : Lookup) → l.level ≤ 3 → top < l.level → AwayNext (4 + top) l.level (lookup_next memory p va l)
  unfolding lookup_next level_next
  lookup-away memory l h b = grind (arith, leaf-below, table-away)

  pub from-away : (n : ℕ) (memory : ℕ → Option ℕ) (l : Lookup) → l.level ≤ 3 → top < l.level → AwayFrom (4 + top) (walk_from n memory p va l)
  unfolding walk_from
  from-away zero memory l h b = λ e. omega arith
  from-away (suc n) memory l h b = grind (arith, lookup-away, from-away n)

  -- at the level, a table, a page, or a block where one may stand
  pub here-away : (l : Lookup) (desc : ℕ) → l.level ≡ top → valid desc ≡ true → leads p l desc ≡ true → AwayNext (4 + top) l.level (level_next p va l desc)
  unfolding level_next
  here-away l desc e v t = grind (arith, leaf-away, table-away)

-- a walk whose first descriptor leads so does not end in a translation fault of its level
module _ (s : Bank) (r : Regime) (va : ℕ) (memory : ℕ → Option ℕ) (l : Lookup) (reached : Reached s r va memory l) (desc : ℕ)
    (word : memory (descaddr (params_at s r va) va l) ≡ Some desc) where
  pub walk-away : valid desc ≡ true → leads (params_at s r va) l desc ≡ true → AwayFrom (4 + l.level) (table_walk s r va memory)
  unfolding lookup_next walk_from
  walk-away v t =
      let p = params_at s r va in
      let st = stage s r va memory reached in
      let n : 4 - l.level ≡ suc (3 - l.level) = omega (arith, st.level) in
      let e : lookup_next memory p va l ≡ level_next p va l desc = rw word refl in
      rw (st.walk, n, walk_from, e) (grind (arith, here-away p va l.level st.level l desc refl v t, from-away p va l.level st.level (3 - l.level) memory))

pub no-leaf : (p : Params) (l : Lookup) (desc : ℕ) → l.level ≤ 3 → leads p l desc ≡ false → NoLeafAt p l desc
no-leaf p l desc h t = grind arith

-- THE ANSWER

-- an answer that is no fault of a status
abbrev pub Away : ℕ → Answer → Type 0
Away n (Ok a) = Unit {0}
Away n (Err f) = f.fsc ≢ n

-- whether it is away from the status, or the fault of that status
abbrev pub Ends : ℕ → Bool → Answer → Type 0
Ends n true x = Away n x
Ends n false x = x ≡ Err (first n)

-- two answers, of which one at most is away, differ where one is
pub differ : (n : ℕ) (a b : Bool) (x y : Answer) → Ends n a x → Ends n b y → (a && b) ≡ false → not (same_answer x y) ≡ (a || b)
differ n a b x y h k z = grind (arith, ne_eqb)

pub walked-away : (singlepriv wxn : Bool) (top bit va : ℕ) (x : Result) → top ≤ 3 → AwayFrom (4 + top) x
    → Away (4 + top) (walk_answer (walked_of singlepriv wxn x) bit va)
walked-away singlepriv wxn top bit va (mapped t) h a = grind arith
walked-away singlepriv wxn top bit va (faults f) h a = a
