-- What a walk reads and answers at each level, by the numbers of the levels.
use Rattle.std.proofs.Common.{arith}
use Rattle.std.specs.Prelude.{◌≡◌, Bool, not, ◌&&◌, ◌||◌, ℕ, zero, suc, Option, Ok, Err}
use Rattle.sysreg.specs.Regs.{single_priv}
use Rattle.walk.specs.Descriptor.{not_global}
use Rattle.walk.specs.Table.{Result, mapped, faults, addrselectbottom, outputaddress, Lookup, Next, deeper, ends, range_of, params_of}
use Rattle.walk.specs.Table.{table_next, leaf_translation, leaf_result, level_next, lookup_next, walk_from, walk_range, table_walk}
use Rattle.walk.specs.Walk.{walk_of}
use Rattle.walk.specs.Answers.{Walked}
use Rattle.walk.specs.declared.{regime.Bank.Bank, level.Params.Params}
use Rattle.sysreg.specs.declared.regs.Regime.{Regime}

-- WHAT A WALK ANSWERS

-- where a leaf maps to, and whether it is of one ASID
abbrev Placed : Bool → Bool → ℕ → Result → Type 0
Placed large single va (mapped t) =
    (t.address ≡ outputaddress (addrselectbottom large t.level) va t.descriptor) × (t.not_global ≡ (not single && not_global t.descriptor))
Placed large single va (faults f) = Unit {0}

abbrev PlacedNext : Bool → Bool → ℕ → Next → Type 0
PlacedNext large single va (deeper l) = Unit {0}
PlacedNext large single va (ends r) = Placed large single va r

module _ (p : Params) (va : ℕ) where
  lookup-placed : (memory : ℕ → Option ℕ) (l : Lookup) → PlacedNext p.largegrain p.singlepriv va (lookup_next memory p va l)
  unfolding lookup_next level_next leaf_result leaf_translation table_next
  lookup-placed memory l = grind arith

  from-placed : (n : ℕ) (memory : ℕ → Option ℕ) (l : Lookup) → Placed p.largegrain p.singlepriv va (walk_from n memory p va l)
  unfolding walk_from
  from-placed zero memory l = tt
  from-placed (suc n) memory l = grind (arith, lookup-placed, from-placed n)

table-walk-placed : (s : Bank) (r : Regime) (va : ℕ) (memory : ℕ → Option ℕ)
    → Placed (range_of s r va).largegrain (single_priv r) va (table_walk s r va memory)
unfolding table_walk walk_range params_of
table-walk-placed s r va memory = grind (arith, from-placed)

-- and as the code's types hold it
abbrev PlacedWalked : Bool → Bool → ℕ → Walked → Type 0
PlacedWalked large single va (Ok leaf) =
    (leaf.oa ≡ outputaddress (addrselectbottom large leaf.level) va leaf.desc) × (leaf.global ≡ (single || not (not_global leaf.desc)))
PlacedWalked large single va (Err n) = Unit {0}

pub walk_placed : (s : Bank) (r : Regime) (va : ℕ) (memory : ℕ → Option ℕ)
    → PlacedWalked (range_of s r va).largegrain (single_priv r) va (walk_of s r va memory)
unfolding walk_of
walk_placed s r va memory = grind (arith, table-walk-placed)
