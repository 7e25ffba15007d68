-- A walk that ends at a level ends alike for all addresses of its block there: those with the same bits from the lowest that a table of the level
-- looks at.
use Rattle.std.specs.Prelude.{◌≡◌, refl, Bool, true, false, Option, None, ℕ, zero, suc, ◌+◌, ◌-◌, ◌*◌, ◌/◌, ◌%◌, ◌^◌, ◌≤◌}
use Rattle.std.proofs.Common.{sym, ap, ◌∙◌, arith}
use Rattle.std.proofs.Math.Pow.{split}
use Rattle.word.proofs.RamLaws.{same_above}
use Rattle.walk.specs.Regime.{wxn_of}
use Rattle.sysreg.specs.Regs.{single_priv}
use Rattle.walk.specs.Table.{Fault, address_size, translation, access_flag, external_abort, Result, mapped, faults, in_range, startlevel}
use Rattle.walk.specs.Table.{addrselectbottom, Lookup, Next, deeper, ends, first_lookup, range_of, params_of, table_next, leaf_translation}
use Rattle.walk.specs.Table.{leaf_result, level_next, descaddr, lookup_next, walk_from, walk_range, table_walk}
use Rattle.walk.specs.Walk.{walked_of, walk_of}
use Rattle.walk.specs.WalkBounds.{Sound}
use Rattle.walk.proofs.SizeLaws.{start-level, pa-size-low, pa-size-high}
use Rattle.walk.proofs.WalkBounds.{next_level, table-walk-sound, walk_sound}
use Rattle.walk.specs.declared.{regime.Bank.Bank, range.Range.Range, level.Params.Params}
use Rattle.sysreg.specs.declared.regs.Regime.{Regime}
use Rattle.sysreg.specs.declared.regs.Regime.TheVariants.{El1, El2, El3}
use Rattle.ranges_report.specs.Block.{level_of, Alike}
use Rattle.ranges_report.specs.Place.{Place, place_of, place_at, ahead}

-- the level of the manual's result
abbrev fault-level : Fault → ℕ
fault-level (address_size n) = n
fault-level (translation n) = n
fault-level (access_flag n) = n
fault-level (external_abort n) = n

abbrev result-level : Result → ℕ
result-level (mapped t) = t.level
result-level (faults f) = fault-level f

-- a result, so many bytes further on
abbrev further : ℕ → Result → Result
further k (mapped t) = mapped (record t { address = t.address + k })
further k (faults f) = faults f

abbrev further_next : ℕ → Next → Next
further_next k (deeper l) = deeper l
further_next k (ends r) = ends (further k r)

-- lower levels look at lower bits
bits-fall : (g : Bool) (n m : ℕ) → n ≤ m → addrselectbottom g m ≤ addrselectbottom g n
bits-fall true n m h = omega arith
bits-fall false n m h = omega arith

-- the offset in a block grows with the address
offset-grows : (va vb b : ℕ) → va ≤ vb → va / 2 ^ b ≡ vb / 2 ^ b → vb % 2 ^ b ≡ va % 2 ^ b + (vb - va)
offset-grows va vb b h e =
    let p : vb / 2 ^ b * 2 ^ b + va % 2 ^ b ≡ va = rw e at (split va b) in
    omega (arith, split vb b)

-- what ends at a table ends at its level
abbrev EndsAt : ℕ → Next → Type 0
EndsAt n (deeper k) = Unit {0}
EndsAt n (ends r) = result-level r ≡ n

module _ (p : Params) (va : ℕ) (l : Lookup) where
  leaf-ends : (desc : ℕ) → result-level (leaf_result p va l desc) ≡ l.level
  unfolding leaf_result leaf_translation
  leaf-ends desc = grind arith

  table-ends : (desc : ℕ) → EndsAt l.level (table_next p l desc)
  unfolding table_next
  table-ends desc = grind arith

  level-ends : (desc : ℕ) → EndsAt l.level (level_next p va l desc)
  unfolding level_next
  level-ends desc = grind (arith, leaf-ends, table-ends)

  lookup-ends : (memory : ℕ → Option ℕ) → EndsAt l.level (lookup_next memory p va l)
  unfolding lookup_next
  lookup-ends memory = grind (arith, level-ends)

module _ (va vb : ℕ) (up : va ≤ vb) (p : Params) where
  -- addresses of one block of a level
  abbrev Same : ℕ → Type 0
  Same n = va / 2 ^ addrselectbottom p.largegrain n ≡ vb / 2 ^ addrselectbottom p.largegrain n

  same-higher : (n m : ℕ) → n ≤ m → Same m → Same n
  same-higher n m h e = same_above va vb (bits-fall p.largegrain n m h) e

  leaf-further : (l : Lookup) (desc : ℕ) → Same l.level
      → mapped (leaf_translation p vb l desc) ≡ further (vb - va) (mapped (leaf_translation p va l desc))
  unfolding leaf_translation
  leaf-further l desc e = grind (arith, offset-grows va vb (addrselectbottom p.largegrain l.level) up e)

  result-further : (l : Lookup) (desc : ℕ) → Same l.level → leaf_result p vb l desc ≡ further (vb - va) (leaf_result p va l desc)
  unfolding leaf_result
  result-further l desc e = grind (arith, leaf-further)

  table-further : (l : Lookup) (desc : ℕ) → table_next p l desc ≡ further_next (vb - va) (table_next p l desc)
  unfolding table_next
  table-further l desc = grind arith

  level-further : (l : Lookup) (desc : ℕ) → Same l.level → level_next p vb l desc ≡ further_next (vb - va) (level_next p va l desc)
  unfolding level_next
  level-further l desc e = grind (arith, result-further, table-further)

  lookup-further : (memory : ℕ → Option ℕ) (l : Lookup) → Same l.level
      → lookup_next memory p vb l ≡ further_next (vb - va) (lookup_next memory p va l)
  unfolding lookup_next descaddr
  lookup-further memory l e = rw e (grind (arith, level-further))

  module _ (low : 32 ≤ p.outputsize) (high : p.outputsize ≤ 44) (memory : ℕ → Option ℕ) where
    -- a walk ends no higher than where it stands
    below : (n : ℕ) (l : Lookup) → l.level ≤ 3 → l.level ≤ result-level (walk_from n memory p va l)
    unfolding walk_from
    below zero l h = h
    below (suc n) l h = grind (arith, below n, next_level p low high va memory l, lookup-ends p va l memory)

    from-further : (n : ℕ) (l : Lookup) → l.level ≤ 3 → Same (result-level (walk_from n memory p va l))
        → walk_from n memory p vb l ≡ further (vb - va) (walk_from n memory p va l)
    unfolding walk_from
    from-further zero l h e = refl
    from-further (suc n) l h e =
        let s = same-higher l.level (result-level (walk_from (suc n) memory p va l)) (below (suc n) l h) e in
        rw (lookup-further memory l s) (grind (arith, from-further n, next_level p low high va memory l))

    range-further : (g : Range) → p.largegrain ≡ g.largegrain → in_range g va ≡ true → in_range g vb ≡ true
        → Same (result-level (walk_range p g va memory)) → walk_range p g vb memory ≡ further (vb - va) (walk_range p g va memory)
    unfolding walk_range
    range-further g q a b = grind (arith, from-further (4 - startlevel g) (first_lookup g) (start-level g))

-- LARGE BLOCKS: bit 55 chooses the range, and no block is larger

same-range : (s : Bank) (r : Regime) (va vb b : ℕ) → b ≤ 55 → va / 2 ^ b ≡ vb / 2 ^ b → range_of s r va ≡ range_of s r vb
unfolding range_of
same-range s El1 va vb b h e = rw (same_above va vb h e)
same-range s El2 va vb b h e = refl
same-range s El3 va vb b h e = refl

within-55 : (g : Bool) (n : ℕ) → addrselectbottom g n ≤ 55
within-55 true n = omega arith
within-55 false n = omega arith

-- the level of a walk's end is the manual's
walked-level : (singlepriv wxn : Bool) (va : ℕ) (x : Result) → Sound va x → level_of (walked_of singlepriv wxn x) ≡ result-level x
walked-level singlepriv wxn va x h = grind arith

walked-further : (singlepriv wxn : Bool) (k : ℕ) (x : Result)
    → place_of (walked_of singlepriv wxn (further k x)) ≡ ahead (place_of (walked_of singlepriv wxn x)) k
walked-further singlepriv wxn k x = grind arith

module _ (s : Bank) (r : Regime) (va vb : ℕ) (memory : ℕ → Option ℕ) where
  -- addresses of one block, of the level at which the walk of the first ends
  abbrev pub InBlock : Type 0
  InBlock =
      va / 2 ^ addrselectbottom (range_of s r va).largegrain (level_of (walk_of s r va memory))
      ≡ vb / 2 ^ addrselectbottom (range_of s r va).largegrain (level_of (walk_of s r va memory))

  table-walk-further : va ≤ vb → in_range (range_of s r va) va ≡ true → in_range (range_of s r va) vb ≡ true → InBlock
      → table_walk s r vb memory ≡ further (vb - va) (table_walk s r va memory)
  unfolding walk_of table_walk params_of
  table-walk-further up a b e =
      let g = range_of s r va in
      let p = params_of s r g in
      let h : level_of (walk_of s r va memory) ≡ result-level (walk_range p g va memory) =
      walked-level (single_priv r) (wxn_of s) va (table_walk s r va memory) (table-walk-sound s r va memory) in
      let c : range_of s r vb ≡ g = sym (same-range s r va vb _ (within-55 g.largegrain (level_of (walk_of s r va memory))) e) in
      rw c (range-further va vb up p (pa-size-low _) (pa-size-high _) memory g refl a b (rw h at e))

  -- both in range: the place of the second is so much further on than that of the first
  pub place-of-block : va ≤ vb → in_range (range_of s r va) va ≡ true → in_range (range_of s r va) vb ≡ true → InBlock
      → place_at s r memory vb ≡ ahead (place_at s r memory va) (vb - va)
  unfolding walk_of
  place-of-block up a b e =
      ap (λ (x : Result). place_of (walked_of (single_priv r) (wxn_of s) x)) (table-walk-further up a b e)
      ∙ walked-further (single_priv r) (wxn_of s) (vb - va) (table_walk s r va memory)

-- beyond its range nothing is mapped
beyond-range : (s : Bank) (r : Regime) (va : ℕ) (memory : ℕ → Option ℕ) → in_range (range_of s r va) va ≡ false → place_at s r memory va ≡ None
unfolding walk_of table_walk walk_range
beyond-range s r va memory e = rw e

-- addresses that are alike at the level of a walk's end
pub place-ahead : (s : Bank) (r : Regime) (va vb : ℕ) (memory : ℕ → Option ℕ) → va ≤ vb
    → Alike (range_of s r va) (level_of (walk_of s r va memory)) va vb → place_at s r memory vb ≡ ahead (place_at s r memory va) (vb - va)
place-ahead s r va vb memory up h = go (in_range (range_of s r va) va) refl
  where
    go : (b : Bool) → in_range (range_of s r va) va ≡ b → place_at s r memory vb ≡ ahead (place_at s r memory va) (vb - va)
    go true e = place-of-block s r va vb memory up e (h.0 ∙ e) (rw e at h.1)
    go false e =
        let f : va / 2 ^ 55 ≡ vb / 2 ^ 55 = rw e at h.1 in
        let c : range_of s r va ≡ range_of s r vb = same-range s r va vb 55 (omega arith) f in
        beyond-range s r vb memory (rw c at (h.0 ∙ e)) ∙ sym (ap (λ (x : Option Place). ahead x (vb - va)) (beyond-range s r va memory e))

-- a level is at most 3
pub level-within : (s : Bank) (r : Regime) (va : ℕ) (memory : ℕ → Option ℕ) → level_of (walk_of s r va memory) ≤ 3
level-within s r va memory = grind (arith, walk_sound s r va memory)
