-- The order of a walk's answers, row by row.
use Rattle.std.specs.Prelude.{◌≡◌, [], Option, Some, None, Err, length, List, ◌∷◌, ◌-◌, drop, slice_get}
use Rattle.std.proofs.Math.Path.{refl}
use Rattle.std.proofs.Common.{ap, ◌∙◌, sym, add-one, drop-cons, drop_of_length-le}
use Rattle.std.proofs.Math.Bool.{true, false}
use Rattle.std.proofs.lemmas.Option.{slice_get_within, get_or_from_slice_get, slice_get-get_or}
use Rattle.sysreg.specs.Regs.{single_priv}
use Rattle.sysreg.specs.declared.regs.Regime.{Regime}
use Rattle.walk.specs.Regime.{wxn_of}
use Rattle.walk.specs.Descriptor.{valid}
use Rattle.walk.specs.Table.{Result, mapped, faults, translation, in_range, beyond, Lookup, Next, deeper}
use Rattle.walk.specs.Table.{ends, first_lookup, range_of, params_of, table_next, leaf_translation, leaf_result, level_next, descaddr, lookup_next}
use Rattle.walk.specs.Table.{walk_from, walk_range, table_walk, Translation, startlevel}
use Rattle.walk.specs.Walk.{walked_of, walk_of, fetches_range, fetches_of, fetches_from}
use Rattle.walk.proofs.SizeLaws.{pa-size-low, pa-size-high, start-level}
use Rattle.walk.proofs.WalkBounds.{next_level}
use Rattle.walk.specs.declared.{regime.Bank.Bank, level.Params.Params}
use Rattle.walk.specs.Order.{NoLeafAt, params_at, Reached, entry, onward, Below, reads, reads_to}
use Rattle.walk.specs.Order.{LeafCounts}
use Rattle.walk.specs.State.{seen_address, seen_as, visit_from, visit_of}
use Rattle.walk.specs.declared.table.Visit.{Visit}
use Rattle.walk.proofs.Loop.{few-fetches}
use Prim.Native.Nat.{ℕ, suc, ◌+◌, ◌≤◌, zero}
use native.Mathlib.Omega.{arith}

-- bit 0 clear, whatever the other bits
pub invalid-next : (p : Params) (va : ℕ) (l : Lookup) (desc : ℕ) → valid desc ≡ false → level_next p va l desc ≡ ends (faults (translation l.level))
unfolding level_next
invalid-next p va l desc e = rw e

module _ (s : Bank) (r : Regime) (va : ℕ) (memory : ℕ → Option ℕ) where
  abbrev begun : ℕ
  begun = startlevel (range_of s r va)

  -- what holds of every table reached: the walk ends as it does from here, and reads one table for each level down to here and what it reads from here
  pub record Stage (l : Lookup) : Type 0 where
    pub level : l.level ≤ 3
    pub walk : table_walk s r va memory ≡ walk_from (4 - l.level) memory (params_at s r va) va l
    low : begun ≤ l.level
    all : reads s r va memory ≡ l.level - begun + length (fetches_from (4 - l.level) memory (params_at s r va) va l)

  first-stage : in_range (range_of s r va) va ≡ true → (range_of s r va).disabled ≡ false
      → beyond (params_at s r va).outputsize (range_of s r va).baseregister ≡ false → Stage (first_lookup (range_of s r va))
  unfolding table_walk walk_range fetches_of fetches_range
  first-stage e d b = record { level = start-level (range_of s r va); walk = rw (e, b, d); low = omega arith; all = rw (e, b, d) (omega arith) }

  pub one_down : (l k : Lookup) → l.level ≤ 3 → lookup_next memory (params_at s r va) va l ≡ deeper k
      → (k.level ≡ l.level + 1) × (k.level ≤ 3)
  unfolding params_of
  one_down l k h e = grind (arith, next_level, pa-size-low, pa-size-high)

  next-stage : (l k : Lookup) → Stage l → lookup_next memory (params_at s r va) va l ≡ deeper k → Stage k
  unfolding walk_from fetches_from
  next-stage l k st e =
      let d = one_down l k st.level e in
      let n : 4 - l.level ≡ suc (4 - k.level) = omega arith in
      let z = rw (n, fetches_from, e) at st.all in
      record { level = d.1; walk = rw (n, walk_from, e) at st.walk; low = omega (arith, st.low); all = omega (arith, st.low, z) }

  pub stage : {l : Lookup} → Reached s r va memory l → Stage l
  stage (entry e d b) = first-stage e d b
  stage (onward {l} {k} h e) = next-stage l k (stage h) e

  -- a walk ends as the first table that it reaches and that does not lead on
  pub ends-walk : (l : Lookup) (x : Result) → Reached s r va memory l → lookup_next memory (params_at s r va) va l ≡ ends x
      → (walk_of s r va memory ≡ walked_of (single_priv r) (wxn_of s) x) × (reads s r va memory ≡ reads_to s r va memory l.level)
  unfolding walk_of walk_from fetches_from
  ends-walk l x h e =
      let st = stage h in
      let n : 4 - l.level ≡ suc (3 - l.level) = omega (arith, st.level) in
      let w : table_walk s r va memory ≡ x = rw (n, walk_from, e) at st.walk in
      let z = rw (n, fetches_from, e) at st.all in
      (rw w, omega (arith, st.low, z))

  -- what a table reached leads to: one level down, or to the walk's answer
  abbrev Led : Lookup → Next → Type 0
  Led l (deeper k) = Below s r va memory l
  Led l (ends x) = (walk_of s r va memory ≡ walked_of (single_priv r) (wxn_of s) x) × (reads s r va memory ≡ reads_to s r va memory l.level)

  pub leads : (l : Lookup) → Reached s r va memory l → Led l (lookup_next memory (params_at s r va) va l)
  leads l h = go (lookup_next memory (params_at s r va) va l) refl
    where
      go : (n : Next) → lookup_next memory (params_at s r va) va l ≡ n → Led l n
      go (deeper k) e = record { lookup = k; level = (one_down l k (stage h).level e).0; reached = onward h e }
      go (ends x) e = ends-walk l x h e

  module _ (l : Lookup) (reached : Reached s r va memory l) (desc : ℕ) (word : memory (descaddr (params_at s r va) va l) ≡ Some desc) where
    -- Descriptor, bit 0 clear: 0x04 + level
    pub descriptor-invalid : valid desc ≡ false → walk_of s r va memory ≡ Err (0x04 + l.level)
    unfolding lookup_next level_next
    descriptor-invalid e = let w = leads l reached in grind arith

    -- Leaf, level 3 with bit 1 clear, or a block at a level that has none: 0x04 + level
    pub leaf-not-allowed : NoLeafAt (params_at s r va) l desc → walk_of s r va memory ≡ Err (0x04 + l.level)
    unfolding lookup_next level_next leaf_result
    leaf-not-allowed h = let w = leads l reached in grind arith

-- A LEAF is of the level at which the walk ends

abbrev OfLevel : ℕ → Result → Type 0
OfLevel n (mapped t) = t.level ≡ n
OfLevel n (faults f) = Unit {0}

abbrev EndsOn : ℕ → Next → Type 0
EndsOn n (deeper k) = Unit {0}
EndsOn n (ends x) = OfLevel n x

module _ (p : Params) (va : ℕ) (l : Lookup) where
  lookup-level : (memory : ℕ → Option ℕ) → EndsOn l.level (lookup_next memory p va l)
  unfolding lookup_next level_next leaf_result leaf_translation table_next
  lookup-level memory = grind arith

module _ (s : Bank) (r : Regime) (va : ℕ) (memory : ℕ → Option ℕ) (t : Translation) where
  abbrev p : Params
  p = params_at s r va

  record Found (n level : ℕ) : Type 0 where
    below : level ≤ t.level
    count : n ≡ t.level + 1 - level

  found-from : (n : ℕ) (l : Lookup) → l.level + n ≡ 4 → walk_from n memory p va l ≡ mapped t
      → Found (length (fetches_from n memory p va l)) l.level
  unfolding walk_from fetches_from
  found-from zero l h e = cc
  found-from (suc n) l h e = grind (arith, one_down, lookup-level, found-from n)

  found-range : walk_range p (range_of s r va) va memory ≡ mapped t
      → Found (length (fetches_range p (range_of s r va) va memory)) (startlevel (range_of s r va))
  unfolding walk_range fetches_range
  found-range = grind (arith, start-level, found-from (4 - startlevel (range_of s r va)) (first_lookup (range_of s r va)))

pub leaf-counts : (s : Bank) (r : Regime) (va : ℕ) (memory : ℕ → Option ℕ) → LeafCounts s r va memory
unfolding walk_of table_walk fetches_of
leaf-counts s r va memory leaf e = grind (arith, found-range)

-- The tables of a walk, one by one, are those of its fetches in their order.
module _ (s : Bank) (r : Regime) (va : ℕ) (memory : ℕ → Option ℕ) where
  -- from a table on, with m levels left
  from-fetch : (n m : ℕ) (l : Lookup) → l.level ≤ 3 → l.level + m ≡ 4
      → seen_address (visit_from n memory (params_at s r va) va l) ≡ slice_get (fetches_from m memory (params_at s r va) va l) n
  unfolding visit_from fetches_from
  from-fetch n zero l h e = absurd (omega arith)
  from-fetch zero (suc m) l h e = refl
  from-fetch (suc n) (suc m) l h e = grind (arith, one_down, from-fetch n m)

  -- the n-th table read is that of the n-th fetch, and behind the last fetch there is none
  pub visits-fetch : (n : ℕ) → seen_address (visit_of s r va memory n) ≡ slice_get (fetches_of s r va memory) n
  unfolding visit_of fetches_of fetches_range
  visits-fetch n = grind (arith, start-level, from-fetch)

-- what is left of a list from its n-th element on, by that element
rest-some : (ds : List ℕ) (n a : ℕ) → slice_get ds n ≡ Some a → drop n ds ≡ a ∷ drop (n + 1) ds
rest-some ds n a e = rw (add-one n, drop-cons ds n 0 (slice_get_within ds n a e), get_or_from_slice_get ds n a 0 e)

rest-none : (ds : List ℕ) (n : ℕ) → slice_get ds n ≡ None → drop n ds ≡ []
rest-none ds n e = grind (arith, drop_of_length-le, slice_get-get_or ds n 0)

-- for a loop over the visits: the descriptors that are left begin with the one visited, or there are none left
module _ (s : Bank) (r : Regime) (va : ℕ) (memory : ℕ → Option ℕ) (n : ℕ) where
  pub visit-some : (v : Visit) → seen_as (params_at s r va) (Some v) ≡ visit_of s r va memory n
      → drop n (fetches_of s r va memory) ≡ v.at ∷ drop (n + 1) (fetches_of s r va memory)
  visit-some v e = rest-some (fetches_of s r va memory) n v.at (sym (visits-fetch s r va memory n) ∙ sym (ap seen_address e))

  pub visit-none : seen_as (params_at s r va) None ≡ visit_of s r va memory n → drop n (fetches_of s r va memory) ≡ []
  visit-none e = rest-none (fetches_of s r va memory) n (sym (visits-fetch s r va memory n) ∙ sym (ap seen_address e))

-- four visits are all
pub visits-end : (s : Bank) (r : Regime) (va : ℕ) (memory : ℕ → Option ℕ) → drop 4 (fetches_of s r va memory) ≡ []
visits-end s r va memory = let few : length (fetches_of s r va memory) ≤ 4 = grind (arith, few-fetches) in drop_of_length-le (fetches_of s r va memory) few
