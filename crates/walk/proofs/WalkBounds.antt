-- Every walk ends within its bounds.
use Rattle.std.specs.Prelude.{◌≡◌, Bool, Option, Ok, Err, refl, ℕ, Some, None, ◌+◌, ◌/◌, ◌%◌, ◌^◌, ◌≤◌, ◌<◌}
use Rattle.std.proofs.Common.{pow_mono, rules, pow_pos, mod-lt, subst, arith}
use Rattle.std.proofs.Math.Bool.{false}
use Rattle.std.proofs.Math.Nat.{lt_of_lt_of_le}
use Rattle.std.proofs.lemmas.Bool.{not-false}
use Rattle.std.proofs.lemmas.Grind.{common_steps}
use Rattle.word.proofs.RamLaws.{join-below, cut_small, join-small, same_above, join-above}
use Rattle.sysreg.specs.declared.regs.Regime.{Regime}
use Rattle.word.specs.Bits.{align_down}
use Rattle.walk.specs.Table.{firstblocklevel, addrselectbottom, beyond, Lookup, Next, deeper, ends, params_of, table_next, leaf_translation}
use Rattle.walk.specs.Table.{leaf_result, level_next, lookup_next, walk_from, walk_range, table_walk, outputaddress, address_size, Translation}
use Rattle.walk.specs.Table.{Result, mapped, faults, range_of, descaddr}
use Rattle.walk.specs.Walk.{walk_of, flat_by, flat_end, fresh_of, flat_of, walked_of, fetches_from, fetches_range, fetches_of}
use Rattle.walk.proofs.SizeLaws.{pa-size-low, pa-size-high, block-level, block_size, index-above-page}
use Rattle.walk.specs.declared.{regime.Bank.Bank, level.Params.Params, level.Leaf.Leaf, fresh.Fresh.Fresh}
use Rattle.walk.specs.WalkBounds.{Status, LeafBounds, Found, Sound, SoundWalked, SoundEnd, SoundFresh, paged_leaf, paged, leaf_at}
use Rattle.walk.specs.Regime.{untagged, pa_max}
use Rattle.walk.specs.declared.fresh.Fresh.TheVariants.{Ended}
use Rattle.walk.specs.Answers.{Walked}
use Prim.Native.Nat.{zero, suc}

-- an address that is not beyond n bits has n bits
pub not_beyond : (n x : ℕ) → n ≤ 48 → beyond n x ≡ false → x % 2 ^ 48 < 2 ^ n
not_beyond n x h e = grind (arith, cut_small, not-false)

-- an output address whose descriptor is not beyond n bits has n bits
pub output-small : (n bottom va desc : ℕ) → bottom ≤ n → n ≤ 48 → beyond n desc ≡ false → outputaddress bottom va desc < 2 ^ n
output-small n bottom va desc h k e = search (rules, join-small, not_beyond, mod-lt, pow_pos)

-- a status is a number below 24
pub status-small : (n : ℕ) → Status n → n < 24
status-small n h = grind arith

-- a step from a level leads one level down, or ends so
abbrev SoundNext : ℕ → ℕ → Next → Type 0
SoundNext va level (deeper l) = (l.level ≡ level + 1) × (l.level ≤ 3)
SoundNext va level (ends r) = Sound va r

module _ (p : Params) (low : 32 ≤ p.outputsize) (high : p.outputsize ≤ 44) (va : ℕ) where
  found : (l : Lookup) (desc : ℕ) → l.level ≤ 3 → firstblocklevel p.largegrain ≤ l.level → beyond p.outputsize desc ≡ false
      → Found va (leaf_translation p va l desc)
  unfolding leaf_translation
  found l desc h k e =
      let b = block_size p.largegrain l.level k in
      let small = output-small p.outputsize (addrselectbottom p.largegrain l.level) va desc (omega arith) (omega arith) e in
      record {
        level-low = block-level p.largegrain l.level k;
        level-high = h;
        address = lt_of_lt_of_le small (pow_mono {i = p.outputsize} {j = 44} high);
        offset = join-below (desc % 2 ^ 48) va (index-above-page p.largegrain l.level);
      }

  lookup-sound : (memory : ℕ → Option ℕ) (l : Lookup) → l.level ≤ 3 → SoundNext va l.level (lookup_next memory p va l)
  unfolding lookup_next level_next leaf_result table_next
  lookup-sound memory l h = grind (arith, found, block-level)

  -- a table leads one level down, to level 3 at the most
  pub next_level : (memory : ℕ → Option ℕ) (l k : Lookup) → l.level ≤ 3 → lookup_next memory p va l ≡ deeper k
      → (k.level ≡ l.level + 1) × (k.level ≤ 3)
  next_level memory l k h e = grind (arith, lookup-sound)

  from-sound : (n : ℕ) (memory : ℕ → Option ℕ) (l : Lookup) → l.level ≤ 3 → Sound va (walk_from n memory p va l)
  unfolding walk_from
  from-sound zero memory l h = omega arith
  from-sound (suc n) memory l h = grind (arith, lookup-sound, from-sound n)

-- every walk of the manual's ends in a leaf or a fault of the table of answers
pub table-walk-sound : (s : Bank) (r : Regime) (va : ℕ) (memory : ℕ → Option ℕ) → Sound va (table_walk s r va memory)
unfolding table_walk walk_range params_of
table-walk-sound s r va memory = grind (arith, from-sound, pa-size-low, pa-size-high)

-- and so does the walk as the code's types hold it
pub walk_sound : (s : Bank) (r : Regime) (va : ℕ) (memory : ℕ → Option ℕ) → SoundWalked va (walk_of s r va memory)
unfolding walk_of
walk_sound s r va memory = grind (arith, table-walk-sound)

-- a leaf's level is 1, 2 or 3, its output address is below 2^44, its permission byte has six bits
pub leaf-bounds : (s : Bank) (r : Regime) (va : ℕ) (memory : ℕ → Option ℕ) (leaf : Leaf) → walk_of s r va memory ≡ Ok leaf → LeafBounds leaf
leaf-bounds s r va memory leaf e = grind (arith, walk_sound)

-- a fault's status is one of the table of answers
pub fault-status : (s : Bank) (r : Regime) (va : ℕ) (memory : ℕ → Option ℕ) (n : ℕ) → walk_of s r va memory ≡ Err n → Status n
fault-status s r va memory n e = grind (arith, walk_sound)

-- Every fresh answer is flat, a leaf within its bounds or a status of the table of answers.
-- a flat address that is too large has a status of the table too
flat-sound : (o : Option ℕ) → SoundFresh (flat_end o)
flat-sound (Some pa) = tt
flat-sound None = record { fault = address_size 0; level = omega arith; code = refl }

module _ (s : Bank) (r : Regime) (va : ℕ) (memory : ℕ → Option ℕ) where
  pub answer-sound : SoundFresh (fresh_of s r va memory)
  unfolding fresh_of
  answer-sound = grind (arith, walk_sound, flat-sound)

  pub is-sound : (x : Fresh) → x ≡ fresh_of s r va memory → SoundFresh x
  is-sound x e = rw e answer-sound

  -- a leaf that it ends in
  pub fresh-leaf : (x : Fresh) (w : Walked) (leaf : Leaf) → x ≡ fresh_of s r va memory → x ≡ Ended w → w ≡ Ok leaf → LeafBounds leaf
  fresh-leaf x w leaf e x-is w-is = subst SoundEnd w-is (subst SoundFresh x-is (is-sound x e))

-- Laws of flat addresses: the manual's rule is one test of the untagged address, and it goes by pages.

-- an untagged address below 2^pa_max is its own, and no other has one
pub flat-below : (u : ℕ) → u < 2 ^ pa_max → flat_by u ≡ Some u
flat-below u h = grind (arith, common_steps)

pub flat-above : (u : ℕ) → 2 ^ pa_max ≤ u → flat_by u ≡ None
flat-above u h = grind (arith, common_steps)

module _ (tcr : ℕ) (r : Regime) (va : ℕ) where
  -- the manual's rule, by the untagged address
  pub flat-is : va < 2 ^ 64 → flat_of tcr r va ≡ flat_by (untagged tcr r va)
  unfolding untagged
  flat-is h = search rules

  -- an address below 2^pa_max is its own, whatever the tag rule
  pub flat-small : va < 2 ^ pa_max → flat_of tcr r va ≡ Some va
  flat-small h = grind arith

-- A walk goes by pages: addresses of one page have one walk but for the offset in the page, which is the address's own.

-- the same of the manual's results
abbrev paged_found : Translation → Translation
paged_found t =
    record t { address = align_down t.address 12 }

abbrev paged_result : Result → Result
paged_result (mapped t) = mapped (paged_found t)
paged_result (faults f) = faults f

abbrev paged_next : Next → Next
paged_next (deeper l) = deeper l
paged_next (ends r) = ends (paged_result r)

paged-walked : (singlepriv wxn : Bool) (x : Result) → paged (walked_of singlepriv wxn x) ≡ walked_of singlepriv wxn (paged_result x)
paged-walked singlepriv wxn x = grind arith

module _ (va vb : ℕ) (same : va / 2 ^ 12 ≡ vb / 2 ^ 12) where
  -- what is read of an address from bit 12 up
  above : (n : ℕ) → 12 ≤ n → va / 2 ^ n ≡ vb / 2 ^ n
  above n h = same_above va vb h same

  output-page : (n desc : ℕ) → 12 ≤ n → align_down (outputaddress n va desc) 12 ≡ align_down (outputaddress n vb desc) 12
  output-page n desc h = rw (join-above (desc % 2 ^ 48) va h, join-above (desc % 2 ^ 48) vb h, same)

  module _ (p : Params) where
    leaf-page : (l : Lookup) (desc : ℕ) → paged_found (leaf_translation p va l desc) ≡ paged_found (leaf_translation p vb l desc)
    unfolding leaf_translation
    leaf-page l desc = grind (arith, output-page, index-above-page)

    same_address : (l : Lookup) → descaddr p va l ≡ descaddr p vb l
    unfolding descaddr
    same_address l = grind (arith, above, index-above-page)

    lookup-page : (memory : ℕ → Option ℕ) (l : Lookup) → paged_next (lookup_next memory p va l) ≡ paged_next (lookup_next memory p vb l)
    unfolding lookup_next level_next leaf_result
    lookup-page memory l = grind (arith, same_address, leaf-page)

    from-page : (n : ℕ) (memory : ℕ → Option ℕ) (l : Lookup) → paged_result (walk_from n memory p va l) ≡ paged_result (walk_from n memory p vb l)
    unfolding walk_from
    from-page zero memory l = refl
    from-page (suc n) memory l = let e = lookup-page memory l in grind (arith, from-page n memory)

    fetches-page : (n : ℕ) (memory : ℕ → Option ℕ) (l : Lookup) → fetches_from n memory p va l ≡ fetches_from n memory p vb l
    unfolding fetches_from
    fetches-page zero memory l = refl
    fetches-page (suc n) memory l = let e = lookup-page memory l in grind (arith, same_address, fetches-page n memory)

  -- addresses of one page lie in one range
  pub range-of-page : (s : Bank) (r : Regime) → range_of s r va ≡ range_of s r vb
  unfolding range_of
  range-of-page s r = grind arith

  -- and have one walk but for the offset
  pub walk_of-page : (s : Bank) (r : Regime) (memory : ℕ → Option ℕ) → paged (walk_of s r va memory) ≡ paged (walk_of s r vb memory)
  unfolding walk_of table_walk walk_range
  walk_of-page s r memory = grind (arith, above, range-of-page, paged-walked, from-page)

  -- and fetch the same descriptors
  pub fetches-of-page : (s : Bank) (r : Regime) (memory : ℕ → Option ℕ) → fetches_of s r va memory ≡ fetches_of s r vb memory
  unfolding fetches_of fetches_range
  fetches-of-page s r memory = grind (arith, above, range-of-page, fetches-page)

same-leaf : (x y : Leaf) (va : ℕ) → paged_leaf x ≡ paged_leaf y → y.oa % 2 ^ 12 ≡ va % 2 ^ 12 → y ≡ leaf_at x va
same-leaf x y va e o = grind arith

module _ (s : Bank) (r : Regime) (va vb : ℕ) (memory : ℕ → Option ℕ) (same : va / 2 ^ 12 ≡ vb / 2 ^ 12) where
  -- so the leaf of one address of a page tells that of another
  pub leaf-of-page : (leaf : Leaf) → walk_of s r va memory ≡ Ok leaf → walk_of s r vb memory ≡ Ok (leaf_at leaf vb)
  leaf-of-page leaf e = let both = walk_of-page va vb same s r memory in grind (arith, same-leaf, walk_sound)

  -- and a fault is the page's
  pub fault-of-page : (n : ℕ) → walk_of s r va memory ≡ Err n → walk_of s r vb memory ≡ Err n
  fault-of-page n e = let both = walk_of-page va vb same s r memory in grind arith
