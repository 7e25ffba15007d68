-- A walk sees of memory only the descriptors that it fetches, and these are few.
use Rattle.std.proofs.Common.{arith, rules}
use Rattle.std.specs.Prelude.{◌≡◌, length, get_or, Option, Ok, Err, ◌≢◌}
use Rattle.std.proofs.Math.Path.{refl}
use Rattle.word.specs.Ram.{word_at}
use Rattle.word.proofs.RamLaws.{word-agree}
use Rattle.sysreg.specs.declared.regs.Regime.{Regime}
use Rattle.walk.specs.Table.{levels_of, Lookup, range_of, descaddr, lookup_next, walk_from, walk_range, table_walk, Next, deeper, params_of}
use Rattle.walk.specs.Table.{first_lookup}
use Rattle.walk.specs.Walk.{walk_of, fetches_from, fetches_range, fetches_of, Agree, none, one, walked_of}
use Rattle.walk.proofs.SizeLaws.{level-count}
use Rattle.walk.specs.declared.{regime.Bank.Bank, range.Range.Range, level.Params.Params, level.WalkState.WalkState, level.Leaf.Leaf}
use Rattle.walk.specs.Answers.{Begin, Walked, Visited}
use Rattle.walk.specs.State.{lookup_of, onward, stepped, meant, Standing, Leads, first_of, begin_of, Seen, seen, past, visit_from, visit_of}
use Rattle.walk.specs.State.{seen_as}
use Rattle.walk.specs.declared.level.Step.{Step}
use Rattle.walk.specs.declared.level.Step.TheVariants.{Next as Onward, Leaf as Found, Fault}
use mathlib.Core.List.{List, [], ◌∷◌, Memᴰ}
use Prim.Native.Nat.{ℕ, zero, suc, ◌+◌, ◌-◌, ◌≤◌, ◌<◌}

-- that is, at each of its members
pub agree-all : (m m' : ℕ → Option ℕ) (l : List ℕ) → ((a : ℕ) → Memᴰ a l → m a ≡ m' a) → Agree m m' l
agree-all m m' [] h = none
agree-all m m' (a ∷ l) h = one (h a (Memᴰ.head refl)) (agree-all m m' l (λ b k. h b (Memᴰ.tail k)))

module _ (m m' : ℕ → Option ℕ) (p : Params) (va : ℕ) where
  from-agrees : (n : ℕ) (l : Lookup) → Agree m m' (fetches_from n m p va l)
      → (walk_from n m p va l ≡ walk_from n m' p va l) × (fetches_from n m p va l ≡ fetches_from n m' p va l)
  unfolding walk_from fetches_from lookup_next
  from-agrees zero l h = (refl, refl)
  from-agrees (suc n) l (one e h) = grind (arith, from-agrees n)

-- memories that agree where the walk fetches give one walk, which fetches the same descriptors
pub agrees : (s : Bank) (r : Regime) (va : ℕ) (m m' : ℕ → Option ℕ) → Agree m m' (fetches_of s r va m)
    → (walk_of s r va m ≡ walk_of s r va m') × (fetches_of s r va m ≡ fetches_of s r va m')
unfolding walk_of table_walk walk_range fetches_of fetches_range
agrees s r va m m' h = grind (arith, from-agrees)

few-from : (n : ℕ) (m : ℕ → Option ℕ) (p : Params) (va : ℕ) (l : Lookup) → length (fetches_from n m p va l) ≤ n
unfolding fetches_from
few-from zero m p va l = grind arith
few-from (suc n) m p va l = grind (arith, few-from n m p va)

-- at most four descriptors with a granule of 4 KiB, three with one of 64 KiB
pub few-fetches : (s : Bank) (r : Regime) (va : ℕ) (m : ℕ → Option ℕ) → length (fetches_of s r va m) ≤ levels_of (range_of s r va).largegrain
unfolding fetches_of fetches_range
few-fetches s r va m = grind (arith, few-from, level-count)

-- two windows of RAM of one base and length that agree on the bytes of each descriptor fetched, where it lies inside, give one walk
pub bytes-agree : (s : Bank) (r : Regime) (va base : ℕ) (ram ram' : List ℕ) → length ram ≡ length ram'
    → ((a : ℕ) → Memᴰ a (fetches_of s r va (word_at base ram 8)) → base ≤ a → a + 8 ≤ base + length ram
    → (i : ℕ) → i < 8 → get_or ram (a - base + i) 0 ≡ get_or ram' (a - base + i) 0)
    → walk_of s r va (word_at base ram 8) ≡ walk_of s r va (word_at base ram' 8)
bytes-agree s r va base ram ram' e h = (agrees s r va _ _ (search (rules, agree-all, word-agree))).0

-- The loop over the levels: a step that leads on stands one level lower and ends as before; a step that is done has the walk's answer.

pub is-deeper : (p : Params) (l : Lookup) (n : Next) → onward l ≡ meant p n → n ≡ deeper l
is-deeper p l n e = grind arith

module _ (memory : ℕ → Option ℕ) (p : Params) (w : WalkState) (va : ℕ) (s : Step) (es : stepped p s ≡ meant p (lookup_next memory p va (lookup_of p w)))
    (ld : Leads p w s) where
  pub stands : (v : WalkState) → s ≡ Onward v → Standing p v
  stands v n = grind arith

  pub falls : (v : WalkState) → s ≡ Onward v → Standing p w → 4 - v.level < 4 - w.level
  falls v n st = grind arith

  -- what is left to walk from here
  abbrev Left : WalkState → Walked → Type 0
  Left u a = walked_of p.singlepriv p.wxn (walk_from (4 - u.level) memory p va (lookup_of p u)) ≡ a

  pub goes_on : (v : WalkState) (a : Walked) → s ≡ Onward v → Left w a → Left v a
  unfolding walk_from
  goes_on v a n h =
      let k : 4 - w.level ≡ suc (4 - v.level) = grind arith in
      let d = is-deeper p (lookup_of p v) (lookup_next memory p va (lookup_of p w)) (rw n at es) in
      rw (k, walk_from, d) at h

  pub leaf-right : (leaf : Leaf) (a : Walked) → s ≡ Found leaf → Standing p w → Left w a → Ok leaf ≡ a
  unfolding walk_from
  leaf-right leaf a n = grind arith

  pub fault-right : (status : ℕ) (a : Walked) → s ≡ Fault status → Standing p w → Left w a → Err status ≡ a
  unfolding walk_from
  fault-right status a n = grind arith

  -- the descriptors that are read from here on
  abbrev Rest : WalkState → ℕ
  Rest u = length (fetches_from (4 - u.level) memory p va (lookup_of p u))

  pub reads-on : (v : WalkState) → s ≡ Onward v → Standing p w → Rest w ≡ suc (Rest v)
  unfolding fetches_from
  reads-on v n st =
      let k : 4 - w.level ≡ suc (4 - v.level) = grind arith in
      let d = is-deeper p (lookup_of p v) (lookup_next memory p va (lookup_of p w)) (rw n at es) in
      rw (k, fetches_from, d)

  pub leaf-read : (leaf : Leaf) → s ≡ Found leaf → Standing p w → Rest w ≡ 1
  unfolding fetches_from
  leaf-read leaf n = grind arith

  pub fault-read : (status : ℕ) → s ≡ Fault status → Standing p w → Rest w ≡ 1
  unfolding fetches_from
  fault-read status n = grind arith

-- where a walk begins it stands, and what it stands for is the manual's first table
pub first-is : (p : Params) (g : Range) → first_lookup g ≡ lookup_of p (first_of g)
first-is p g = grind arith

module _ (s : Bank) (r : Regime) (va : ℕ) (memory : ℕ → Option ℕ) (g : Range) (p : Params) (x : Begin) (eg : g ≡ range_of s r va)
    (ep : p ≡ params_of s r g) (ex : x ≡ begin_of g p.outputsize va) where
  pub walk_begun : (w : WalkState) → x ≡ Ok w
      → walked_of p.singlepriv p.wxn (walk_from (4 - w.level) memory p va (lookup_of p w)) ≡ walk_of s r va memory
  unfolding begin_of walk_range walk_of table_walk params_of
  walk_begun w n = grind arith

  pub walk_refused : (n : ℕ) → x ≡ Err n → Err n ≡ walk_of s r va memory
  unfolding begin_of walk_range walk_of table_walk params_of
  walk_refused n e = grind arith

  pub reads_begun : (w : WalkState) → x ≡ Ok w
      → length (fetches_from (4 - w.level) memory p va (lookup_of p w)) ≡ length (fetches_of s r va memory)
  unfolding begin_of fetches_range fetches_of params_of
  reads_begun w n = grind arith

  pub reads_refused : (n : ℕ) → x ≡ Err n → 0 ≡ length (fetches_of s r va memory)
  unfolding begin_of fetches_range fetches_of params_of
  reads_refused n e = grind arith

-- whatever memory holds
pub begins-standing : (s : Bank) (r : Regime) (va : ℕ) (g : Range) (p : Params) (x : Begin) (w : WalkState) → g ≡ range_of s r va
    → p ≡ params_of s r g → x ≡ begin_of g p.outputsize va → x ≡ Ok w → Standing p w
unfolding begin_of walk_range params_of
begins-standing s r va g p x w eg ep ex n = grind arith

pub ruleset walk_steps = (begins-standing, walk_begun, walk_refused, reads_begun, reads_refused, falls, stands, leaf-right, fault-right, leaf-read, fault-read, few-fetches)

-- The loop over the levels up to the n-th: a step that leads on leaves one fewer; where none is left, the table is the one asked for.
module _ (memory : ℕ → Option ℕ) (p : Params) (w : WalkState) (va : ℕ) (s : Step) (es : stepped p s ≡ meant p (lookup_next memory p va (lookup_of p w))) where
  pub visit-on : (v : WalkState) (left : ℕ) (r : Seen) → s ≡ Onward v → left ≢ 0 → visit_from left memory p va (lookup_of p w) ≡ r
      → visit_from (left - 1) memory p va (lookup_of p v) ≡ r
  unfolding visit_from
  visit-on v left r n t h = grind arith

  pub visit-here : (a left : ℕ) (r : Seen) → left ≡ 0 → a ≡ descaddr p va (lookup_of p w) → visit_from left memory p va (lookup_of p w) ≡ r
      → seen (lookup_of p w) a (stepped p s) ≡ r
  unfolding visit_from
  visit-here a left r t ea h = rw (ea, es) (rw (t, visit_from) at h)

  pub past-leaf : (leaf : Leaf) (left : ℕ) (r : Seen) → s ≡ Found leaf → left ≢ 0 → visit_from left memory p va (lookup_of p w) ≡ r → past ≡ r
  unfolding visit_from
  past-leaf leaf left r n = grind arith

  pub past-fault : (status left : ℕ) (r : Seen) → s ≡ Fault status → left ≢ 0 → visit_from left memory p va (lookup_of p w) ≡ r → past ≡ r
  unfolding visit_from
  past-fault status left r n = grind arith

-- where a walk begins: the first table, or none
module _ (s : Bank) (r : Regime) (va n : ℕ) (memory : ℕ → Option ℕ) (g : Range) (p : Params) (x : Begin) (eg : g ≡ range_of s r va)
    (ep : p ≡ params_of s r g) (ex : x ≡ begin_of g p.outputsize va) where
  pub visits-from : (w : WalkState) (v : Visited) → x ≡ Ok w → seen_as p v ≡ visit_from n memory p va (lookup_of p w)
      → seen_as (params_of s r (range_of s r va)) v ≡ visit_of s r va memory n
  unfolding begin_of visit_of
  visits-from w v e h = grind (arith, first-is)

  pub visits-none : (m : ℕ) → x ≡ Err m → past ≡ visit_of s r va memory n
  unfolding begin_of visit_of
  visits-none m e = grind arith

pub ruleset visit_steps = (stands, visit-on, visit-here, past-leaf, past-fault)

pub ruleset visit_ends = (begins-standing, visits-from, visits-none)
