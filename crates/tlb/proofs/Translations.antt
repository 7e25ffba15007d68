-- A translation that no hint serves, against the plain model.
use Rattle.std.proofs.Common.{refl, rules, arith, length-set}
use Rattle.std.specs.Prelude.{if◌then◌else◌, ◌≡◌, ℕ, ◌/◌, ◌≤◌, Bool, true, false, Some, None, Ok, Err, ◌≢◌, List, [], ◌∷◌}
use Rattle.walk.specs.Answers.{Walked}
use Rattle.walk.specs.declared.level.Leaf.{Leaf}
use Rattle.tlb.specs.Access.{flat_answer, may_hint}
use Rattle.tlb.proofs.Cells.{judged-is, each-getD, hit-counted, walk-counted, on-aligned, may-is, known_is, fetch-known-is, each_set, get_d_set}
use Rattle.tlb.specs.Tlb.{hit_counted, walk_counted, slot_of, entry_for, entry_at, get_of, place_of, data_slot, hint_at, fresh}
use Rattle.tlb.specs.Live.{hint_of, Follows, line_in, live, WellFormed, LeafLevel, hints_of, fetch_hint_of, Each, more}
use Rattle.tlb.specs.Model.{empty, holds, one_hit, one_walk, counting, keep, Access, line_of_leaf, walked, looked, flat, unhinted, folded, hint_place}
use Rattle.tlb.specs.Model.{noted, tried, hinted, translate, fetch, Counters, Model, empty_model}
use Rattle.tlb.specs.Translate.{tag_in, walked_in, looked_in, miss_in, translation_in, fetch_in}
use Rattle.tlb.specs.declared.{entry.Entry.Entry, Tlb.Tlb, access.Kind.Kind}
use Rattle.tlb.proofs.Refines.{blank-made, line-is, put-live, put-sound, fresh-live, fresh-sound, invalidate-live, invalidate-sound, retag-live}
use Rattle.tlb.proofs.Refines.{retag-sound, broadcast-live, broadcast-sound}
use Rattle.tlb.specs.Runs.{How, how_counted, how_translated, how_fetched, rust_counted, sums, Op, Fair, after_op, answer_of, run, model_after}
use Rattle.tlb.specs.Runs.{model_answer, model_run}

-- the code's test of a flat address is the model's
pub flat-is : (u : ℕ) → flat_answer u ≡ flat u
flat-is u = grind arith

module _ (a : Access) (t : Tlb) (s : WellFormed t) (fits : LeafLevel a.walk) (low : a.privilege.level ≤ 3) where
  abbrev level : ℕ
  level = a.privilege.level

  abbrev entry : Entry
  entry = entry_at t (slot_of (tag_in a))

  hit-live : live (hit_counted level t) ≡ counting (one_hit level) (live t)
  hit-live = λ n. record (live t) { counts = hit-counted t s.levels level low n }

  abbrev after_walk : Tlb
  after_walk = walk_counted level t

  walk-live : live after_walk ≡ counting (one_walk level) (live t)
  walk-live = λ n. record (live t) { counts = walk-counted t s.levels level low n }

  walk-well : WellFormed after_walk
  walk-well = search rules

  -- a leaf's entry is the leaf's line
  abbrev made : Leaf → Entry
  made leaf = entry_for leaf t.asid (tag_in a)

  leaf-line : (leaf : Leaf) → line_in a.regime (made leaf) ≡ line_of_leaf leaf a t.asid
  leaf-line leaf = grind arith

  walk-follows : (w : Walked) → a.walk ≡ w → Follows (walked_in w a t) (walked w a (live t))
  unfolding walked_in walked
  walk-follows (Err code) q = record { answer = refl; after = walk-live; well = walk-well }
  walk-follows (Ok leaf) q =
      record {
        answer = grind (arith, judged-is 0 a.regime (made leaf) a (record { early = omega arith; aligned = omega arith; level = fits leaf q }), leaf-line);
        after = grind (arith, put-live after_walk walk-well a.regime (a.untagged / 4096) (made leaf) refl, leaf-line, walk-live);
        well = search (rules, put-sound, walk-well);
      }

  look-follows : (b : Bool) → Follows (looked_in (if b then Some entry else None) a t) (looked (if b then holds (line_in a.regime entry) else empty) a (live t))
  unfolding looked
  look-follows true = search (rules, judged-is t.generation, each-getD, blank-made, hit-live)
  look-follows false = walk-follows a.walk refl

  pub miss-follows : Follows (miss_in a t) (unhinted a.on a (live t))
  unfolding miss_in get_of unhinted
  miss-follows = grind (arith, line-is, look-follows)

-- A translation gives the plain model's answer, does to it what the requirement says, and keeps the cache well-formed.

-- HINTS

-- the place that the code gives a hint is the model's
pub place_is : (kind : Kind) (va : ℕ) → hint_place kind va ≡ data_slot va kind
unfolding folded place_of
place_is kind va = grind arith

-- TRANSLATIONS

module _ (a : Access) (t : Tlb) (s : WellFormed t) (fits : LeafLevel a.walk) (low : a.privilege.level ≤ 3) where
  by-mark : (m : Bool) → may_hint a.privilege a.kind ≡ m → Follows (translation_in a t) (hinted m a (live t))
  unfolding hinted tried noted hints_of hint_of place_of
  by-mark true q =
      rw (q, place_is a.kind a.va, known_is (hint_at t (data_slot a.va a.kind)) a.va a.privilege.level low)
      (search (rules, arith, on-aligned, each-getD, miss-follows, get_d_set, length-set, each_set))
  by-mark false q = grind (arith, miss-follows)

  -- a translation follows the plain model
  pub translation-follows : Follows (translation_in a t) (translate a (live t))
  unfolding translate
  translation-follows = search (rules, may-is, by-mark)

-- the translation that a fetch begins with follows the plain model
pub fetch-follows : (a : Access) (t : Tlb) → WellFormed t → LeafLevel a.walk → a.privilege.level ≤ 3 → Follows (fetch_in a t) (fetch a (live t))
unfolding fetch fetch_hint_of tried noted
fetch-follows a t s fits low = search (rules, arith, fetch-known-is, miss-follows, on-aligned)

-- What a translation counts, by how it was answered, and how the sums of the levels move.
pub translate-counts : (a : Access) (m : Model) → (translate a m).after.counts ≡ how_counted (how_translated a m) a.privilege.level m.counts
unfolding translate hinted tried noted unhinted looked walked keep
translate-counts a m = search rules

pub fetch-counts : (a : Access) (m : Model) → (fetch a m).after.counts ≡ how_counted (how_fetched a m) a.privilege.level m.counts
unfolding fetch tried noted unhinted looked walked keep
fetch-counts a m = grind arith

-- THE LEVEL OF THE ACCESS, AND NO OTHER

pub counted-others : (how : How) (level : ℕ) (k : Counters) (l : ℕ) → (l ≢ level)
    → ((how_counted how level k).hits l ≡ k.hits l) × ((how_counted how level k).walks l ≡ k.walks l)
counted-others how level k l ne = grind arith

-- the mark decides whose rights are judged, and whether a hint may answer; it does not lower the level that is counted
pub mark-free : (a b : Access) (m : Model) → a.privilege.level ≡ b.privilege.level → how_translated a m ≡ how_translated b m
    → (translate a m).after.counts ≡ (translate b m).after.counts
mark-free a b m same how = grind (arith, translate-counts)

pub sums-move : (how : How) (level : ℕ) (k : Counters) → level ≤ 3 → sums (how_counted how level k) ≡ rust_counted how (sums k)
sums-move how level k low = grind arith

-- Every list of operations on a new cache is seen as the plain model is: Runs.antt.

-- one operation
stepped : (o : Op) (t : Tlb) → WellFormed t → Fair o
    → (live (after_op o t) ≡ model_after o (live t)) × WellFormed (after_op o t) × (answer_of o t ≡ model_answer o (live t))
stepped o t s f =
    grind (arith, invalidate-live, invalidate-sound, retag-live, retag-sound, broadcast-live, broadcast-sound, translation-follows, fetch-follows)

runs-from : (os : List Op) (t : Tlb) → WellFormed t → Each Fair os → run os t ≡ model_run os (live t)
unfolding run model_run
runs-from [] t s fs = refl
runs-from (o ∷ os) t s (more f fs) =
    grind (arith, stepped, runs-from os)

pub runs : (os : List Op) → Each Fair os → run os fresh ≡ model_run os empty_model
runs os fs = grind (arith, runs-from, fresh-sound, fresh-live)
