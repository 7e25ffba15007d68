-- What holds of each element, an element after a store, a turn of a loop that maps every element. No list is unfolded.
use Rattle.std.proofs.Common.{rules, arith, sym, ◌∙◌, ext_get_or}
use Rattle.std.proofs.lemmas.Grind.{common_steps}
use Rattle.std.specs.Prelude.{if◌then◌else◌, ◌≡◌, ℕ, zero, suc, ◌+◌, ◌<◌, List, map, length, replicate, ◌==◌, slice_index_or, slice_set, ◌*◌, ◌/◌}
use Rattle.std.specs.Prelude.{◌%◌, ◌^◌, ◌≤◌, Bool, ◌&&◌, bit_or, Some, Ok, Option, take, drop, ◌++◌}
use Rattle.std.proofs.Math.Dec.{eqb-suc-zero}
use Rattle.std.proofs.lemmas.Nat.{or_shifted}
use Rattle.std.proofs.lemmas.List.Edits.{map_over_more}
use Rattle.std.proofs.Math.Bool.{and-true, and-false}
use Rattle.sysreg.specs.declared.regs.Regime.{Regime}
use Rattle.sysreg.specs.Regs.{index_of}
use Rattle.walk.proofs.WalkBounds.{flat-below, flat-above, flat-is, flat-small}
use Rattle.walk.specs.declared.level.Leaf.{Leaf}
use Rattle.walk.specs.Walk.{flat_by}
use Rattle.walk.specs.Regime.{untagged}
use Rattle.tlb.specs.Live.{Each, done, more, line_in, line_of, hint_of, fetch_hint_of, Made, counters_of}
use Rattle.tlb.specs.Tlb.{serves, page_dropped, asid_dropped, on_page, hint_key, fetch_serves, entry_for, no_tally, hit_counted, walk_counted}
use Rattle.tlb.specs.Access.{may_hint, user_of, judged, flat_answer}
use Rattle.tlb.specs.Model.{serving, Slot, empty, holds, Line, uncovered, knowing, Access, judge, hintable, need, one_hit, one_walk}
use Rattle.tlb.specs.declared.{entry.Entry.Entry, access.Kind.Kind, hint.Hint.Hint, Tlb.Tlb, hint.FetchHint.FetchHint, access.Privilege.Privilege}
use Rattle.tlb.specs.declared.Inval.TheVariants.{All, Page, Asid}
use Rattle.tlb.specs.Translate.{leaf_answer}

module _ {A : Type 0} where
  pub each_map : {P Q : A → Type 0} (g : A → A) {l : List A} → ((a : A) → P a → Q (g a)) → Each P l → Each Q (map g l)
  each_map g f done = done
  each_map g f (more {a} p ps) = more (f a p) (each_map g f ps)

  pub each-imp : {P Q : A → Type 0} {l : List A} → ((a : A) → P a → Q a) → Each P l → Each Q l
  each-imp f done = done
  each-imp f (more {a} p ps) = more (f a p) (each-imp f ps)

  pub each_set : {P : A → Type 0} {l : List A} (x : A) → P x → Each P l → (i : ℕ) → Each P (slice_set l i x)
  each_set x px done i = done
  each_set x px (more p ps) zero = more px ps
  each_set x px (more p ps) (suc i) = more p (each_set x px ps i)

  pub each-getD : {P : A → Type 0} {l : List A} (d : A) → P d → Each P l → (i : ℕ) → P (slice_index_or l i d)
  each-getD d pd done i = pd
  each-getD d pd (more p ps) zero = p
  each-getD d pd (more p ps) (suc i) = each-getD d pd ps i

  pub each-replicate : (P : A → Type 0) (x : A) → P x → (n : ℕ) → Each P (replicate n x)
  each-replicate P x px zero = done
  each-replicate P x px (suc n) = more px (each-replicate P x px n)

  -- n times x, read anywhere with x for what lies outside
  pub replicate-at : (x : A) (n i : ℕ) → slice_index_or (replicate n x) i x ≡ x
  replicate-at x n i = grind (arith, common_steps)

  -- the element at n after a store at j
  pub get_d_set : (l : List A) (j n : ℕ) (x d : A) → j < length l → slice_index_or (slice_set l j x) n d ≡ (if n == j then x else slice_index_or l n d)
  get_d_set l j n x d h = search rules

  -- a turn of a loop that puts g of each element in its place
  pub sweep : (g : A → A) (l out : List A) (i : ℕ) (d e : A) → i < length l → out ≡ map g (take i l) ++ drop i l → e ≡ g (slice_index_or out i d)
      → slice_set out i e ≡ map g (take (i + 1) l) ++ drop (i + 1) l
  sweep g l out i d e h o x = rw x (map_over_more g l out i _ h o (grind (arith, common_steps)))

-- One entry and one hint against the line and the hint that they stand for.
-- a number made of two parts is compared by its parts
pub both-parts : (m k v l : ℕ) → 0 < m → l < m → (k == v * m + l) ≡ (k / m == v) && k % m == l
both-parts m k v l pos h = grind (arith, common_steps) steps 1000000

pub regime-low : (r : Regime) → index_of r < 4
regime-low r = grind arith

-- LINES

-- an entry serves a tag just where its line serves the page and the regime
pub found : (t : Tlb) (r : Regime) (p : ℕ) (e : Entry)
    → serving t.asid r p (line_of t.generation e)
    ≡ (if serves e t (p * 4 + index_of r) then holds (line_in r e) else empty)
unfolding line_of
found t r p e = search (rules, both-parts, regime-low, and-true, and-false)

-- an entry of the present generation with a regime's tag is a line
pub line_made : (g p : ℕ) (r : Regime) (e : Entry) → e.generation ≡ g → e.tag ≡ p * 4 + index_of r
    → line_of g e ≡ holds (line_in r e)
unfolding line_of
line_made g p r e q t = grind arith

-- where the physical page is aligned, its address and the low bits add up; so do the fault's code and a level
pub or-page : (pa va : ℕ) → pa % 4096 ≡ 0 → on_page pa va ≡ pa + va % 4096
or-page pa va q = grind (arith, or_shifted (pa / 4096) 12 (va % 4096))

pub on-aligned : (pa va : ℕ) → pa % 4096 ≡ 0 → on_page pa va ≡ pa / 4096 * 4096 + va % 4096
on-aligned pa va q = or-page pa va q ∙ omega arith

pub or-level : (l : ℕ) → l ≤ 3 → bit_or 12 l ≡ 12 + l
or-level l h = grind (arith, or_shifted 3 2)

pub may-is : (privilege : Privilege) (k : Kind) → may_hint privilege k ≡ hintable k privilege.unprivileged
may-is privilege k = grind arith

pub judged-is : (g : ℕ) (r : Regime) (e : Entry) (a : Access) → Made g e
    → judged e (user_of a.regime a.privilege a.kind) a.kind a.va ≡ judge (line_in r e) a
unfolding judged judge
judged-is g r e a m = search (rules, on-aligned, or-level, eqb-suc-zero, and-true, and-false)

-- DROPS

pub page-drops : (g page : ℕ) (e : Entry) → line_of g (page_dropped g page e) ≡ uncovered (Page page) (line_of g e)
unfolding page_dropped line_of
page-drops g page e = grind arith

pub asid-drops : (g asid : ℕ) (e : Entry) → line_of g (asid_dropped asid e) ≡ uncovered (Asid asid) (line_of g e)
unfolding asid_dropped line_of
asid-drops g asid e = grind arith

-- a flush: no entry that is there is of the next generation
pub all-covered : (s : Slot Line) → uncovered All s ≡ empty
all-covered s = grind arith

pub flush-drops : (g : ℕ) (e : Entry) → e.generation ≤ g → line_of (g + 1) e ≡ empty
unfolding line_of
flush-drops g e h = grind arith

-- HINTS

pub known_is : (h : Hint) (va level : ℕ) → level ≤ 3
    → knowing (va / 4096) level (hint_of h) ≡ (if h.key == hint_key va level then holds (h.pa / 4096) else empty)
unfolding hint_of
known_is h va level low = grind arith

pub fetch-known-is : (f : FetchHint) (va level : ℕ) → f.page % 4096 ≡ 0
    → knowing (va / 4096) level (fetch_hint_of (Some f)) ≡ (if fetch_serves f level va then holds (f.pa / 4096) else empty)
unfolding fetch_hint_of
fetch-known-is f va level q = grind arith

-- A leaf as the code judges it.

-- the entry that a leaf becomes is judged as the leaf
pub judged-leaf : (ℓ : Leaf) (asid tag : ℕ) (user : Bool) (k : Kind) (va : ℕ) → ℓ.level ≤ 3
    → judged (entry_for ℓ asid tag) user k va ≡ leaf_answer ℓ (need k user) va
unfolding judged
judged-leaf ℓ asid tag user k va h = search (rules, on-aligned, or-level, eqb-suc-zero, and-true, and-false)

-- The counters of the four levels: what a hit and a walk at a level do to each, as the plain model tells it.

-- the model's counters tell the cache's own
pub counters-tell : (t u : Tlb) (flushes drops epoch : ℕ) → length t.levels ≡ 4 → length u.levels ≡ 4
    → counters_of t ≡ record (counters_of u) { flushes = flushes; drops = drops; epoch = epoch }
    → (t.levels ≡ u.levels) × (t.flushes ≡ flushes) × (t.drops ≡ drops) × (t.epoch ≡ epoch)
counters-tell t u flushes drops epoch long also e = (
  ext_get_or no_tally t.levels u.levels (long ∙ sym also) (λ l h i. record { hits = (e i).hits l; walks = (e i).walks l }),
  (λ i. (e i).flushes),
  (λ i. (e i).drops),
  λ i. (e i).epoch,
)

module _ (t : Tlb) (long : length t.levels ≡ 4) (level : ℕ) (low : level ≤ 3) where
  pub hit-counted : counters_of (hit_counted level t) ≡ one_hit level (counters_of t)
  hit-counted = search rules

  pub walk-counted : counters_of (walk_counted level t) ≡ one_walk level (counters_of t)
  walk-counted = search rules

-- Laws of an answer with stage 1 off.
pub flat-fits : (u : ℕ) → u < 2 ^ 44 → flat_answer u ≡ Ok u
flat-fits u h = grind arith

-- an address is given to itself alone, and not from 2^44 on
pub flat-given : (u pa : ℕ) → flat_answer u ≡ Ok pa → (u ≡ pa) × (u < 2 ^ 44)
flat-given u pa = grind arith

-- an address that is small as it stands has no tag
pub flat_raw : (tcr : ℕ) (r : Regime) (va pa : ℕ) (x : Option ℕ) → va < 2 ^ 64 → x ≡ flat_by va → x ≡ Some pa → flat_answer (untagged tcr r va) ≡ Ok pa
flat_raw tcr r va pa x h e f = let n = flat-is tcr r va h in grind (arith, flat-small, flat-below, flat-above)
