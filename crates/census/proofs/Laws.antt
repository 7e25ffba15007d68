-- Laws of counting: how many of some numbers, sums of places, one more.
use Rattle.std.specs.Prelude.{◌≡◌, ℕ, zero, suc, ◌+◌, ◌<◌, ◌≤◌, Bool, true, false, set, ◌==◌, ◌≢◌, nat_eq, slice_index, slice_set, ◌*◌, ◌/◌, not}
use Rattle.std.specs.Prelude.{Option, Ok, Err}
use Rattle.std.proofs.Math.Path.{refl, sym, ap}
use Rattle.std.proofs.Common.{ap₂, ◌∙◌, not-suc-le-zero, le_of_suc-le-suc, arith, ⊎_elim, ne_eqb, rules, ◌-◌, ◌%◌, ◌^◌, List, get_or, add-one}
use Rattle.std.proofs.lemmas.Grind.{common_steps}
use Rattle.word.specs.Bits.{flag, wrap}
use Rattle.word.specs.Tables.{table, table_at, table_same, table-set}
use Rattle.walk.specs.WalkBounds.{SoundFresh}
use Rattle.walk.specs.Walk.{walk_of, fresh_of}
use Rattle.walk.proofs.WalkBounds.{flat-is, answer-sound, status-small, is-sound}
use Rattle.walk.specs.declared.{regime.Bank.Bank, fresh.Fresh.Fresh, rights.Permissions.Permissions}
use Rattle.sysreg.specs.declared.regs.Regime.{Regime}
use Rattle.walk.specs.Permission.{permission_byte}
use Rattle.walk.specs.declared.fresh.Fresh.TheVariants.{Flat, Ended}
use Rattle.walk.specs.Answers.{Walked}
use Rattle.census.specs.Count.{how_many, total, named, tally, place_of, page_at, census_of, faults_with, end_at}
use Rattle.census.specs.Count.{census_count, place_at}
use Rattle.census.specs.Cases.{among, possible}
use borrow.Author.Tests.{eqb-true, eq-eqb}

pub many-le : (p : ℕ → Bool) (n : ℕ) → how_many p n ≤ n
unfolding how_many
many-le p zero = omega arith
many-le p (suc n) = grind (arith, many-le p n)

-- alike at every number
pub many-same : (p q : ℕ → Bool) (n : ℕ) → ((i : ℕ) → p i ≡ q i) → how_many p n ≡ how_many q n
unfolding how_many
many-same p q n h = grind arith

pub many-none : (p : ℕ → Bool) (n : ℕ) → ((i : ℕ) → p i ≡ false) → how_many p n ≡ 0
unfolding how_many
many-none p zero h = refl
many-none p (suc n) h = grind (arith, many-none p n)

-- those below n, and those of the next m
pub many-joins : (p : ℕ → Bool) (n m : ℕ) → how_many p (n + m) ≡ how_many p n + how_many (λ i. p (n + i)) m
unfolding how_many
many-joins p n zero = grind arith
many-joins p n (suc m) = let e : n + suc m ≡ suc (n + m) = omega arith in rw e (grind (arith, many-joins p n m))

-- SUMS

total-join : (m : ℕ) (f g : ℕ → ℕ) → total (table m (λ j. f j + g j)) ≡ total (table m f) + total (table m g)
unfolding total table
total-join zero f g = refl
total-join (suc m) f g = grind (arith, total-join m (λ j. f (suc j)) (λ j. g (suc j)))

total-none : (m : ℕ) → total (table m (λ j. 0)) ≡ 0
unfolding total table
total-none zero = refl
total-none (suc m) = grind (arith, total-none m)

-- a test of two numbers is that of both moved up alike
pub shift-eqb : (k a b : ℕ) → (k + a == k + b) ≡ (a == b)
shift-eqb k a b = grind arith

total-one : (m k : ℕ) → k < m → total (table m (λ j. flag (k == j) 1)) ≡ 1
unfolding total table
total-one zero k h = absurd (not-suc-le-zero h)
total-one (suc m) zero h =
    let e = table_same m (λ j. flag (0 == suc j) 1) (λ j. 0) (λ j less. grind arith) in
    grind (arith, total-none m)
total-one (suc m) (suc k) h =
    let e = table_same m (λ j. flag (suc k == suc j) 1) (λ j. flag (k == j) 1) (λ j less. grind arith) in
    grind (arith, total-one m k)

-- every number below n has one place
pub adds-up : (m : ℕ) (place : ℕ → ℕ) (n : ℕ) → ((i : ℕ) → place i < m) → total (tally m place n) ≡ n
unfolding how_many
adds-up m place zero h = total-none m
adds-up m place (suc n) h = grind (arith, total-join m (named place n) (λ j. flag (place n == j) 1), adds-up m place n, total-one m (place n))

-- ONE MORE

module _ (m : ℕ) (place : ℕ → ℕ) where
  pub at_place : (n j : ℕ) → j < m → slice_index (tally m place n) j ≡ named place n j
  at_place n j h = table_at m (named place n) j 0 h

  pub at_most : (n j : ℕ) → j < m → slice_index (tally m place n) j ≤ n
  at_most n j h = rw (at_place n j h) (many-le (λ i. nat_eq (place i) j) n)

  pub one_more : (n : ℕ) → place n < m
      → slice_set (tally m place n) (place n) (slice_index (tally m place n) (place n) + 1) ≡ tally m place (suc n)
  unfolding how_many
  one_more n h =
      ap (set (tally m place n) (place n)) (ap (λ (k : ℕ). k + 1) (at_place n (place n) h) ∙ ap (λ (b : Bool). named place n (place n) + flag b 1) (sym same))
      ∙ sym (table-set m (named place n) (named place (suc n)) (place n) h others)
    where
      same : nat_eq (place n) (place n) ≡ true
      same = eq-eqb (place n) (place n) refl

      others : (j : ℕ) → j < m → (j ≢ place n) → named place (suc n) j ≡ named place n j
      others j less ne = grind (arith, ne_eqb)

-- Each place of a census counts what its name says, every page is counted once, and adjoining ranges add up.

-- each number is of one of two kinds
pub many-either : (p q : ℕ → Bool) (n : ℕ) → ((i : ℕ) → q i ≡ not (p i)) → how_many p n + how_many q n ≡ n
unfolding how_many
many-either p q zero h = refl
many-either p q (suc n) h = grind (arith, many-either p q n)

module _ (s : Bank) (r : Regime) (memory : ℕ → Option ℕ) (first : ℕ) where
  pub sound-at : (i : ℕ) → SoundFresh (end_at s r memory first i)
  sound-at i = answer-sound s r (page_at first i) memory

  pub count_at : (pages j : ℕ) → j < 129 → census_count s r memory first pages j ≡ how_many (λ i. nat_eq (place_of (end_at s r memory first i)) j) pages
  unfolding census_of
  count_at pages j h = at_place 129 (λ i. place_of (end_at s r memory first i)) pages j h

  -- each place is the number of pages that a fresh walk ends so
  pub status-count : (pages status : ℕ) → status < 64 → census_count s r memory first pages status ≡ how_many (λ i. faults_with status (end_at s r memory first i)) pages
  status-count pages status h = grind (arith, count_at, many-same, sound-at, ne_eqb)

  -- all counts together are the range
  pub all-counted : (pages : ℕ) → total (census_of s r memory first pages) ≡ pages
  unfolding census_of
  all-counted pages = adds-up 129 (λ i. place_of (end_at s r memory first i)) pages (λ i. grind (arith, sound-at))

pub joins : (s : Bank) (r : Regime) (memory : ℕ → Option ℕ) (first n m next j : ℕ) → next ≡ wrap (first + n * 4096) → j < 129
    → census_count s r memory first (n + m) j ≡ census_count s r memory first n j + census_count s r memory next m j
joins s r memory first n m next j e h = grind (arith, count_at, many-joins, many-same)

-- the low twelve bits of the first address are dropped
pub low_bits : (s : Bank) (r : Regime) (memory : ℕ → Option ℕ) (first other pages : ℕ) → first / 4096 ≡ other / 4096
    → census_of s r memory first pages ≡ census_of s r memory other pages
unfolding census_of
low_bits s r memory first other pages e = rw e

-- A leaf has one of the fourteen permission bytes, and no page is counted under another.

-- the permission byte of each AP[2], AP[1], XN and PXN, by singlepriv and WXN
fits : Bool → Bool → Bool → Bool → Bool → Bool → Bool
fits singlepriv wxn ap2 ap1 xn pxn = among (permission_byte singlepriv wxn (record { ap2 = ap2; ap1 = ap1; xn = xn; pxn = pxn })) possible

pub permission-possible : (singlepriv wxn : Bool) (t : Permissions) → among (permission_byte singlepriv wxn t) possible ≡ true
unfolding fits
permission-possible singlepriv wxn t = grind (arith, common_steps)

abbrev pub Possible : Walked → Type 0
Possible (Ok leaf) = among leaf.perms possible ≡ true
Possible (Err n) = Unit {0}

-- what is not among them no page is counted under
pub among_same : (p n : ℕ) → among p possible ≡ true → among n possible ≡ false → (p == n) ≡ false
among_same p n h k = search rules

abbrev pub PossibleFresh : Fresh → Type 0
PossibleFresh (Ended w) = Possible w
PossibleFresh (Flat pa) = Unit {0}

pub fresh-possible : (s : Bank) (r : Regime) (va : ℕ) (memory : ℕ → Option ℕ) → PossibleFresh (fresh_of s r va memory)
unfolding fresh_of walk_of
fresh-possible s r va memory = grind (arith, permission-possible)

-- One page more, on plain values.

-- the address of the i-th page, as the code finds it
pub page_is : (first start i below page : ℕ) → first < 2 ^ 64 → start ≡ first - first % 4096 → below ≡ wrap (i * 4096) → page ≡ wrap (start + below)
    → page ≡ page_at first i
page_is first start i below page h es eb ep = omega arith

module _ (s : Bank) (r : Regime) (memory : ℕ → Option ℕ) (first i : ℕ) (counts : List ℕ) (e : counts ≡ census_of s r memory first i) (at : ℕ)
    (small : at < 129) where
  pub one-fits : get_or counts at 0 ≤ i
  unfolding census_of
  one-fits = rw e (at_most 129 (λ k. place_at s r memory (page_at first k)) i at small)

  pub page-more : (page : ℕ) → page ≡ page_at first i → at ≡ place_at s r memory page
      → set counts at (get_or counts at 0 + 1) ≡ census_of s r memory first (i + 1)
  unfolding census_of
  page-more page ep ea = rw (e, there, add-one i) (one_more 129 (λ k. place_at s r memory (page_at first k)) i (rw there at small))
    where
      there : at ≡ place_at s r memory (page_at first i)
      there = ea ∙ ap (place_at s r memory) ep

pub all-pages : (s : Bank) (r : Regime) (memory : ℕ → Option ℕ) (first i pages : ℕ) (counts : List ℕ) → counts ≡ census_of s r memory first i → i ≤ pages → pages ≤ i
    → counts ≡ census_of s r memory first pages
all-pages s r memory first i pages counts e h k = grind arith

pub ruleset pages = (page_is, one-fits, page-more, all-pages)

-- what the place of a fresh answer asks
pub ruleset sound = (is-sound)

-- how each page ends, by its place
pub ruleset counts = (count_at, many-same, sound-at, status-small, ne_eqb, shift-eqb)

-- and which places stay 0
pub ruleset none = (counts, many-none)
