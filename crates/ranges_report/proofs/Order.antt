-- Ranges in their order, when one is added.
use Rattle.std.specs.Prelude.{◌≡◌, ℕ, ◌+◌, ◌≤◌, List, [], ◌∷◌, ◌++◌, length}
use Rattle.std.proofs.Common.{arith}
use Rattle.ranges_report.specs.Place.{Joins, ApartFrom, Ordered}
use Rattle.ranges_report.specs.declared.map.Mapped.{Mapped}

pub ordered-none : (end : ℕ) → Ordered end []
unfolding Ordered
ordered-none end = tt

-- below an end, and so below a later one
pub ordered-later : (end later : ℕ) → end ≤ later → (l : List Mapped) → Ordered end l → Ordered later l
unfolding Ordered
ordered-later end later h [] o = tt
ordered-later end later h (m ∷ l) o = (o.0, omega (arith, o.1), o.2, ordered-later end later h l o.3)

pub ordered-first : (m : Mapped) → m.first ≤ m.last → (l : List Mapped) → length l ≡ 0 → Ordered (m.last + 1) (l ++ m ∷ [])
unfolding Ordered
ordered-first m h [] e = (h, omega arith, tt, tt)
ordered-first m h (k ∷ l) e = absurd (omega arith)

module _ (m next : Mapped) (some : next.first ≤ next.last) where
  apart-more : (k : Mapped) (l : List Mapped) → ApartFrom k (l ++ m ∷ []) → ApartFrom k ((l ++ m ∷ []) ++ next ∷ [])
  apart-more k [] a = a
  apart-more k (j ∷ l) a = a

  -- one that does not join the last
  pub ordered-push : (Joins m next → ⊥) → (l : List Mapped) → Ordered next.first (l ++ m ∷ []) → Ordered (next.last + 1) ((l ++ m ∷ []) ++ next ∷ [])
  unfolding Ordered
  ordered-push n [] o = (o.0, omega (arith, o.1), (o.1, n), (some, omega arith, tt, tt))
  ordered-push n (k ∷ l) o = (o.0, omega (arith, o.1), apart-more k l o.2, ordered-push n l o.3)

  abbrev joined : Mapped
  joined = record m { last = next.last }

  apart-joined : (k : Mapped) (l : List Mapped) → ApartFrom k (l ++ m ∷ []) → ApartFrom k (l ++ joined ∷ [])
  apart-joined k [] a = (a.0, λ j. a.1 (record { some = j.some; follows = j.follows; goes_on = j.goes_on; alike = j.alike }))
  apart-joined k (j ∷ l) a = a

  -- one that does
  pub ordered-join : (l : List Mapped) → Ordered next.first (l ++ m ∷ []) → Ordered (next.last + 1) (l ++ joined ∷ [])
  unfolding Ordered
  ordered-join [] o = (omega (arith, o.0, o.1), omega arith, tt, tt)
  ordered-join (k ∷ l) o = (o.0, omega (arith, o.1), apart-joined k l o.2, ordered-join l o.3)
