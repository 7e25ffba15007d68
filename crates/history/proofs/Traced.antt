-- What the cache's plain model has to do with the walks of the past: behind each line stands a walk that no
-- invalidation since covers, and behind each hint such a walk or stage 1 off (`Traced`). Each operation keeps that.
use Rattle.std.proofs.Common.{arith, sym, subst, ◌∙◌, inr, eqb-true}
use Rattle.std.specs.Prelude.{if◌then◌else◌, ◌≡◌, Bool, true, false, List, [], ◌∷◌, ◌⊎◌, ℕ, ◌*◌, ◌/◌, ◌%◌, ◌==◌, ltb, Ok}
use Rattle.std.proofs.Math.Path.{refl}
use Rattle.sysreg.specs.Regs.{regime_of}
use Rattle.walk.specs.declared.{level.Leaf.Leaf}
use Rattle.sysreg.specs.declared.regs.Regime.{Regime}
use Rattle.tlb.specs.Access.{flat_answer}
use Rattle.tlb.specs.Model.{Slot, empty, holds, Line, Known, Counters, Model, empty_model, invalidate, retag}
use Rattle.tlb.specs.Model.{counting, keep, keep_hint, keep_fetch, as_user, need, reach_of}
use Rattle.tlb.specs.declared.{access.Kind.Kind, Inval.Inval}
use Rattle.tlb.specs.declared.access.Kind.TheVariants.{Read, Write, Fetch}
use Rattle.history.specs.World.{World, Laws, covers, page_walk}
use Rattle.history.specs.Theorems.{covered_as_dropped}

-- no fewer walks than the model drops lines, and no more
pub covered-as-dropped : covered_as_dropped
unfolding covers
covered-as-dropped = grind arith

module _ (w : World) where
  -- The history as moments, the last one first: a step begins, on these registers and this RAM; or an invalidation is
  -- carried out.
  pub data Moment : Type 0 where
    at : w.Regs → w.Ram → Moment
    drop : Inval → Moment

  -- The page p of the regime r has the walk ℓ, under the ASID a.
  pub record Walks (R : w.Regs) (m : w.Ram) (r : Regime) (p : ℕ) (ℓ : Leaf) (a : ℕ) : Type 0 where
    pub is-on : w.on R r ≡ true
    pub leaf : page_walk w R m r p ≡ Ok ℓ
    pub under : a ≡ w.asid R

  -- The page had this walk at a step, and no invalidation since covers it.
  abbrev pub Seen : List Moment → Regime → ℕ → Leaf → ℕ → Type 0
  Seen [] r p ℓ a = ⊥
  Seen (at R m ∷ h) r p ℓ a = Walks R m r p ℓ a ⊎ Seen h r p ℓ a
  Seen (drop v ∷ h) r p ℓ a = (covers v p ℓ a ≡ false) × Seen h r p ℓ a

  -- global, or under today's ASID
  abbrev pub Today : w.Regs → Leaf → ℕ → Type 0
  Today R ℓ a = (ℓ.global ≡ true) ⊎ (a ≡ w.asid R)

  -- A line keeps a walk that was seen.
  pub record LineFrom (h : List Moment) (l : Line) : Type 0 where
    pub leaf : Leaf
    pub under : ℕ
    pub seen : Seen h l.regime l.page leaf under
    pub frame : l.frame ≡ leaf.oa / 4096
    pub perms : l.perms ≡ leaf.perms
    pub level : l.level ≡ leaf.level
    pub reach : l.reach ≡ reach_of leaf.global under

  abbrev pub LineOk : List Moment → Slot Line → Type 0
  LineOk h empty = Unit {0}
  LineOk h (holds l) = LineFrom h l

  abbrev pub allows : Leaf → ℕ → Bool
  allows ℓ bit = ℓ.perms / bit % 2 == 1

  -- What a hint for the raw page v at the level el says to an access of the kind, without the mark: the physical
  -- page q.
  pub data HintFrom (h : List Moment) (R : w.Regs) (k : Kind) (v el q : ℕ) : Type 0 where
    flat : w.on R (regime_of el) ≡ false → flat_answer (w.untag R (regime_of el) (v * 4096)) ≡ Ok (q * 4096) → HintFrom h R k v el q
    kept : (ℓ : Leaf) (a : ℕ) → w.on R (regime_of el) ≡ true → Seen h (regime_of el) (w.untag R (regime_of el) (v * 4096) / 4096) ℓ a
        → Today R ℓ a → allows ℓ (need k (as_user (regime_of el) el false k)) ≡ true → q ≡ ℓ.oa / 4096 → HintFrom h R k v el q

  abbrev pub HintOk : List Moment → w.Regs → Kind → Slot Known → Type 0
  HintOk h R k empty = Unit {0}
  HintOk h R k (holds n) = HintFrom h R k n.page n.level n.frame

  -- reads in the first 256 places, writes in the rest
  abbrev pub kind_at : ℕ → Kind
  kind_at i = if ltb i 256 then Read else Write

  pub record Traced (h : List Moment) (R : w.Regs) (m : Model) : Type 0 where
    pub asid-is : m.asid ≡ w.asid R
    pub lines_ok : (i : ℕ) → LineOk h (m.lines i)
    pub hints-ok : (i : ℕ) → HintOk h R (kind_at i) (m.hints i)
    pub fetch-ok : HintOk h R Fetch m.fetch

  pub traced-empty : (R : w.Regs) → w.asid R ≡ 0 → Traced [] R empty_model
  traced-empty R z = record { asid-is = sym z; lines_ok = λ i. tt; hints-ok = λ i. tt; fetch-ok = tt }

  -- A STEP BEGINS: more is seen, and every hint stays so

  seen-hint-from : {h : List Moment} {R : w.Regs} {k : Kind} {v el q : ℕ} (S : w.Regs) (m : w.Ram) → HintFrom h R k v el q
      → HintFrom (at S m ∷ h) R k v el q
  seen-hint-from S m (flat o e) = flat o e
  seen-hint-from S m (kept ℓ a o s d al e) = kept ℓ a o (inr s) d al e

  seen-hint : (h : List Moment) (R S : w.Regs) (m : w.Ram) (k : Kind) (n : Slot Known) → HintOk h R k n → HintOk (at S m ∷ h) R k n
  seen-hint h R S m k empty o = tt
  seen-hint h R S m k (holds n) o = seen-hint-from S m o

  pub traced-at : {h : List Moment} {R : w.Regs} {t : Model} (m : w.Ram) → Traced h R t → Traced (at R m ∷ h) R t
  traced-at {h} {R} {t} m s = grind (arith, seen-hint)

  -- INVALIDATION: what it spares, it does not cover

  -- the registers may have become S, of the same ASID
  pub traced-invalidate : {h : List Moment} {R : w.Regs} {t : Model} (v : Inval) (S : w.Regs) → t.asid ≡ w.asid S → Traced h R t
      → Traced (drop v ∷ h) S (invalidate v t)
  unfolding invalidate covers
  traced-invalidate {h} {t} v S e s = grind arith

  -- REGISTERS BECOME S

  pub traced-retag : {h : List Moment} {R : w.Regs} {t : Model} (S : w.Regs) → Traced h R t → Traced h S (retag (w.asid S) t)
  unfolding retag
  traced-retag S s = record { asid-is = refl; lines_ok = s.lines_ok; hints-ok = λ i. tt; fetch-ok = tt }

  -- where shape and ASID stay, every hint stays so
  module _ (laws : Laws w) (R S : w.Regs) (shape : w.same-shape R S ≡ true) (asids : w.asid R ≡ w.asid S) where
    today-kept : (ℓ : Leaf) (a : ℕ) → Today R ℓ a → Today S ℓ a
    today-kept ℓ a h1 = grind arith

    hint-from-kept : {h : List Moment} {k : Kind} {v el q : ℕ} → HintFrom h R k v el q → HintFrom h S k v el q
    hint-from-kept {v} {el} (flat o e) = grind (arith)
    hint-from-kept {h} {v} {el} (kept ℓ a o s d al e) =
        kept ℓ a (sym (laws.shape_on R S shape (regime_of el)) ∙ o)
        (subst (λ (u : ℕ). Seen h (regime_of el) (u / 4096) ℓ a) (laws.shape-untag R S shape (regime_of el) (v * 4096)) s)
        (today-kept ℓ a d) al e

    hint-kept : (h : List Moment) (k : Kind) (n : Slot Known) → HintOk h R k n → HintOk h S k n
    hint-kept h k empty o = tt
    hint-kept h k (holds n) o = hint-from-kept o

    pub traced-kept : {h : List Moment} {t : Model} → Traced h R t → Traced h S t
    traced-kept {h} {t} s = grind (arith, hint-kept)

  -- WHAT A TRANSLATION LEAVES: a line, a hint, the fetch hint, other counters

  pub traced-counting : {h : List Moment} {R : w.Regs} {t : Model} (f : Counters → Counters) → Traced h R t → Traced h R (counting f t)
  traced-counting f s = record { asid-is = s.asid-is; lines_ok = s.lines_ok; hints-ok = s.hints-ok; fetch-ok = s.fetch-ok }

  pub traced-keep : {h : List Moment} {R : w.Regs} {t : Model} (l : Line) → LineFrom h l → Traced h R t → Traced h R (keep l t)
  unfolding keep
  traced-keep {h} {t} l o s = grind arith

  pub traced-hint : {h : List Moment} {R : w.Regs} {t : Model} (place : ℕ) (n : Known) → HintFrom h R (kind_at place) n.page n.level n.frame
      → Traced h R t → Traced h R (keep_hint place n t)
  traced-hint {h} {R} {t} place n o s =
      record {
        asid-is = s.asid-is;
        lines_ok = s.lines_ok;
        hints-ok = λ i. put i (i == place) refl;
        fetch-ok = s.fetch-ok;
      }
    where
      put : (i : ℕ) (b : Bool) → (i == place) ≡ b → HintOk h R (kind_at i) (if b then holds n else t.hints i)
      put i true e = subst (λ (j : ℕ). HintFrom h R (kind_at j) n.page n.level n.frame) (sym (eqb-true i place e)) o
      put i false e = s.hints-ok i

  pub traced-fetch-hint : {h : List Moment} {R : w.Regs} {t : Model} (n : Known) → HintFrom h R Fetch n.page n.level n.frame
      → Traced h R t → Traced h R (keep_fetch n t)
  traced-fetch-hint n o s = record { asid-is = s.asid-is; lines_ok = s.lines_ok; hints-ok = s.hints-ok; fetch-ok = o }
