-- Faithfulness, proved for every registers and walk that keep `Laws`.
use Rattle.std.proofs.Common.{rules, arith, sym, ap, ◌∙◌, inl, inr}
use Rattle.std.specs.Prelude.{if◌then◌else◌, ◌≡◌, Bool, List, [], ◌∷◌, ◌++◌, ◌⊎◌, ℕ, ◌≤◌, ◌==◌, Ok, Err}
use Rattle.std.proofs.Math.Path.{refl}
use Rattle.std.proofs.Math.Bool.{true, false}
use borrow.Author.Tests.{eqb-true}
use Rattle.walk.specs.declared.{level.Leaf.Leaf}
use Rattle.sysreg.specs.declared.regs.Regime.{Regime}
use Rattle.tlb.specs.Live.{Each, done, more, WellFormed}
use Rattle.tlb.specs.Tlb.{fresh}
use Rattle.tlb.specs.Model.{Model, empty_model, invalidate, retag, broadcast}
use Rattle.tlb.specs.Asks.{Ask, translates, fetches, kind_of, address_of, onward}
use Rattle.tlb.specs.declared.access.Kind.TheVariants.{Fetch}
use Rattle.tlb.specs.declared.Inval.{Inval}
use Rattle.tlb.specs.Answers.{Answer}
use Rattle.tlb.specs.declared.Inval.TheVariants.{All}
use Rattle.history.proofs.Lists.{each_append}
use Rattle.history.specs.World.{World, Laws, LeavesEqual, covers, Plain, page_walk}
use Rattle.history.specs.History.{Effect, nothing, carries, writes, sets, Step, Event, steps, receives, after, after_event, plain_run, drops}
use Rattle.history.specs.History.{drops_event, drops_run, tlb_run, Settled, FaithfulAnswer, EveryHistoryFaithful}
use Rattle.history.specs.ModelRun.{model_ask, model_answers, model_asks, model_flushed, model_retagged, model_after, model_event, model_run}
use Rattle.history.proofs.ModelLaws.{run-stands, fresh-stands, history-model, history-answers}
use Rattle.history.proofs.Traced.{Moment, at, drop, Walks, Seen, Traced, traced-empty, traced-at, traced-invalidate, traced-retag, traced-kept}
use Rattle.history.proofs.Right.{Agreed, answered-right, Done, translate-done, fetch-done}

module _ (w : World) (laws : Laws w) where
  -- A HISTORY AS MOMENTS, the last one first: a step's start, then its invalidations

  abbrev pub pushed : List Inval → List (Moment w) → List (Moment w)
  pushed [] h = h
  pushed (v ∷ vs) h = pushed vs (drop v ∷ h)

  abbrev pub started : Event w → Plain w → List (Moment w) → List (Moment w)
  started (steps m s) c h = at c.regs m ∷ h
  started (receives v) c h = h

  abbrev pub moments : Plain w → List (Event w) → List (Moment w) → List (Moment w)
  moments c [] h = h
  moments c (x ∷ xs) h = moments (after_event w x c) xs (pushed (drops_event w x c) (started x c h))

  -- THE MODEL IS TRACED through a step's translations, its effect, a history

  -- one translation
  pub ask-done : (h : List (Moment w)) (c : Plain w) (m : w.Ram) (u : Model) → Traced w (at c.regs m ∷ h) c.regs u
      → (a : Ask) → Done w laws (at c.regs m ∷ h) c m (kind_of a) (address_of a) (model_ask w c m a u)
  ask-done h c m u s (translates k va) = translate-done w laws h c m k va u s
  ask-done h c m u s (fetches va) = fetch-done w laws h c m Fetch va u s refl

  asks-traced : (h : List (Moment w)) (c : Plain w) (m : w.Ram) (l : List Ask) (u : Model) → Traced w (at c.regs m ∷ h) c.regs u
      → Traced w (at c.regs m ∷ h) c.regs (model_asks w c m l u)
  asks-traced h c m [] u s = s
  asks-traced h c m (a ∷ l) u s = let d = ask-done h c m u s a in grind (arith, asks-traced h c m l (model_ask w c m a u).after)

  -- what is left pending for others is no part of what a translation reads
  broadcast-traced : {h : List (Moment w)} {R : w.Regs} {u : Model} (v : Inval) → Traced w h R u → Traced w h R (broadcast v u)
  unfolding broadcast
  broadcast-traced v s = record { asid-is = s.asid-is; lines_ok = s.lines_ok; hints-ok = s.hints-ok; fetch-ok = s.fetch-ok }

  write-traced : {h : List (Moment w)} {R : w.Regs} {u : Model} (S : w.Regs) → Traced w h R u
      → Traced w (pushed (if w.same-shape R S then [] else All ∷ []) h) S (model_retagged w (w.asid S) (model_flushed w R S u))
  unfolding model_retagged model_flushed invalidate
  write-traced {h} {R} {u} S s = shape (w.same-shape R S) refl
    where
      same : (d : Bool) → w.same-shape R S ≡ true → (u.asid == w.asid S) ≡ d → Traced w h S (if d then u else retag (w.asid S) u)
      same false x y = traced-retag w S s
      same true x y = traced-kept w laws R S x (sym s.asid-is ∙ eqb-true _ _ y) s

      other : (d : Bool) → (u.asid == w.asid S) ≡ d
          → Traced w (drop All ∷ h) S (if d then invalidate All u else retag (w.asid S) (invalidate All u))
      other false y = traced-retag w S (traced-invalidate w All R s.asid-is s)
      other true y = traced-invalidate w All S (eqb-true _ _ y) s

      shape : (b : Bool) → w.same-shape R S ≡ b
          → Traced w (pushed (if b then [] else All ∷ []) h) S
          (if (if b then u else invalidate All u).asid == w.asid S then if b then u else invalidate All u else retag (w.asid S) (if b then u else invalidate All u))
      shape true x = same _ x refl
      shape false x = other _ refl

  effect-traced : (h : List (Moment w)) (c : Plain w) (e : Effect w) (u : Model) → Traced w h c.regs u
      → Traced w (pushed (drops w e c) h) (after w e c).regs (model_after w e c u)
  effect-traced h c nothing u s = s
  effect-traced h c (carries v true) u s = broadcast-traced v (traced-invalidate w v c.regs s.asid-is s)
  effect-traced h c (carries v false) u s = traced-invalidate w v c.regs s.asid-is s
  effect-traced h c (sets privilege low) u s = s
  effect-traced h c (writes R) u s = write-traced R s

  event-traced : (x : Event w) (c : Plain w) (u : Model) (h : List (Moment w)) → Traced w h c.regs u
      → Traced w (pushed (drops_event w x c) (started x c h)) (after_event w x c).regs (model_event w x c u)
  event-traced (steps m e) c u h s = effect-traced (at c.regs m ∷ h) c e.effect _ (asks-traced h c m e.asks u (traced-at w m s))
  event-traced (receives v) c u h s = traced-invalidate w v c.regs s.asid-is s

  run-traced : (past : List (Event w)) (c : Plain w) (u : Model) (h : List (Moment w)) → Traced w h c.regs u
      → Traced w (moments c past h) (plain_run w c past).regs (model_run w c past u)
  run-traced [] c u h s = s
  run-traced (x ∷ xs) c u h s = run-traced xs (after_event w x c) _ _ (event-traced x c u h s)

  -- WHAT THE MOMENTS SHOW was a step of the history

  abbrev pub Uncovered : ℕ → Leaf → ℕ → List Inval → Type 0
  Uncovered p ℓ a vs = Each (λ v. covers v p ℓ a ≡ false) vs

  pub record Found (c : Plain w) (past : List (Event w)) (r : Regime) (p : ℕ) (ℓ : Leaf) (a : ℕ) : Type 0 where
    pub before : List (Event w)
    pub ram : w.Ram
    pub step : Step w
    pub later : List (Event w)
    pub split : past ≡ before ++ steps ram step ∷ later
    pub walks : Walks w (plain_run w c before).regs ram r p ℓ a
    pub spared : Uncovered p ℓ a (drops_run w (plain_run w c before) (steps ram step ∷ later))

  unpushed : (r : Regime) (p : ℕ) (ℓ : Leaf) (a : ℕ) (vs : List Inval) (h : List (Moment w)) → Seen w (pushed vs h) r p ℓ a
      → Uncovered p ℓ a vs × Seen w h r p ℓ a
  unpushed r p ℓ a [] h s = (done, s)
  unpushed r p ℓ a (v ∷ vs) h s = let x = unpushed r p ℓ a vs (drop v ∷ h) s in (more x.1.0 x.0, x.1.1)

  module _ {r : Regime} {p : ℕ} {ℓ : Leaf} {a : ℕ} where
    found_first : (x : Event w) (xs : List (Event w)) (c : Plain w) (h : List (Moment w)) → Uncovered p ℓ a (drops_run w c (x ∷ xs))
        → Seen w (started x c h) r p ℓ a → Found c (x ∷ xs) r p ℓ a ⊎ (Uncovered p ℓ a (drops_run w c (x ∷ xs)) × Seen w h r p ℓ a)
    found_first (steps m e) xs c h us (inl k) =
        inl (record { before = []; ram = m; step = e; later = xs; split = refl; walks = k; spared = us })
    found_first (steps m e) xs c h us (inr k) = inr (us, k)
    found_first (receives v) xs c h us k = inr (us, k)

    pub found : (past : List (Event w)) (c : Plain w) (h : List (Moment w)) → Seen w (moments c past h) r p ℓ a
        → Found c past r p ℓ a ⊎ (Uncovered p ℓ a (drops_run w c past) × Seen w h r p ℓ a)
    found [] c h s = inr (done, s)
    found (x ∷ xs) c h s = go (found xs (after_event w x c) (pushed (drops_event w x c) (started x c h)) s)
      where
        go : Found (after_event w x c) xs r p ℓ a
            ⊎ (Uncovered p ℓ a (drops_run w (after_event w x c) xs) × Seen w (pushed (drops_event w x c) (started x c h)) r p ℓ a)
            → Found c (x ∷ xs) r p ℓ a ⊎ (Uncovered p ℓ a (drops_run w c (x ∷ xs)) × Seen w h r p ℓ a)
        go (inl f) =
            inl
            (record {
              before = x ∷ f.before;
              ram = f.ram;
              step = f.step;
              later = f.later;
              split = ap {B = List (Event w)} (λ l. x ∷ l) f.split;
              walks = f.walks;
              spared = f.spared;
            })
        go (inr k) =
            let y = unpushed r p ℓ a (drops_event w x c) (started x c h) k.1 in
            found_first x xs c h (each_append y.0 k.0) y.1

  -- a settled page agrees by the moments, those of the present step included
  settled : (c₀ : Plain w) (past : List (Event w)) (m : w.Ram) (r : Regime) (p : ℕ) → Settled w c₀ past m r p
      → Agreed w (at (plain_run w c₀ past).regs m ∷ moments c₀ past []) (plain_run w c₀ past).regs m r p
  settled c₀ past m r p st ℓ a (inl k) today = (ℓ, k.leaf, record { pages = refl; perms = refl; levels = refl })
  settled c₀ past m r p st ℓ a (inr k) today = go (found past c₀ [] k)
    where
      R : w.Regs
      R = (plain_run w c₀ past).regs

      go : Found c₀ past r p ℓ a ⊎ (Uncovered p ℓ a (drops_run w c₀ past) × ⊥) → (ℓ' : Leaf) × (page_walk w R m r p ≡ Ok ℓ') × LeavesEqual ℓ ℓ'
      go (inr x) = absurd x.1
      go (inl f) =
          st.holds f.before f.ram f.step f.later f.split ℓ f.walks.is-on f.walks.leaf (day today)
          (rw f.walks.under at f.spared)
        where
          day : (ℓ.global ≡ true) ⊎ (a ≡ w.asid R) → (ℓ.global ≡ true) ⊎ (w.asid (plain_run w c₀ f.before).regs ≡ w.asid R)
          day (inl g) = inl g
          day (inr x) = inr (sym f.walks.under ∙ x)

  -- FAITHFULNESS

  answers-right : (c₀ : Plain w) (past : List (Event w)) (m : w.Ram) (l : List Ask) (u : Model)
      → Traced w (at (plain_run w c₀ past).regs m ∷ moments c₀ past []) (plain_run w c₀ past).regs u
      → Each (FaithfulAnswer w c₀ past m) (model_answers w (plain_run w c₀ past) m l u)
  answers-right c₀ past m [] u s = done
  answers-right c₀ past m (a ∷ l) u s =
      more (λ st. answered-right w laws (at c.regs m ∷ h) c m (kind_of a) (address_of a) (settled c₀ past m _ _ st) next.answered)
      (go (model_ask w c m a u).answer (answers-right c₀ past m l (model_ask w c m a u).after next.traced))
    where
      c : Plain w
      c = plain_run w c₀ past

      h : List (Moment w)
      h = moments c₀ past []

      next : Done w laws (at c.regs m ∷ h) c m (kind_of a) (address_of a) (model_ask w c m a u)
      next = ask-done h c m u s a

      go : (x : Answer) → Each (FaithfulAnswer w c₀ past m) (model_answers w c m l (model_ask w c m a u).after)
          → Each (FaithfulAnswer w c₀ past m) (onward x (model_answers w c m l (model_ask w c m a u).after) [])
      go (Ok pa) rest = rest
      go (Err f) rest = done

  -- A fresh core: its ASID is 0, its level at most 3, its cache new.
  module _ (c₀ : Plain w) (zero-asid : w.asid c₀.regs ≡ 0) (low : c₀.privilege.level ≤ 3) where
    pub history-traced : (past : List (Event w)) → Traced w (moments c₀ past []) (plain_run w c₀ past).regs (model_run w c₀ past empty_model)
    history-traced past = run-traced past c₀ empty_model [] (traced-empty w c₀.regs zero-asid)

    pub every_history_faithful : EveryHistoryFaithful w c₀
    every_history_faithful past m s = search (rules, history-answers, answers-right, traced-at, history-traced)

    -- beside it: after every history the cache's ASID is that of the registers, and the cache is well-formed
    pub history-asid : (past : List (Event w)) → (tlb_run w c₀ past fresh).asid ≡ w.asid (plain_run w c₀ past).regs
    history-asid past = ap (λ (u : Model). u.asid) (history-model w laws c₀ low past) ∙ (history-traced past).asid-is

    pub history-well : (past : List (Event w)) → WellFormed (tlb_run w c₀ past fresh)
    history-well past = (run-stands w laws past c₀ low (fresh-stands w laws)).well
