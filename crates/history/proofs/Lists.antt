-- Lists of events: what holds of each element of two lists joined, where a run over both ends, and its level.
use Rattle.std.proofs.Common.{arith, append_assoc}
use Rattle.std.specs.Prelude.{◌≡◌, refl, List, [], ◌∷◌, ◌++◌, ◌≤◌}
use Rattle.tlb.specs.Live.{Each, done, more}
use Rattle.tlb.specs.declared.Tlb.{Tlb}
use Rattle.history.specs.World.{World, Plain}
use Rattle.history.specs.History.{Step, Event, steps, receives, after_event, plain_run, answers, tlb_event, tlb_run}
use Rattle.history.specs.Invisible.{answers_run}

module _ {A : Type 0} where
  pub each_append : {P : A → Type 0} {l k : List A} → Each P l → Each P k → Each P (l ++ k)
  each_append done qs = qs
  each_append (more p ps) qs = more p (each_append ps qs)

  pub each_left : {P : A → Type 0} (l k : List A) → Each P (l ++ k) → Each P l
  each_left [] k qs = done
  each_left (a ∷ l) k (more p ps) = more p (each_left l k ps)

  pub each_right : {P : A → Type 0} (l k : List A) → Each P (l ++ k) → Each P k
  each_right [] k qs = qs
  each_right (a ∷ l) k (more p ps) = each_right l k ps

  pub each-head : {P : A → Type 0} {a : A} {l : List A} → Each P (a ∷ l) → P a
  each-head (more p ps) = p

module _ (w : World) where
  pub event-low : (x : Event w) (c : Plain w) → c.privilege.level ≤ 3 → (after_event w x c).privilege.level ≤ 3
  event-low x c h1 = grind arith

  pub run-low : (past : List (Event w)) (c : Plain w) → c.privilege.level ≤ 3 → (plain_run w c past).privilege.level ≤ 3
  run-low [] c low = low
  run-low (x ∷ xs) c low = run-low xs (after_event w x c) (event-low x c low)

  pub plain-append : (c : Plain w) (l k : List (Event w)) → plain_run w c (l ++ k) ≡ plain_run w (plain_run w c l) k
  plain-append c [] k = refl
  plain-append c (x ∷ l) k = plain-append (after_event w x c) l k

  pub tlb-append : (c : Plain w) (l k : List (Event w)) (t : Tlb) → tlb_run w c (l ++ k) t ≡ tlb_run w (plain_run w c l) k (tlb_run w c l t)
  tlb-append c [] k t = refl
  tlb-append c (x ∷ l) k t = tlb-append (after_event w x c) l k (tlb_event w x c t)

  -- the answers of a list's steps, one after the other: those before a step, its own, those after it
  pub answers-split : (c : Plain w) (before : List (Event w)) (m : w.Ram) (s : Step w) (later : List (Event w)) (t : Tlb)
      → answers_run w c (before ++ steps m s ∷ later) t
      ≡ answers_run w c before t
      ++ (answers w (plain_run w c before) m s.asks (tlb_run w c before t)
      ++ answers_run w (after_event w (steps m s) (plain_run w c before)) later (tlb_event w (steps m s) (plain_run w c before) (tlb_run w c before t)))
  answers-split c [] m s later t = refl
  answers-split c (steps n u ∷ b) m s later t =
      grind (arith, (answers-split (after_event w (steps n u) c) b m s later (tlb_event w (steps n u) c t)), append_assoc)
  answers-split c (receives v ∷ b) m s later t = answers-split c b m s later (tlb_event w (receives v) c t)
