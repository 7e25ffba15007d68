-- A core that hands on at once has the cache of one that leaves its share pending, but for the mark; it reads the same
-- registers, and answers the same.
use Rattle.std.specs.Prelude.{if◌then◌else◌, ◌≡◌, refl, Bool, true, false, ℕ, List, [], ◌∷◌, ◌++◌, Option, Some, None, Ok, Err}
use Rattle.std.proofs.Common.{arith, ap, ◌∙◌}
use Rattle.walk.specs.Answers.{Walked}
use Rattle.tlb.specs.Access.{flat_answer}
use Rattle.tlb.specs.Answers.{Answer, Outcome}
use Rattle.tlb.specs.Asks.{Ask, translates, fetches, Given}
use Rattle.tlb.specs.Tlb.{invalidate_of, flush_of, retag_of, drop_page_of, drop_asid_of, get_of, put_of, broadcast_of, invalidated_of, reshaped_of}
use Rattle.tlb.specs.Tlb.{retagged_of}
use Rattle.tlb.specs.Model.{Access, as_fetch}
use Rattle.tlb.specs.Translate.{tag_in, walked_in, looked_in, miss_in, hint_left, tried_in, fetch_left, fetch_tried}
use Rattle.tlb.specs.declared.{access.Kind.Kind, access.Privilege.Privilege, entry.Entry.Entry, Inval.Inval, Tlb.Tlb}
use Rattle.tlb.specs.declared.access.Kind.TheVariants.{Fetch}
use Rattle.tlb.specs.declared.Inval.TheVariants.{All, Page, Asid}
use Rattle.history.specs.World.{World, Plain, access_of}
use Rattle.history.specs.History.{Effect, Event, steps, receives, after_event, plain_run, answer_of, answers, tlb_ask, tlb_asks, tlb_after, tlb_event}
use Rattle.history.specs.History.{tlb_run}
use Rattle.history.specs.Invisible.{answers_run, plain_answers_run}
use Rattle.history.specs.Delivered.{unpending, handed_on, delivered, all_delivered}

-- INVALIDATIONS

flush-quiet : (t : Tlb) → flush_of (unpending t) ≡ unpending (flush_of t)
unfolding flush_of
flush-quiet t = grind arith

pub inval-quiet : (v : Inval) (t : Tlb) → invalidate_of (unpending t) v ≡ unpending (invalidate_of t v)
unfolding invalidate_of drop_page_of drop_asid_of retag_of
inval-quiet All t = flush-quiet t
inval-quiet (Page p) t = refl
inval-quiet (Asid n) t = refl

-- TRANSLATIONS

-- an answer, with nothing pending in the cache after it
abbrev quieted : Outcome Tlb → Outcome Tlb
quieted o = record { answer = o.answer; after = unpending o.after }

abbrev ended : Answer → Tlb → Outcome Tlb
ended x t = record { answer = x; after = t }

module _ (a : Access) (t : Tlb) where
  walked-quiet : (x : Walked) → walked_in x a (unpending t) ≡ quieted (walked_in x a t)
  unfolding walked_in put_of
  walked-quiet (Ok leaf) = refl
  walked-quiet (Err code) = refl

  looked-quiet : (x : Option Entry) → looked_in x a (unpending t) ≡ quieted (looked_in x a t)
  looked-quiet (Some e) = refl
  looked-quiet None = walked-quiet a.walk

  got-quiet : get_of (unpending t) (tag_in a) ≡ get_of t (tag_in a)
  unfolding get_of
  got-quiet = refl

  miss-quiet : miss_in a (unpending t) ≡ quieted (miss_in a t)
  unfolding miss_in
  miss-quiet = go a.on
    where
      go : (on : Bool)
          → ◌≡◌ {A = Outcome Tlb}
          (if on then looked_in (get_of (unpending t) (tag_in a)) a (unpending t) else record { answer = flat_answer a.untagged; after = unpending t })
          (quieted (if on then looked_in (get_of t (tag_in a)) a t else record { answer = flat_answer a.untagged; after = t }))
      go true = ap (λ (x : Option Entry). looked_in x a (unpending t)) got-quiet ∙ looked-quiet (get_of t (tag_in a))
      go false = refl

hint-left-quiet : (p : Privilege) (va : ℕ) (k : Kind) (x : Answer) (t : Tlb) → hint_left p va k x (unpending t) ≡ unpending (hint_left p va k x t)
hint-left-quiet p va k x t = grind arith

fetch-left-quiet : (level va : ℕ) (x : Answer) (t : Tlb) → fetch_left level va x (unpending t) ≡ unpending (fetch_left level va x t)
fetch-left-quiet level va x t = grind arith

tried-quiet : (a : Access) (t : Tlb) (x : Option ℕ) → tried_in x a (unpending t) ≡ quieted (tried_in x a t)
tried-quiet a t x = grind (arith, miss-quiet, hint-left-quiet)

fetch-tried-quiet : (a : Access) (t : Tlb) (x : Option ℕ) → fetch_tried x a (unpending t) ≡ quieted (fetch_tried x a t)
fetch-tried-quiet a t x = grind (arith, miss-quiet, fetch-left-quiet)

module _ (w : World) where
  -- WHAT TRANSLATIONS READ

  event-quiet : (x : Event w) (c : Plain w) → after_event w (delivered w x) c ≡ after_event w x c
  event-quiet x c = grind arith

  pub plain-quiet : (xs : List (Event w)) (c : Plain w) → plain_run w c (all_delivered w xs) ≡ plain_run w c xs
  plain-quiet [] c = refl
  plain-quiet (x ∷ xs) c = grind (arith, plain-quiet xs (after_event w x c), event-quiet)

  -- A STEP'S TRANSLATIONS

  ask-quiet : (c : Plain w) (m : w.Ram) (a : Ask) (t : Tlb) → tlb_ask w c m a (unpending t) ≡ unpending (tlb_ask w c m a t)
  ask-quiet c m (translates k va) t = ap (λ (o : Outcome Tlb). o.after) (tried-quiet (access_of w c m k va) t _)
  ask-quiet c m (fetches va) t = ap (λ (o : Outcome Tlb). o.after) (fetch-tried-quiet (as_fetch (access_of w c m Fetch va)) t _)

  answer-quiet : (c : Plain w) (m : w.Ram) (a : Ask) (t : Tlb) → answer_of w c m a (unpending t) ≡ answer_of w c m a t
  answer-quiet c m (translates k va) t = ap (λ (o : Outcome Tlb). o.answer) (tried-quiet (access_of w c m k va) t _)
  answer-quiet c m (fetches va) t = ap (λ (o : Outcome Tlb). o.answer) (fetch-tried-quiet (as_fetch (access_of w c m Fetch va)) t _)

  asks-quiet : (c : Plain w) (m : w.Ram) (l : List Ask) (t : Tlb) → tlb_asks w c m l (unpending t) ≡ unpending (tlb_asks w c m l t)
  asks-quiet c m [] t = refl
  asks-quiet c m (a ∷ l) t = grind (arith, asks-quiet c m l (tlb_ask w c m a t), answer-quiet, ask-quiet)

  answers-quiet : (c : Plain w) (m : w.Ram) (l : List Ask) (t : Tlb) → answers w c m l (unpending t) ≡ answers w c m l t
  answers-quiet c m [] t = refl
  answers-quiet c m (a ∷ l) t = grind (arith, answers-quiet c m l (tlb_ask w c m a t), answer-quiet, ask-quiet)

  -- EFFECTS

  shared-quiet : (v : Inval) (b : Bool) (t : Tlb) → invalidated_of (unpending t) v false ≡ unpending (invalidated_of t v b)
  unfolding invalidated_of broadcast_of
  shared-quiet v true t = inval-quiet v t
  shared-quiet v false t = inval-quiet v t

  reshaped-quiet : (b : Bool) (t : Tlb) → reshaped_of (unpending t) b ≡ unpending (reshaped_of t b)
  unfolding reshaped_of flush_of
  reshaped-quiet b t = grind arith

  retag-quiet : (b : Bool) (n : ℕ) (t : Tlb)
      → (if b then unpending t else retag_of (unpending t) n) ≡ unpending (if b then t else retag_of t n)
  unfolding retag_of
  retag-quiet b n t = grind arith

  effect-quiet : (e : Effect w) (c : Plain w) (t : Tlb) → tlb_after w (handed_on w e) c (unpending t) ≡ unpending (tlb_after w e c t)
  unfolding retagged_of
  effect-quiet e c t = grind (arith, shared-quiet, reshaped-quiet, retag-quiet)

  tlb-quiet : (x : Event w) (c : Plain w) (t : Tlb) → tlb_event w (delivered w x) c (unpending t) ≡ unpending (tlb_event w x c t)
  tlb-quiet x c t = grind (arith, asks-quiet, effect-quiet, inval-quiet)

  -- HISTORIES

  pub run-quiet : (xs : List (Event w)) (c : Plain w) (t : Tlb)
      → tlb_run w c (all_delivered w xs) (unpending t) ≡ unpending (tlb_run w c xs t)
  run-quiet [] c t = refl
  run-quiet (x ∷ xs) c t = grind (arith, run-quiet xs (after_event w x c) (tlb_event w x c t), event-quiet, tlb-quiet)

  -- every answer, with the cache and without
  pub answers-run-quiet : (xs : List (Event w)) (c : Plain w) (t : Tlb)
      → answers_run w c (all_delivered w xs) (unpending t) ≡ answers_run w c xs t
  answers-run-quiet [] c t = refl
  answers-run-quiet (steps m s ∷ xs) c t =
      rw (event-quiet (steps m s) c, tlb-quiet (steps m s) c t, answers-quiet c m s.asks t)
      (ap {B = List Given} (λ l. answers w c m s.asks t ++ l)
      (answers-run-quiet xs (after_event w (steps m s) c) (tlb_event w (steps m s) c t)))
  answers-run-quiet (receives v ∷ xs) c t = rw (inval-quiet v t) (answers-run-quiet xs c (tlb_event w (receives v) c t))

  pub plain-answers-quiet : (xs : List (Event w)) (c : Plain w) → plain_answers_run w c (all_delivered w xs) ≡ plain_answers_run w c xs
  plain-answers-quiet [] c = refl
  plain-answers-quiet (x ∷ xs) c = grind (arith, plain-answers-quiet xs (after_event w x c), event-quiet)
