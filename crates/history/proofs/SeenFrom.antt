-- One core among several is a machine of its own: the bridge of it, from that of the machine.
use Rattle.std.specs.Prelude.{◌≡◌, refl, ℕ, List, Option, Some, None}
use Rattle.std.proofs.Common.{sym, ap, ◌∙◌}
use Rattle.tlb.specs.declared.Inval.{Inval}
use Rattle.history.specs.World.{World}
use Rattle.history.specs.History.{Event, plain_run, tlb_run}
use Rattle.history.specs.Invisible.{answers_run, plain_answers_run}
use Rattle.history.specs.Calls.{Machine, Bridge, Replies, RepliesByAnswers}
use Rattle.history.specs.Faithful.{Says, MadeFromAnswers}
use Rattle.history.specs.Delivered.{unpending}
use Rattle.history.proofs.Delivered.{inval-quiet, plain-quiet, run-quiet, answers-run-quiet, plain-answers-quiet}
use Rattle.history.specs.SeenFrom.{Sharing, Numbered, Part, makes, hears, neither, part_of, heard, core_then, bare_then, later_then, events_then}
use Rattle.history.specs.SeenFrom.{shared_by, bares_of, cores_after, bares_after, seen_from, if_made, seen_replies, seen_says}

module _ (w : World) (M : Machine w) (S : Sharing w M) (B : Bridge w M) (m : w.Ram) (x : M.Call) where
  heard-bare : (v : Option Inval) (c : M.Core) → M.bare (heard w M S v c) ≡ M.bare c
  heard-bare None c = refl
  heard-bare (Some v) c = S.hear-bare v c

  -- of a core that has the part p
  pub bare-then : (p : Part) (c : M.Core) (v : Option Inval) → M.bare (core_then w M S p c m x v) ≡ bare_then w M S p (M.bare c) m x
  bare-then makes c v = S.settle-bare (M.step c m x) ∙ B.bare-is c m x
  bare-then hears c v = heard-bare v c
  bare-then neither c v = refl

  abbrev events : Part → M.Core → Option Inval → List (Event w)
  events p c v = events_then w M S p (M.bare c) m (later_then w M S p c m x) x v

  pub plain-then : (p : Part) (c : M.Core) (v : Option Inval)
      → M.plain (bare_then w M S p (M.bare c) m x) ≡ plain_run w (M.plain (M.bare c)) (events p c v)
  plain-then makes c v = B.plain-is c m x ∙ sym (plain-quiet w (M.events (M.bare c) m (M.later c m x) x) (M.plain (M.bare c)))
  plain-then hears c None = refl
  plain-then hears c (Some v) = refl
  plain-then neither c v = refl

  pub tlb-then : (p : Part) (c : M.Core) (v : Option Inval)
      → unpending (M.tlb (core_then w M S p c m x v)) ≡ tlb_run w (M.plain (M.bare c)) (events p c v) (unpending (M.tlb c))
  tlb-then makes c v =
      ap unpending (S.settle-tlb (M.step c m x) ∙ ap unpending (B.tlb-is c m x))
      ∙ sym (run-quiet w (M.events (M.bare c) m (M.later c m x) x) (M.plain (M.bare c)) (M.tlb c))
  tlb-then hears c None = refl
  tlb-then hears c (Some v) = ap unpending (S.hear-tlb v c) ∙ sym (inval-quiet v (M.tlb c))
  tlb-then neither c v = refl

module _ (w : World) (M : Machine w) (S : Sharing w M) (k : ℕ) where
  bares-then : Bridge w M → (cs : ℕ → M.Core) (m : w.Ram) (x : Numbered M.Call)
      → ◌≡◌ {A = ℕ → M.Bare} (bares_of w M S (cores_after w M S cs m x)) (bares_after w M S (bares_of w M S cs) m x)
  bares-then B cs m x =
      λ j i. bare-then w M S B m x.call (part_of i x.number) (cs i) (shared_by w M S (bares_of w M S cs) m x) j

  pub seen-bridge : Bridge w M → Bridge w (seen_from w M S k)
  seen-bridge B =
      record {
        bare-is = bares-then B;
        plain-is = λ cs m x. plain-then w M S B m x.call (part_of k x.number) (cs k) (shared_by w M S (bares_of w M S cs) m x);
        tlb-is = λ cs m x. tlb-then w M S B m x.call (part_of k x.number) (cs k) (shared_by w M S (bares_of w M S cs) m x);
      }

  -- and its replies are by its answers
  module _ (A : Replies w M) (same : RepliesByAnswers w M A) (m : w.Ram) (x : M.Call) where
    reply-then : (p : Part) (c : M.Core) (v : Option Inval)
        → answers_run w (M.plain (M.bare c)) (events_then w M S p (M.bare c) m (later_then w M S p c m x) x v) (unpending (M.tlb c))
        ≡ plain_answers_run w (M.plain (M.bare c)) (events_then w M S p (M.bare c) m (later_then w M S p c m x) x v)
        → if_made w M S k p (A.reply c m x) ≡ if_made w M S k p (A.bare_reply (M.bare c) m x)
    reply-then makes c v e =
        ap Some
        (same c m x
        (sym (answers-run-quiet w (M.events (M.bare c) m (M.later c m x) x) (M.plain (M.bare c)) (M.tlb c))
        ∙ e
        ∙ plain-answers-quiet w (M.events (M.bare c) m (M.later c m x) x) (M.plain (M.bare c))))
    reply-then hears c v e = refl
    reply-then neither c v e = refl

  pub seen-replies : (A : Replies w M) → RepliesByAnswers w M A → RepliesByAnswers w (seen_from w M S k) (seen_replies w M S k A)
  seen-replies A same cs m x e = reply-then A same m x.call (part_of k x.number) (cs k) (shared_by w M S (bares_of w M S cs) m x) e

  -- and made from them
  module _ (A : Replies w M) (says : Says w M A) (made : MadeFromAnswers w M A says) (m : w.Ram) (x : M.Call) where
    made-then : (p : Part) (c : M.Core) (v : Option Inval)
        → if_made w M S k p (A.reply c m x)
        ≡ if_made w M S k p
        (says (M.bare c) m (later_then w M S p c m x) x
        (answers_run w (M.plain (M.bare c)) (events_then w M S p (M.bare c) m (later_then w M S p c m x) x v) (unpending (M.tlb c))))
    made-then makes c v =
        ap Some
        (made c m x
        ∙ ap (says (M.bare c) m (M.later c m x) x)
        (sym (answers-run-quiet w (M.events (M.bare c) m (M.later c m x) x) (M.plain (M.bare c)) (M.tlb c))))
    made-then hears c v = refl
    made-then neither c v = refl

  pub seen-made : (A : Replies w M) (says : Says w M A) → MadeFromAnswers w M A says
      → MadeFromAnswers w (seen_from w M S k) (seen_replies w M S k A) (seen_says w M S k A says)
  seen-made A says made cs m x =
      made-then A says made m x.call (part_of k x.number) (cs k) (shared_by w M S (bares_of w M S cs) m x)
