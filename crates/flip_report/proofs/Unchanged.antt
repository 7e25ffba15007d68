-- Why no bit changes an answer, by the first table that the walk visits.
use Rattle.std.specs.Prelude.{if◌then◌else◌, ◌≡◌, ℕ, Bool, true, false, List, length, Some, None}
use Rattle.std.proofs.Common.{refl, sym, ap, ◌∙◌}
use Rattle.word.specs.Ram.{within, word_at}
use Rattle.walk.specs.Answers.{Visited}
use Rattle.walk.specs.Walk.{fetches_of}
use Rattle.walk.specs.Order.{params_at}
use Rattle.walk.specs.Regime.{stage1_on, untagged}
use Rattle.walk.specs.State.{visit_of, seen_as}
use Rattle.walk.specs.declared.table.Visit.{Visit}
use Rattle.walk.proofs.Order.{visit-some, visit-none}
use Rattle.flip.specs.Flip.{descriptors}
use Rattle.flip.specs.declared.Question.{Question}
use Rattle.flip_report.specs.Found.{unchanged_by, unchanged_of}
use Rattle.flip_report.specs.declared.found.Found.TheVariants.{NoBit, OutsideRam, NoDescriptor}

module _ (q : Question) (base : ℕ) (ram : List ℕ) (x : Bool) (e : x ≡ stage1_on q.bank q.regime) (on : x ≡ true) (va : ℕ)
    (is : va ≡ untagged q.bank.tcr q.regime q.va) (v : Visited) (seen : seen_as (params_at q.bank q.regime va) v ≡ visit_of q.bank q.regime va (word_at base ram 8) 0) where
  fetched : descriptors q base ram ≡ fetches_of q.bank q.regime va (word_at base ram 8)
  fetched = rw (← e, on, is) refl

  pub none-visited : v ≡ None → NoDescriptor ≡ unchanged_of q base ram
  none-visited h =
      let gone = visit-none q.bank q.regime va (word_at base ram 8) 0 (rw h at seen) in
      sym (ap (unchanged_by base (length ram)) (fetched ∙ gone))

  first-visited : (w : Visit) → v ≡ Some w → unchanged_of q base ram ≡ (if within base (length ram) 8 w.at then NoBit else OutsideRam (record { 0 = w.at }))
  first-visited w h =
      let more = visit-some q.bank q.regime va (word_at base ram 8) 0 w (rw h at seen) in
      ap (unchanged_by base (length ram)) (fetched ∙ more)

  module _ (w : Visit) (h : v ≡ Some w) (y : Bool) (i : y ≡ within base (length ram) 8 w.at) where
    pub visited-inside : y ≡ true → NoBit ≡ unchanged_of q base ram
    visited-inside t = sym (first-visited w h ∙ rw (← i, t) refl)

    pub visited-outside : y ≡ false → OutsideRam (record { 0 = w.at }) ≡ unchanged_of q base ram
    visited-outside t = sym (first-visited w h ∙ rw (← i, t) refl)

pub ruleset first_visit = (none-visited, visited-inside, visited-outside)
