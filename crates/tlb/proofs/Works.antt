-- What a translation reads, by how the plain model answers it.
use Rattle.std.proofs.Common.{arith}
use Rattle.std.specs.Prelude.{◌≡◌, ℕ, ◌+◌, ◌%◌, ◌^◌, ◌≤◌, Bool, true, false, Some, None}
use Rattle.tlb.specs.Access.{may_hint}
use Rattle.std.proofs.Math.Bool.{and-false}
use Rattle.tlb.proofs.Cells.{may-is, known_is, fetch-known-is}
use Rattle.tlb.specs.Runs.{how_work, how_unhinted, how_hinted, how_translated, how_fetched}
use Rattle.tlb.specs.Tlb.{data_slot, hint_at, get_of}
use Rattle.tlb.specs.Live.{live, hints_of, fetch_hint_of, WellFormed}
use Rattle.tlb.specs.Model.{Access}
use Rattle.tlb.specs.Translate.{tag_in, hint_in, needs_walk, work_missed, work_in, fetch_work_in}
use Rattle.tlb.specs.declared.{entry.Entry.Entry, work.Work.Work, Tlb.Tlb}
use Rattle.tlb.proofs.Refines.{line-is}
use Rattle.tlb.proofs.Translations.{place_is}

module _ (a : Access) (t : Tlb) (s : WellFormed t) (low : a.privilege.level ≤ 3) (w : Work) where
  missed-work : work_missed a t w ≡ how_work (how_unhinted a (live t)) a.reads w
  unfolding needs_walk get_of
  missed-work = grind (arith, line-is)

  by-mark : (m : Bool) → may_hint a.privilege a.kind ≡ m → work_in a t w ≡ how_work (how_hinted m a (live t)) a.reads w
  unfolding hints_of
  by-mark true q =
      rw (q, place_is a.kind a.va, known_is (hint_at t (data_slot a.va a.kind)) a.va a.privilege.level low) (grind (arith, missed-work))
  by-mark false q = rw q missed-work

  pub translation-work : work_in a t w ≡ how_work (how_translated a (live t)) a.reads w
  translation-work = grind (arith, may-is, by-mark)

  pub fetch-work : fetch_work_in a t w ≡ how_work (how_fetched a (live t)) a.reads w
  unfolding fetch_hint_of needs_walk get_of
  fetch-work = grind (arith, fetch-known-is, line-is)

-- without the plain model: what is at hand reads nothing, and a walk its descriptors
module _ (a : Access) (t : Tlb) (w : Work) where
  pub nothing-read : (a.on ≡ false → work_in a t w ≡ w)
      × ((pa : ℕ) → hint_in a.privilege a.va a.kind t ≡ Some pa → work_in a t w ≡ w)
      × ((e : Entry) → get_of t (tag_in a) ≡ Some e → work_in a t w ≡ w)
  unfolding needs_walk
  nothing-read = grind (arith, and-false)

  pub walk-read : a.on ≡ true → hint_in a.privilege a.va a.kind t ≡ None → get_of t (tag_in a) ≡ None
      → (work_in a t w).reads ≡ (w.reads + a.reads) % 2 ^ 64
  unfolding needs_walk
  walk-read on h e = grind arith
