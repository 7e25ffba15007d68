use Rattle.std.proofs.Common.{rules, ◌≡◌, ◌==◌, refl}
use Rattle.std.specs.List.{list_any}
use Rattle.std.proofs.lemmas.Fn.{fold_over, slice_gives, fronts}
use Rattle.std.proofs.lemmas.List.Folds.{list_any-append}
use Rattle.windows.proofs.pairs.has.Goals as goal

pub returns : goal.returns
returns c =
    rw c.iter.ensures.rest at
    (fold_over fronts (λ y. y.now) _ (λ ys b. b ≡ list_any (λ y. c.args.page == y) ys) _
    (λ ys a x b f' i k. search (rules, list_any-append))
    c.iter.result _ _ _ (slice_gives c.iter.result) refl c.fold.ensures.ran)
