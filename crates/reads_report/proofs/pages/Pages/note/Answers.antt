-- The pages stay those of the rows.
use Rattle.std.proofs.Common.{ap, sym, ◌∙◌, ◌+◌, ◌%◌, List, map, ◌++◌, ◌∷◌, []}
use Rattle.reads_report.specs.declared.rows.{Row.Row}
use Rattle.reads_report.proofs.Same.{pages-set, pages-pushed}
use Rattle.reads_report.proofs.pages.Pages.note.Goals as goal

pub invariant_of-self : goal.invariant_of-self
invariant_of-self c = record {
  placed =
      let row = c.index_mut-row.result.now in
      c.args.self.now.placed
      ∙ sym (pages-set c.args.self.now.rows.items c.in-Some.place (record row {
        operations = (row.operations + 1) % 18446744073709551616;
        descriptors = (row.descriptors + c.args.reads) % 18446744073709551616;
      }) row (ap (λ (r : Row). r.page) c.index_mut-row.ensures.value));
}

pub invariant_of-self-in-None : goal.invariant_of-self-in-None
invariant_of-self-in-None c = record {
  placed =
      let row : Row = record { page = c.args.page; operations = 1; descriptors = c.args.reads } in
      c.in_ok-insert-in-None.ensures.keys
      ∙ pages-pushed c.args.self.now.places.keys c.args.self.now.rows.items row c.place_of.result c.args.self.now.placed c.in-None.is c.place_of.ensures.found
      ∙ ap (λ (l : List Row). map (λ (r : Row). r.page) (l ++ row ∷ [])) (sym c.reserve.ensures.items)
      ∙ ap (λ (l : List Row). map (λ (r : Row). r.page) l) (sym c.push_reserved.ensures.items);
}
