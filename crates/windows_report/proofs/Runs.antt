-- A run at the end of others, written out.
use Rattle.std.proofs.Common.{◌≡◌, refl, ap, sym, ◌∙◌, ◌+◌, ◌*◌, arith, List, [], ◌∷◌, ◌++◌, append_assoc, Ok, Err}
use Rattle.std.proofs.lemmas.List.{append-nil}
use Rattle.std.proofs.lemmas.List.FromFn.{map-range_with_len_more}
use Rattle.tlb.specs.Answers.{Answer}
use Rattle.windows_report.specs.Runs.{further, Continues, pages_in, written}
use Rattle.windows_report.specs.declared.run.Run.{Run}

written-push : (l : List Run) (r : Run) → written (l ++ r ∷ []) ≡ written l ++ pages_in r
unfolding written
written-push [] r = append-nil (pages_in r)
written-push (s ∷ l) r = ap (λ (k : List Answer). pages_in s ++ k) (written-push l r) ∙ sym (append_assoc (pages_in s) (written l) (pages_in r))

one-page : (a : Answer) → pages_in (record { pages = 1; first = a }) ≡ a ∷ []
one-page (Ok pa) = let e : pa + 4096 * 0 ≡ pa = omega arith in ap (λ n. Ok n ∷ []) e
one-page (Err f) = refl

-- a run of one page, and a run that gains one
pub pushed : (l : List Run) (next : Answer) → written (l ++ record { pages = 1; first = next } ∷ []) ≡ written l ++ next ∷ []
pushed l next = written-push l (record { pages = 1; first = next }) ∙ ap (λ (k : List Answer). written l ++ k) (one-page next)

pub grown : (l : List Run) (r : Run) (next : Answer) → Continues r next
    → written (l ++ record r { pages = r.pages + 1 } ∷ []) ≡ written (l ++ r ∷ []) ++ next ∷ []
grown l r next e =
    written-push l (record r { pages = r.pages + 1 })
    ∙ ap (λ (k : List Answer). written l ++ k) (map-range_with_len_more (further r.first) 0 r.pages r.pages (omega arith))
    ∙ sym (append_assoc (written l) (pages_in r) (further r.first r.pages ∷ []))
    ∙ ap (λ (a : Answer). (written l ++ pages_in r) ++ a ∷ []) (sym e)
    ∙ ap (λ (k : List Answer). k ++ next ∷ []) (sym (written-push l r))
