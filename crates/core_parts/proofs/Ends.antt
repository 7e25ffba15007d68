-- What a reader gives past the last, and what a broadcast does that words name.
use Rattle.std.specs.Prelude.{◌≡◌, ℕ, ◌≤◌, List, length, slice_index_or, Option, Some}
use Rattle.std.proofs.Common.{sym, ap, ◌∙◌}
use Rattle.std.proofs.lemmas.List.{get_or_past}
use Rattle.tlb.specs.Tlb.{invalidate_of}
use Rattle.tlb.specs.declared.{Inval.Inval, Tlb.Tlb}
use Rattle.cpu.specs.Core.{after_access}
use Rattle.cpu.specs.declared.Core.{Core}
use Rattle.core_parts.specs.Put.{received}

pub past_last : {A : Type 0} (xs : List A) (i : ℕ) (d x : A) → x ≡ d → length xs ≤ i → x ≡ slice_index_or xs i d
past_last xs i d x e h = e ∙ sym (get_or_past xs i d h)

pub received_as : (c : Core) (o p : Option Inval) (what : Inval) (t : Tlb) → o ≡ p → o ≡ Some what → t ≡ invalidate_of c.tlb what
    → record c { tlb = t } ≡ received c p
unfolding after_access
received_as c o p what t e s h = ap (λ (u : Tlb). record c { tlb = u }) h ∙ ap (received c) (sym s ∙ e)
