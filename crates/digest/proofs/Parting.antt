-- The words of the hints.
use Rattle.std.proofs.Common.{◌≡◌, ℕ, sym, ap, ◌∙◌}
use Rattle.tlb.specs.declared.Tlb.{Tlb}
use Rattle.digest.specs.Fold.{digest_from, digest_of, gathered}
use Rattle.digest.specs.Parts.{hint_words, fetch_words, hints_words}
use Rattle.digest.proofs.Folding.{digest-append}

-- the data hints, then the fetch hint
pub hints-end : (c : Tlb) (d k : ℕ) → d ≡ digest_of (gathered (hint_words c) 512 0) → k ≡ digest_from d (fetch_words c.fetch) → k ≡ digest_of (hints_words c)
hints-end c d k p q =
    q ∙ (ap (λ (v : ℕ). digest_from v (fetch_words c.fetch)) p ∙ sym (digest-append 0x9E3779B97F4A7C15 (gathered (hint_words c) 512 0) (fetch_words c.fetch)))
