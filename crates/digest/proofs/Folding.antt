-- Laws of digests: words one after another, and things one after another.
use Rattle.std.proofs.Common.{◌≡◌, ℕ, suc, ◌+◌, ◌-◌, ◌<◌, ◌≤◌, List, [], ◌∷◌, ◌++◌, sym, refl, ap, ◌∙◌, arith}
use Rattle.digest.specs.Fold.{joined, digest_from, gathered}

-- the words of two lists
pub digest-append : (h : ℕ) (a b : List ℕ) → digest_from h (a ++ b) ≡ digest_from (digest_from h a) b
unfolding digest_from
digest-append h [] b = refl
digest-append h (w ∷ a) b = digest-append (joined h w) a b

-- one thing more
pub turn : (f : ℕ → List ℕ) (n i h : ℕ) → i < n → digest_from h (gathered f (n - i) i) ≡ digest_from (digest_from h (f i)) (gathered f (n - (i + 1)) (i + 1))
unfolding gathered
turn f n i h p =
    let e : n - i ≡ suc (n - (i + 1)) = omega arith in
    ap (λ (m : ℕ). digest_from h (gathered f m i)) e ∙ digest-append h (f i) (gathered f (n - (i + 1)) (i + 1))

-- no thing left
pub end : (f : ℕ → List ℕ) (n i h : ℕ) → n ≤ i → digest_from h (gathered f (n - i) i) ≡ h
unfolding gathered digest_from
end f n i h p =
    let e : n - i ≡ 0 = omega arith in
    ap (λ (m : ℕ). digest_from h (gathered f m i)) e

-- a loop's turn: the digest took in thing i
pub again : (f : ℕ → List ℕ) (n i h k total : ℕ) → i < n → k ≡ digest_from h (f i) → digest_from h (gathered f (n - i) i) ≡ total
    → digest_from k (gathered f (n - (i + 1)) (i + 1)) ≡ total
again f n i h k total p e q =
    ap (λ (x : ℕ). digest_from x (gathered f (n - (i + 1)) (i + 1))) e ∙ (sym (turn f n i h p) ∙ q)

-- a loop's end
pub ended : (f : ℕ → List ℕ) (n i h total : ℕ) → n ≤ i → digest_from h (gathered f (n - i) i) ≡ total → h ≡ total
ended f n i h total p q = sym (end f n i h p) ∙ q

-- one word
pub one : (h w k : ℕ) → k ≡ joined h w → k ≡ digest_from h (w ∷ [])
unfolding digest_from
one h w k e = e
