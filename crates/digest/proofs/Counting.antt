-- Laws of counts: a loop's turn and its end.
use Rattle.std.proofs.Common.{◌≡◌, ℕ, suc, ◌+◌, ◌-◌, ◌^◌, ◌<◌, ◌≤◌, Bool, true, false, ap, arith}
use Rattle.word.specs.Bits.{wrap, flag}
use Rattle.digest.specs.Count.{how_many}

pub flag-le : (b : Bool) → flag b 1 ≤ 1
flag-le true = omega arith
flag-le false = omega arith

-- thing i was counted where it holds; of at most n things no sum wraps
module _ (p : ℕ → Bool) (n i k m : ℕ) (few : n < 2 ^ 64) (h : i < n) (low : k ≤ i) (e : m ≡ wrap (k + flag (p i) 1)) where
  pub added : m ≡ k + flag (p i) 1
  added = let f = flag-le (p i) in omega arith

  pub counted-few : m ≤ i + 1
  counted-few = let f = flag-le (p i) in let a = added in omega arith

  pub counted-on : (total : ℕ) → k + how_many p (n - i) i ≡ total → m + how_many p (n - (i + 1)) (i + 1) ≡ total
  unfolding how_many
  counted-on total q =
      let s : n - i ≡ suc (n - (i + 1)) = omega arith in
      let turn : how_many p (n - i) i ≡ flag (p i) 1 + how_many p (n - (i + 1)) (i + 1) = ap (λ (x : ℕ). how_many p x i) s in
      let a = added in
      omega arith

pub counted-end : (p : ℕ → Bool) (n i k total : ℕ) → n ≤ i → k + how_many p (n - i) i ≡ total → k ≡ total
unfolding how_many
counted-end p n i k total h q =
    let z : n - i ≡ 0 = omega arith in
    let none : how_many p (n - i) i ≡ 0 = ap (λ (x : ℕ). how_many p x i) z in
    omega arith
