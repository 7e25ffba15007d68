-- The four cores after a call, core by core.
use Rattle.std.specs.Prelude.{if◌then◌else◌, ◌≡◌, refl, ℕ, zero, suc, ◌<◌, ◌==◌, Bool, true, false, List, [], ◌∷◌, nat_lt, length, slice_set, Option}
use Rattle.std.specs.Prelude.{Some, None}
use Rattle.std.proofs.Common.{sym, ap, ◌∙◌, arith}
use Rattle.tlb.specs.declared.{Inval.Inval}
use Rattle.cpu.specs.Bare.{bare_of}
use Rattle.cpu.specs.Check.{refuses}
use Rattle.cpu.specs.Step.{step_of}
use Rattle.cpu.specs.declared.{Core.Core, call.Call.Call}
use Rattle.history.specs.Window.{Ram}
use Rattle.cluster.specs.Cluster.{core_in, four, unmarked, heard, delivered_by, delivered_of, four_after}
use Rattle.cluster.specs.Shared.{shared_in}
use Rattle.cluster.proofs.Refused.{refused-same, set-same}
use Rattle.cluster.proofs.Share.{own-share}

-- core n became d, and the others hear v
abbrev pub made_of : List Core → ℕ → Core → Option Inval → List Core
made_of cs n d v = four (λ j. if j == n then unmarked d else heard v (core_in cs j))

pub is-unmarked : (d : Core) → d.tlb.broadcast ≡ None → d ≡ unmarked d
is-unmarked d e = λ i. record d { tlb = record d.tlb { broadcast = e i } }

module _ (a b c e d : Core) where
  abbrev cs : List Core
  cs = a ∷ b ∷ c ∷ e ∷ []

  hands : (n : ℕ) → n < 4 → (v : Option Inval) → d.tlb.broadcast ≡ v → delivered_by v (slice_set cs n d) n ≡ made_of cs n d v
  hands zero h None q = ap {B = List Core} (λ u. u ∷ b ∷ c ∷ e ∷ []) (is-unmarked d q)
  hands (suc zero) h None q = ap {B = List Core} (λ u. a ∷ u ∷ c ∷ e ∷ []) (is-unmarked d q)
  hands (suc (suc zero)) h None q = ap {B = List Core} (λ u. a ∷ b ∷ u ∷ e ∷ []) (is-unmarked d q)
  hands (suc (suc (suc zero))) h None q = ap {B = List Core} (λ u. a ∷ b ∷ c ∷ u ∷ []) (is-unmarked d q)
  hands zero h (Some v) q = refl
  hands (suc zero) h (Some v) q = refl
  hands (suc (suc zero)) h (Some v) q = refl
  hands (suc (suc (suc zero))) h (Some v) q = refl
  hands (suc (suc (suc (suc n)))) h v q = absurd (omega arith)

  delivers : (n : ℕ) → n < 4 → delivered_of (slice_set cs n d) n ≡ made_of cs n d d.tlb.broadcast
  delivers zero h = hands zero h d.tlb.broadcast refl
  delivers (suc zero) h = hands 1 h d.tlb.broadcast refl
  delivers (suc (suc zero)) h = hands 2 h d.tlb.broadcast refl
  delivers (suc (suc (suc zero))) h = hands 3 h d.tlb.broadcast refl
  delivers (suc (suc (suc (suc n)))) h = absurd (omega arith)

pub handed-made : (cs : List Core) (n : ℕ) (d : Core) (v : Option Inval) → length cs ≡ 4 → n < 4 → d.tlb.broadcast ≡ v
    → delivered_by v (slice_set cs n d) n ≡ made_of cs n d v
handed-made (a ∷ b ∷ c ∷ e ∷ []) n d v l h q = hands a b c e d n h v q
handed-made [] n d v l h q = absurd (omega arith)
handed-made (a ∷ []) n d v l h q = absurd (omega arith)
handed-made (a ∷ b ∷ []) n d v l h q = absurd (omega arith)
handed-made (a ∷ b ∷ c ∷ []) n d v l h q = absurd (omega arith)
handed-made (a ∷ b ∷ c ∷ e ∷ f ∷ cs) n d v l h q = absurd (omega arith)

pub delivered-made : (cs : List Core) (n : ℕ) (d : Core) → length cs ≡ 4 → n < 4 → delivered_of (slice_set cs n d) n ≡ made_of cs n d d.tlb.broadcast
delivered-made (a ∷ b ∷ c ∷ e ∷ []) n d l h = delivers a b c e d n h
delivered-made [] n d l h = absurd (omega arith)
delivered-made (a ∷ []) n d l h = absurd (omega arith)
delivered-made (a ∷ b ∷ []) n d l h = absurd (omega arith)
delivered-made (a ∷ b ∷ c ∷ []) n d l h = absurd (omega arith)
delivered-made (a ∷ b ∷ c ∷ e ∷ f ∷ cs) n d l h = absurd (omega arith)

-- A CALL on core n, by the two tests of its definition
abbrev after_by : Bool → Bool → List Core → ℕ → Core → List Core
after_by above refused cs n d = if above then cs else if refused then cs else delivered_of (slice_set cs n d) n

module _ (cs : List Core) (n base : ℕ) (ram : List ℕ) (x : Call) where
  abbrev c : Core
  c = core_in cs n

  abbrev d : Core
  d = (step_of c base ram x).core

  abbrev m : Ram
  m = record { base = base; bytes = ram }

  abbrev refused : Bool
  refused = refuses (step_of c base ram x).reply

  pub above-same : nat_lt 3 n ≡ true → four_after cs n base ram x ≡ cs
  above-same e = ap (λ (t : Bool). after_by t refused cs n d) e

  pub refused-cores : refused ≡ true → four_after cs n base ram x ≡ cs
  refused-cores t = go (nat_lt 3 n)
    where
      go : (u : Bool) → after_by u refused cs n d ≡ cs
      go true = refl
      go false = ap (λ (r : Bool). after_by false r cs n d) t

  module _ (l : length cs ≡ 4) (low : nat_lt 3 n ≡ false) (h : n < 4) where
    -- one that is not refused
    pub after-made : refused ≡ false → four_after cs n base ram x ≡ made_of cs n d d.tlb.broadcast
    after-made t =
        ap (λ (u : Bool). after_by u refused cs n d) low
        ∙ ap (λ (r : Bool). after_by false r cs n d) t
        ∙ delivered-made cs n d l h

    -- any, of a core with nothing pending: the others hear what it shares
    pub after-quiet : c.tlb.broadcast ≡ None → four_after cs n base ram x ≡ made_of cs n d (shared_in (bare_of c) m x)
    after-quiet q = go refused refl ∙ ap (made_of cs n d) (own-share c m x q)
      where
        go : (r : Bool) → refused ≡ r → four_after cs n base ram x ≡ made_of cs n d d.tlb.broadcast
        go false e = after-made e
        go true e =
            let s : d ≡ c = (refused-same c base ram x e).0 in
            let k : delivered_of (slice_set cs n d) n ≡ cs =
            ap (λ (f : Core). delivered_of (slice_set cs n f) n) s
            ∙ ap (λ (k : List Core). delivered_of k n) (set-same cs n l h)
            ∙ ap (λ (u : Bool). if u then cs else delivered_by c.tlb.broadcast cs n) low
            ∙ ap (λ (v : Option Inval). delivered_by v cs n) q in
            refused-cores e ∙ sym k ∙ delivered-made cs n d l h
