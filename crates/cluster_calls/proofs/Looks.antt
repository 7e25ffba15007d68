-- How a call that only looks keeps its promise on one of four cores.
use Rattle.std.specs.Prelude.{◌≡◌, refl, ℕ, ◌<◌, ◌≤◌, true, nat_lt, List, Result, Ok, Err, length, slice_index_or}
use Rattle.std.proofs.Common.{ap, ◌∙◌, arith, subst}
use Rattle.cpu.specs.Bare.{Bare, bare_of}
use Rattle.cpu.specs.Check.{core_of, number_of}
use Rattle.cpu.specs.declared.call.Call.TheVariants.{Census}
use Rattle.history.specs.Window.{window_of}
use Rattle.transparency.specs.Census.{bare_counts}
use Rattle.transparency.specs.Replies.{bare_reply}
use Rattle.transparency.proofs.Census.{counts-bare}
use Rattle.transparency.proofs.Looks.{reply-bare}
use Rattle.call_words.specs.Replies.{code_by}
use Rattle.core_calls.specs.Windows.{found_number, found_words, bare_windows}
use Rattle.core_calls.specs.Flip.{flip_number, flip_words, bare_flip}
use Rattle.cpu.specs.declared.{Core.Core, check.Check.Check}
use Rattle.cluster.specs.Cluster.{core_in, Turn, cluster_after}
use Rattle.cluster.proofs.EveryCore.{runs-bare}
use Rattle.core_calls.specs.Promise.{CensusPromise, WindowsPromise, FlipPromise}
use Rattle.cluster_calls.specs.Four.{delivered_after, if_core}
use Rattle.cluster_calls.specs.Looks.{ClusterCensus, ClusterWindows, ClusterFlip, bare_at}
use Rattle.cluster.proofs.Refused.{below, at-default}
use Rattle.cluster_calls.proofs.OnCore.{above, refused-stays, of-four, of-none}

-- a core's registers and level are those of the core without a cache
bare-is : (cs : List Core) (n : ℕ) → n ≤ 3 → (list : List Turn) → cs ≡ cluster_after list → bare_of (core_in cs n) ≡ bare_at list n
bare-is cs n low list made = ap (λ (ds : List Core). bare_of (core_in ds n)) made ∙ runs-bare n n list low low

no-core : (n : ℕ) → nat_lt 3 n ≡ true → n ≤ 3 → ⊥
no-core n t h = grind arith

module _ (cs : List Core) (n : ℕ) (q : Result ℕ Check) where
  module _ (i : ℕ) (z : Core) (k : ℕ) (ds : List Core) (l : length cs ≡ 4) (a : q ≡ core_of n) (b : q ≡ Ok i) (es : ds ≡ delivered_after k cs i) where
    there : slice_index_or cs i z ≡ core_in cs n
    there = let (f, s, m) = below n q i a b in at-default cs i z l (rw s m) ∙ ap (core_in cs) s

    cores : ds ≡ if_core n (delivered_after k cs n) cs
    cores = let (f, s, m) = below n q i a b in es ∙ ap (delivered_after k cs) s ∙ of-four n _ cs f

    stays : 0 < k → k < 256 → ds ≡ cs
    stays low high = es ∙ refused-stays k cs i low high

    four : {A : Type 0} (some none : A) → some ≡ if_core n some none
    four some none = of-four n some none (below n q i a b).0

    pub census-on : (first pages base : ℕ) (ram old counts : List ℕ) → CensusPromise first pages base ram (slice_index_or cs i z) k old counts
        → ClusterCensus first pages base ram cs n k old counts ds
    census-on first pages base ram old counts p =
        let p : CensusPromise first pages base ram (core_in cs n) k old counts =
        subst (λ (c : Core). CensusPromise first pages base ram c k old counts) there p in
        record {
          code = p.code ∙ four _ 8;
          counted = p.counted ∙ four _ old;
          cores = cores;
          unchanged = λ low high. (stays low high, p.unchanged low);
          faithful = λ low list made.
              let m = window_of base ram in let same = bare-is cs n low list made in (
                p.counted ∙ counts-bare (core_in cs n) m first pages old ∙ ap (λ (b : Bare). bare_counts b m first pages old) same,
                p.code ∙ ap code_by (reply-bare (core_in cs n) m (Census first pages) refl)
                    ∙ ap (λ (b : Bare). code_by (bare_reply b m (Census first pages)).reply) same,
              );
        }

    pub windows-on : (bytes : List ℕ) (base : ℕ) (ram old words : List ℕ) → WindowsPromise bytes base ram (slice_index_or cs i z) k old words
        → ClusterWindows bytes base ram cs n k old words ds
    windows-on bytes base ram old words p =
        let p : WindowsPromise bytes base ram (core_in cs n) k old words =
        subst (λ (c : Core). WindowsPromise bytes base ram c k old words) there p in
        record {
          code = p.code ∙ four _ 8;
          told = p.told ∙ four _ old;
          cores = cores;
          kept = stays;
          unchanged = p.unchanged;
          faithful = λ low list made.
              let m = window_of base ram in let same = bare-is cs n low list made in (
                p.code ∙ ap (λ (b : Bare). found_number (bare_windows b m bytes)) same,
                p.told ∙ ap (λ (b : Bare). found_words (bare_windows b m bytes) old) same,
              );
        }

    pub flip-on : (va kind user base : ℕ) (ram old words ys : List ℕ) → FlipPromise va kind user base ram (slice_index_or cs i z) k old words ys
        → ClusterFlip va kind user base ram cs n k old words ys ds
    flip-on va kind user base ram old words ys p =
        let p : FlipPromise va kind user base ram (core_in cs n) k old words ys =
        subst (λ (c : Core). FlipPromise va kind user base ram c k old words ys) there p in
        record {
          code = p.code ∙ four _ 8;
          told = p.told ∙ four _ old;
          bytes = p.bytes;
          cores = cores;
          unchanged = λ low high. (stays low high, p.unchanged low);
          faithful = λ low list made.
              let m = window_of base ram in let same = bare-is cs n low list made in (
                p.code ∙ ap (λ (b : Bare). flip_number (bare_flip b m va kind user)) same,
                p.told ∙ ap (λ (b : Bare). flip_words (bare_flip b m va kind user) old) same,
              );
        }

  module _ (e : Check) (k : ℕ) (a : q ≡ core_of n) (b : q ≡ Err e) (h : k ≡ number_of e) where
    eight : (some : ℕ) → k ≡ if_core n some 8
    eight some = let (t, s) = above n q e a b in h ∙ s ∙ of-none n some 8 t

    none : {A : Type 0} (some none : A) → none ≡ if_core n some none
    none some other = of-none n some other (above n q e a b).0

    nowhere : n ≤ 3 → ⊥
    nowhere = no-core n (above n q e a b).0

    pub census-off : (first pages base : ℕ) (ram old : List ℕ) → ClusterCensus first pages base ram cs n k old old cs
    census-off first pages base ram old =
        record { code = eight _; counted = none _ old; cores = none _ cs; unchanged = λ low high. (refl, refl); faithful = λ low. absurd (nowhere low) }

    pub windows-off : (bytes : List ℕ) (base : ℕ) (ram old : List ℕ) → ClusterWindows bytes base ram cs n k old old cs
    windows-off bytes base ram old =
        record { code = eight _; told = none _ old; cores = none _ cs; kept = λ low high. refl; unchanged = λ low high. refl; faithful = λ low. absurd (nowhere low) }

    pub flip-off : (va kind user base : ℕ) (ram old : List ℕ) → ClusterFlip va kind user base ram cs n k old old ram cs
    flip-off va kind user base ram old =
        record { code = eight _; told = none _ old; bytes = refl; cores = none _ cs; unchanged = λ low high. (refl, refl); faithful = λ low. absurd (nowhere low) }
