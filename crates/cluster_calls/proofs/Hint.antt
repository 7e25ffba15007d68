-- A translation by the data hint of one of four cores.
use Rattle.std.specs.Prelude.{if◌then◌else◌, ◌≡◌, refl, ℕ, ◌<◌, ◌%◌, ◌^◌, Bool, true, false, List, nat_lt, Option, Some, None, Result, length, slice_index_or, slice_set}
use Rattle.std.proofs.Common.{sym, ap, ◌∙◌, arith, subst, mod-eq_of_lt}
use Rattle.cpu.specs.Core.{fresh_core}
use Rattle.cpu.specs.declared.Core.{Core}
use Rattle.tlb.specs.declared.{access.Kind.Kind, access.NoSuchKind.NoSuchKind}
use Rattle.cluster.specs.Cluster.{core_in}
use Rattle.cluster.proofs.Refused.{at-default, set-same}
use Rattle.call_words.specs.Ops.{translate_call}
use Rattle.call_words.specs.declared.reply.Report.{Report}
use Rattle.quick.specs.Says.{unread, served, served_among}
use Rattle.quick.proofs.Hinting.{kind-served}
use Rattle.core_calls.proofs.Said.{translation-said}
use Rattle.cluster_calls.specs.Four.{is_quiet, served_on}
use Rattle.cluster_calls.specs.Promise.{ClusterPromise}
use Rattle.cluster_calls.proofs.OnCore.{quiet-core}
use Rattle.cluster_calls.proofs.Quiet.{translate-quiet}

module _ (cs : List Core) (n base len va : ℕ) (w : Result Kind NoSuchKind) (l : length cs ≡ 4) where
  -- the core that is looked at is the number's, where the number is of one
  pub among-four : (z : Core) → served_among (slice_index_or cs (n % 4) z) n base len va w ≡ served_on cs n base len va w
  among-four z = go (nat_lt n 4) refl
    where
      go : (b : Bool) → nat_lt n 4 ≡ b → served_among (slice_index_or cs (n % 4) z) n base len va w ≡ served_on cs n base len va w
      go true h =
          let m : n < 4 = grind arith in
          let e : slice_index_or cs (n % 4) z ≡ core_in cs n = ap (λ (i : ℕ). slice_index_or cs i z) (mod-eq_of_lt m) ∙ at-default cs n z l m in
          ap (λ (c : Core). served_among c n base len va w) e
      go false h = rw h refl

  on-quiet : (pa : ℕ) → served_on cs n base len va w ≡ Some pa → (is_quiet cs n ≡ true) × (n < 4) × (served (core_in cs n) base len va w ≡ Some pa)
  on-quiet pa e = grind arith

module _ (cs : List Core) (n base : ℕ) (ram : List ℕ) (va : ℕ) (w : Result Kind NoSuchKind) (l : length cs ≡ 4) (long : length ram < 2 ^ 64) where
  -- what is served: the four cores stay
  pub by-hint : (pa : ℕ) (old : Report) → served_on cs n base (length ram) va w ≡ Some pa
      → ClusterPromise (translate_call w va) base ram cs n 0 old (unread pa) ram cs
  by-hint pa old e =
      let (q, m, s) = on-quiet cs n base (length ram) va w l pa e in
      subst (λ (ds : List Core). ClusterPromise (translate_call w va) base ram cs n 0 old (unread pa) ram ds) (set-same cs n l m)
      (quiet-core (translate_call w va) base ram cs n fresh_core l (translate-quiet w va) true (sym q) refl 0 old (unread pa) ram (core_in cs n)
      (translation-said w va base ram (core_in cs n) 0 old (unread pa) (core_in cs n) (kind-served (core_in cs n) base ram va long w pa s old)))
