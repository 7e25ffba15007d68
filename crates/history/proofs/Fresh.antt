-- The core without a cache answers by the fresh answer of the address.
use Rattle.std.proofs.Common.{arith}
use Rattle.std.specs.Prelude.{◌≡◌, ℕ}
use Rattle.walk.specs.Walk.{fresh_of}
use Rattle.tlb.specs.declared.access.Kind.{Kind}
use Rattle.tlb.specs.Translate.{end_answer, fresh_answer}
use Rattle.history.specs.World.{Plain, need_now, uncached}
use Rattle.history.specs.Instance.{Ram, real}
use Rattle.history.specs.Fresh.{fresh_now}
use Rattle.history.specs.Theorems.{uncached_is_fresh}

pub uncached-end : (c : Plain real) (m : Ram) (k : Kind) (va : ℕ) → uncached real c m k va ≡ end_answer (fresh_now c m va) (need_now real c k) va
unfolding fresh_of
uncached-end c m k va = grind arith

pub uncached-fresh : uncached_is_fresh
unfolding fresh_answer
uncached-fresh c m k va = uncached-end c m k va
