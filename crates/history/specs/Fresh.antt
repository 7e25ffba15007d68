-- The core without a cache answers by the fresh answer of the address (walk/specs/Walk.antt), which AT and the page
-- census go by too.
use Rattle.std.specs.Prelude.{ℕ}
use Rattle.walk.specs.Regime.{bank_of}
use Rattle.walk.specs.Walk.{fresh_of}
use Rattle.walk.specs.declared.{fresh.Fresh.Fresh}
use Rattle.history.specs.World.{Plain, regime_now}
use Rattle.history.specs.Instance.{Ram, memory_of, real}

-- the fresh answer of an address under the registers and the level of a core
abbrev pub fresh_now : Plain real → Ram → ℕ → Fresh
fresh_now c m va = fresh_of (bank_of c.regs (regime_now real c)) (regime_now real c) va (memory_of m)
