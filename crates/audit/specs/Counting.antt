-- What an audit counts of a call: its translations, and those whose answer the core without a cache would not give.
use Rattle.std.specs.Prelude.{ℕ, ◌==◌, Bool, true, not, Ok, Err, count_by}
use Rattle.tlb.specs.Asks.{Given, kind_of, address_of}
use Rattle.tlb.specs.Answers.{Answer}
use Rattle.cpu.specs.Bare.{bare_of}
use Rattle.cpu.specs.declared.Core.{Core}
use Rattle.history.specs.Window.{Ram}
use Rattle.transparency.specs.Steps.{Step}
use Rattle.transparency.specs.Claim.{uncached, answers_of}

-- whether two answers are not one
abbrev pub differ : Answer → Answer → Bool
differ (Ok pa) (Ok other) = not (pa == other)
differ (Err f) (Err g) = not (f.fsc == g.fsc)
differ (Ok pa) (Err g) = true
differ (Err f) (Ok other) = true

-- a translation of a core, by the claim's definition of the core without a cache
abbrev pub is_stale : Core → Ram → Given → Bool
is_stale c m g = differ g.answer (uncached (bare_of c) m (kind_of g.ask) (address_of g.ask))

-- of a step of a core, how many
abbrev pub stale_in : Core → Step → ℕ
stale_in c s = count_by (is_stale c s.ram) (answers_of c s)
