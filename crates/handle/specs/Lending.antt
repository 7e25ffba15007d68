-- What a handle lends.
use base.Fml.{Fml}
use denote.Ref.{MutBor}
use denote.Follow.{follows}
use Rattle.cpu.specs.declared.Core.{Core}
use Rattle.handle.specs.declared.Handle.{Handle}
use Rattle.cpu.specs.contracts.Core.{the_row as core_row}
use Rattle.handle.specs.contracts.Handle.{the_row as handle_row}

-- the handle with another core
abbrev pub with_core : Handle → Core → Handle
with_core h c = record h { core = c }

-- once the loan is over, the handle's core is the last value written
abbrev pub lends_core : MutBor Handle → MutBor Core → Fml
lends_core h r = follows handle_row core_row h.ghost_name r.ghost_name (with_core h.now)
