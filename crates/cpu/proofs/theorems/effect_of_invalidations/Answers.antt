use Rattle.tlb.specs.Tlb.{flush_of, drop_page_of, drop_asid_of, retag_of, invalidate_of, broadcast_of, invalidated_of}
use Rattle.system.specs.Decode.{named, decode_of}
use Rattle.system.specs.Tlbi.{scope_of, what_of, tlbi_of}
use Rattle.cpu.specs.Core.{after_access, reg_of}
use Rattle.cpu.specs.System.{tlbi_core, sys_of}
use Rattle.cpu.proofs.theorems.effect_of_invalidations.Goals as goal

pub returns : goal.returns
unfolding sys_of reg_of named decode_of tlbi_core after_access tlbi_of what_of scope_of invalidated_of invalidate_of broadcast_of flush_of drop_page_of drop_asid_of retag_of
returns c = assumption
