use Rattle.std.specs.Prelude.{◌≡◌, ◌++◌, map, take, drop}
use Rattle.tlb.specs.Tlb.{asid_dropped}
use Rattle.tlb.proofs.Tlb.drop_asid.Given as goal

abbrev pub invariant-loop-e : goal.invariant-loop-e
invariant-loop-e l = l.e-items ≡ map (asid_dropped l.asid) (take l.e-index l.fn.self.entries) ++ drop l.e-index l.fn.self.entries
