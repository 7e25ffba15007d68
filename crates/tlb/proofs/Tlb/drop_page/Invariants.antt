use Rattle.std.specs.Prelude.{◌≡◌, ◌++◌, map, take, drop}
use Rattle.tlb.specs.Tlb.{page_dropped}
use Rattle.tlb.proofs.Tlb.drop_page.Given as goal

abbrev pub invariant-loop-e : goal.invariant-loop-e
invariant-loop-e l = l.e-items ≡ map (page_dropped l.generation l.page) (take l.e-index l.fn.self.entries) ++ drop l.e-index l.fn.self.entries
