-- What is set is read.
use Rattle.std.specs.Prelude.{if◌then◌else◌, slice_index, slice_set}
use Rattle.std.proofs.Common.{◌≡◌, ◌^◌, Bool, true, false, ltb, refl, lt-ltb, le-ltb}
use Rattle.std.proofs.lemmas.List.{get_or-set_same, get_or-set_other}
use Rattle.tlb.specs.declared.Inval.TheVariants.{All, Page, Asid}
use Rattle.cpu.specs.Core.{reg_of, set_reg}
use Rattle.core_parts.specs.Set.{general_set, general_alone, general_none, broadcast_arrives}

pub set_there : general_set
unfolding reg_of set_reg
set_there c n v l h = rw (lt-ltb n 31 h) (get_or-set_same c.x n v 0 (rw l h))

pub set_alone : general_alone
unfolding reg_of set_reg
set_alone c n m v ne = go (ltb n 31) (ltb m 31)
  where
    go : (b a : Bool) → (if a then slice_index (if b then slice_set c.x n v else c.x) m else 0) ≡ (if a then slice_index c.x m else 0)
    go true true = get_or-set_other c.x n m v 0 ne
    go true false = refl
    go false a = refl

pub set_none : general_none
unfolding reg_of set_reg
set_none c n v h = (rw (le-ltb n 31 h) refl, rw (le-ltb n 31 h) refl)

pub arrives : broadcast_arrives
arrives All h = refl
arrives (Page p) h = refl
arrives (Asid n) h = rw (lt-ltb n (2 ^ 16) h)
