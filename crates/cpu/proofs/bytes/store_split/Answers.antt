use Rattle.std.proofs.Common.{arith, ◌≡◌, ◌+◌, ◌-◌, suc, length}
use Rattle.word.specs.Ram.{stored}
use Rattle.cpu.specs.Bytes.{first_outside, bytes_before, verdict_of, split_stored, store_ram}
use Rattle.cpu.proofs.BytesLaws.{stored-length, before-in}
use Rattle.cpu.proofs.bytes.store_split.Goals as goal

pub loop-i-preserved : goal.loop-i-preserved
unfolding first_outside split_stored
loop-i-preserved c =
    let l = c.loop-i in
    let a = c.args in
    let s : a.n - l.i ≡ suc (a.n - (l.i + 1)) = omega arith in
    let long = stored-length a.base l.ram 1 c.byte_at-pa.result l.v in
    let some = before-in a.base (length l.ram) a.p (l.i + 1) (a.n - (l.i + 1)) a.n (omega arith) in
    let d = bytes_before (first_outside a.base (length l.ram) a.p (l.i + 1) (a.n - (l.i + 1))) a.n in
    let more : d - l.i ≡ suc (d - (l.i + 1)) = omega arith in
    grind arith

pub returns-then-not-write : goal.returns-then-not-write
unfolding verdict_of store_ram first_outside split_stored stored
returns-then-not-write c = let s : c.args.n - c.loop-i.i ≡ suc (c.args.n - (c.loop-i.i + 1)) = omega arith in grind arith

pub returns : goal.returns
unfolding verdict_of store_ram first_outside split_stored
returns c = grind arith
