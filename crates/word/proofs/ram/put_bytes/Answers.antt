use Rattle.std.proofs.Common.{ℕ, ◌∙◌, arith, length-set}
use Rattle.word.proofs.RamLaws.{bytes_turn}
use Rattle.word.proofs.ram.put_bytes.Goals as goal

pub loop-i-preserved : goal.loop-i-preserved
loop-i-preserved c =
    let l = c.loop-i in
    record {
      within = omega (arith, length-set {A = ℕ});
      so_far = bytes_turn l.part l.i l.v _ (omega arith) l.auto.part ∙ l.invariant.so_far;
    }
