use Rattle.std.proofs.Common.{arith, refl}
use Rattle.word.proofs.RamLaws.{four-bytes, rest-index}
use Rattle.word.proofs.ram.load_le.Goals as goal

-- a word is the sum of its bytes at their places
pub returns-in-Word : goal.returns-in-Word
returns-in-Word c =
    let byte = rest-index c.args.ram.now c.args.at in
    rw (c.in-Word.is, four-bytes c.args.ram.now c.args.at)
    (omega (arith, byte 0 c.args.at (omega arith), byte 1 _ refl, byte 2 _ refl, byte 3 _ refl))
