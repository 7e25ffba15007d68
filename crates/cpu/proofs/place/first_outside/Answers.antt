use Rattle.std.proofs.Common.{arith, ◌≡◌, ◌+◌, ◌-◌, suc}
use Rattle.cpu.specs.Bytes.{first_outside}
use Rattle.cpu.proofs.place.first_outside.Goals as goal

pub loop-i-preserved : goal.loop-i-preserved
unfolding first_outside
loop-i-preserved c = let s : c.args.n - c.loop-i.i ≡ suc (c.args.n - (c.loop-i.i + 1)) = omega arith in grind arith

pub returns-then-not-inside : goal.returns-then-not-inside
unfolding first_outside
returns-then-not-inside c = let s : c.args.n - c.loop-i.i ≡ suc (c.args.n - (c.loop-i.i + 1)) = omega arith in grind arith

pub returns : goal.returns
unfolding first_outside
returns c = grind arith
