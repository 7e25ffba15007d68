use Rattle.std.proofs.Common.{◌≡◌, true, arith}
use Rattle.std.proofs.lemmas.Grind.{common_steps}
use Rattle.word.specs.Bits.{bit0}
use Rattle.walk.proofs.Levels.{neither_mask}
use Rattle.walk.proofs.regime.Bank.stage1_on.Goals as goal

pub returns-else-self-eq0 : goal.returns-else-self-eq0
returns-else-self-eq0 c =
    let s = c.args.self.now in
    let on : bit0 s.sctlr ≡ true = grind (arith, common_steps, c.if-on.true) in
    let non_secure : bit0 s.scr_el3 ≡ true = grind (arith, common_steps, c.if-self-eq0.false) in
    rw (c.in-El1.is, neither_mask s.hcr_el2, on, non_secure)
