use Rattle.history.proofs.SeenFrom.{seen-bridge, seen-replies, seen-made}
use Rattle.history.proofs.theorems.several_cores.Goals as goal

pub returns-clause-seen : goal.returns-clause-seen
returns-clause-seen c = λ s. seen-bridge c.M.AnyMachine.world c.M.AnyMachine.machine c.M.AnyMachine.sharing

pub returns-clause-replies : goal.returns-clause-replies
returns-clause-replies c = λ s k. seen-replies c.M.AnyMachine.world c.M.AnyMachine.machine c.M.AnyMachine.sharing k c.M.AnyMachine.replies

pub returns-clause-made : goal.returns-clause-made
returns-clause-made c = λ s k. seen-made c.M.AnyMachine.world c.M.AnyMachine.machine c.M.AnyMachine.sharing k c.M.AnyMachine.replies c.M.AnyMachine.says
