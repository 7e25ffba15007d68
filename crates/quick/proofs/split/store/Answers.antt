use Rattle.std.proofs.Common.{rules}
use Rattle.quick.proofs.Hinting.{plainly}
use Rattle.quick.proofs.OneStore.{put-two}
use Rattle.quick.proofs.split.store.Goals as goal

pub returns-in-Some-served : goal.returns-in-Some-served
returns-in-Some-served c = search (rules, plainly, put-two)
