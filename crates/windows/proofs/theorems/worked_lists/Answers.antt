use Rattle.windows.specs.Cases.{worked-bytes, worked-answers, worked-blocks}
use Rattle.windows.proofs.theorems.worked_lists.Goals as goal

pub returns-clause-bytes : goal.returns-clause-bytes
returns-clause-bytes c = worked-bytes

pub returns-clause-answers : goal.returns-clause-answers
returns-clause-answers c = worked-answers

pub returns-clause-blocks : goal.returns-clause-blocks
returns-clause-blocks c = worked-blocks
