use Rattle.windows_report.proofs.Addresses.{translated}
use Rattle.windows_report.proofs.theorems.answers_are_translated.Goals as goal

pub returns : goal.returns
returns c = translated
