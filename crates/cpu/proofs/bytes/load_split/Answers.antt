use Rattle.std.proofs.Common.{rules}
use Rattle.cpu.proofs.BytesLaws.{lie-judged}
use Rattle.cpu.proofs.bytes.load_split.Goals as goal

pub split_value-requires-clause-lie : goal.split_value-requires-clause-lie
split_value-requires-clause-lie c = search (lie-judged, rules)
