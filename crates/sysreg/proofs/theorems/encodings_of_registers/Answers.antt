use Rattle.sysreg.proofs.EncodingLaws.{key-names, key_one}
use Rattle.sysreg.proofs.WriteLaws.{named-key, wide_key, key-in-range}
use Rattle.sysreg.proofs.theorems.encodings_of_registers.Goals as goal

pub returns : goal.returns
returns c = assumption (key-names, named-key, key_one, wide_key, key-in-range)
