use Rattle.std.proofs.Common.{◌≡◌, ◌-◌, ◌≤◌}
use Rattle.digest.specs.Fold.{digest_from, digest_of, gathered}
use Rattle.digest.specs.Parts.{core_word, register_words}
use Rattle.digest.proofs.parts.registers.Given as goal

abbrev pub invariant-loop-i : goal.invariant-loop-i
invariant-loop-i l = record {
  within : l.i ≤ 68;
  rest : digest_from l.h (gathered (core_word l.core) (68 - l.i) l.i) ≡ digest_of (register_words l.core);
}
