use Rattle.std.proofs.Common.{ap, ◌∙◌, arith}
use Rattle.saved.specs.CoreOf.{core_of}
use Rattle.saved.specs.WordsOf.{word_of, words_of}
use Rattle.saved.proofs.Filling.{filled_end}
use Rattle.saved.proofs.Saving.{saved_again}
use Rattle.saved.proofs.save.save.Goals as goal

pub returns-clause-core : goal.returns-clause-core
unfolding words_of
returns-clause-core c =
    ap core_of (filled_end (word_of c.args.core.now) 5213 c.loop-place.place c.loop-place.words (omega arith) c.loop-place.invariant.so_far)
    ∙ saved_again c.args.core.now c.fits.ensures
