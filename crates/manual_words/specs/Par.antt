-- PAR_EL1, its two formats read: F<0> is 1, FST<6:1>; F is 0, ATTR<63:56>, PA<47:12>, NS<9>, SH<8:7>.
use Rattle.std.specs.Prelude.{if◌then◌else◌, ℕ, ◌*◌, ◌^◌}
use Rattle.word.specs.Bits.{bit0, bit_on, field}
use Rattle.manual_words.specs.declared.par.Par.{Par}
use Rattle.manual_words.specs.declared.par.Par.TheVariants.{Fault, Address}

abbrev pub par_of : ℕ → Par
par_of n =
    if bit0 n then Fault (field n 1 6)
    else Address (field n 56 8) (field n 12 36 * 2 ^ 12) (bit_on n 9) (field n 7 2)
