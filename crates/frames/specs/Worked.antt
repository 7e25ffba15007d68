-- Totals worked out by hand: the edges of a frame, a second, and the largest.
use Rattle.std.specs.Prelude.{ℕ, ◌≡◌, ◌^◌, ◌-◌}
use Rattle.frames.specs.declared.Rate.{Rate}
use Rattle.frames.specs.declared.Rate.TheVariants.{Hz48000, Hz44100}
use Rattle.frames.specs.Frames.{whole_of, rest_of}

-- the total at the rate is these whole frames and this rest
abbrev pub Worked : Rate → ℕ → ℕ → ℕ → Type 0
Worked r total whole rest = (whole_of r total ≡ whole) × (rest_of r total ≡ rest)

abbrev pub WorkedTotals : Type 0
WorkedTotals
    = Worked Hz48000 0 0 0
    × Worked Hz44100 0 0 0
    × Worked Hz48000 31249 0 31249
    × Worked Hz48000 31250 1 0
    × Worked Hz44100 34013 0 4999911
    × Worked Hz44100 34014 1 58
    × Worked Hz48000 1500000000 48000 0
    × Worked Hz44100 1500000000 44100 0
    × Worked Hz48000 (2 ^ 64 - 1) 590295810358705 20365
    × Worked Hz44100 (2 ^ 64 - 1) 542334275767060 4087405
