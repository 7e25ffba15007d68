-- What a total's rows hold.
use Rattle.std.specs.Prelude.{ℕ, List, [], ◌∷◌, Option, Some, None}
use Rattle.frames.specs.declared.Rate.{Rate}
use Rattle.frames.specs.declared.Rate.TheVariants.{Hz48000, Hz44100}
use Rattle.frames.specs.Frames.{rate_of, parts_of, whole_of, rest_of}
use Rattle.frames_report.specs.declared.Row.{Row}

-- a total at a rate
abbrev pub row_of : ℕ → Rate → Row
row_of cycles r =
    record { frames_a_second = rate_of r; frames = record { 0 = whole_of r cycles }; rest = rest_of r cycles; parts_of_a_cycle = parts_of r }

-- at a rate that is named one row, of that rate; else one of each, 48,000 a second first
abbrev pub rows_of : ℕ → Option Rate → List (Option Row)
rows_of cycles (Some r) = Some (row_of cycles r) ∷ None ∷ []
rows_of cycles None = Some (row_of cycles Hz48000) ∷ Some (row_of cycles Hz44100) ∷ []
