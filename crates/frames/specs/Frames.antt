-- Sample frames of a number of cycles: a frame as a number of parts of a cycle, so that what is left of one is a whole number of such parts.
use Rattle.std.specs.Prelude.{if◌then◌else◌, ℕ, eqb, Option, Some, None, ◌*◌, ◌/◌, ◌%◌}
use Rattle.frames.specs.declared.Rate.{Rate}
use Rattle.frames.specs.declared.Rate.TheVariants.{Hz48000, Hz44100}

abbrev pub cycles_a_second : ℕ
cycles_a_second = 1500000000

-- frames a second
abbrev pub rate_of : Rate → ℕ
rate_of Hz48000 = 48000
rate_of Hz44100 = 44100

-- into how many parts a cycle is cut, so that a frame is a whole number of them
abbrev pub parts_of : Rate → ℕ
parts_of Hz48000 = 1
parts_of Hz44100 = 147

-- a frame, in such parts: cycles_a_second / rate_of in lowest terms is frame_of / parts_of
abbrev pub frame_of : Rate → ℕ
frame_of Hz48000 = 31250
frame_of Hz44100 = 5000000

-- the whole frames of a number of cycles, and the parts that are left of the next
abbrev pub whole_of : Rate → ℕ → ℕ
whole_of r total = total * parts_of r / frame_of r

abbrev pub rest_of : Rate → ℕ → ℕ
rest_of r total = total * parts_of r % frame_of r

-- the rate of a number of frames a second
abbrev pub rate_named : ℕ → Option Rate
rate_named n = if eqb n 48000 then Some Hz48000 else if eqb n 44100 then Some Hz44100 else None
