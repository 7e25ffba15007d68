-- The words that the digest of a window is taken of.
use Rattle.std.specs.Prelude.{ℕ, ◌+◌, ◌*◌, ◌/◌, List, [], ◌∷◌, length}
use Rattle.word.specs.Ram.{little_endian}
use Rattle.digest.specs.Fold.{digest_of, gathered}

-- word i of lane k of the bytes, which is every fourth from word k on, the lowest byte first; past the last byte they are 0
abbrev pub lane_word : List ℕ → ℕ → ℕ → List ℕ
lane_word ram k i = little_endian ram 8 (i * 32 + k * 8) ∷ []

-- the digest of a lane; each has a word where any has
abbrev pub lane : List ℕ → ℕ → ℕ
lane ram k = digest_of (gathered (lane_word ram k) ((length ram + 31) / 32) 0)

-- base, length, and the four lanes
abbrev pub window_words : ℕ → List ℕ → List ℕ
window_words base ram = base ∷ length ram ∷ lane ram 0 ∷ lane ram 1 ∷ lane ram 2 ∷ lane ram 3 ∷ []
