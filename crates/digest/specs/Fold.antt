-- A digest of words: h becomes 3h + w modulo 2^64, and then h xor h / 2^32.
use Rattle.std.specs.Prelude.{ℕ, zero, suc, ◌+◌, ◌*◌, ◌/◌, ◌^◌, List, [], ◌∷◌, ◌++◌, bit_xor}
use Rattle.word.specs.Bits.{wrap}

-- a number with its high half mixed into its low
abbrev pub mixed : ℕ → ℕ
mixed x = bit_xor x (x / 2 ^ 32)

-- a digest with one word more
unfoldable pub joined : ℕ → ℕ → ℕ
joined h w = mixed (wrap (3 * h + w))

-- a digest with more words, one after another
unfoldable pub digest_from : ℕ → List ℕ → ℕ
digest_from h [] = h
digest_from h (w ∷ ws) = digest_from (joined h w) ws

abbrev pub digest_of : List ℕ → ℕ
digest_of ws = digest_from 0x9E3779B97F4A7C15 ws

-- the words of n things from thing i on, one thing after another
unfoldable pub gathered : (ℕ → List ℕ) → ℕ → ℕ → List ℕ
gathered f zero i = []
gathered f (suc n) i = f i ++ gathered f n (i + 1)
