-- The stripe and the bin of a key.
use Rattle.std.specs.Prelude.{ℕ, ◌-◌, ◌/◌, Bool, ◌==◌, ◌||◌, List, bit_and}
use Rattle.java_hash.specs.Hash.{hash_of, spread_of}

-- a power of two from 1 to 256
abbrev pub is_stripe_count : ℕ → Bool
is_stripe_count n = n == 1 || n == 2 || n == 4 || n == 8 || n == 16 || n == 32 || n == 64 || n == 128 || n == 256

-- the stripe of a text among `stripes` stripes
unfoldable pub stripe_of : ℕ → List ℕ → ℕ
stripe_of stripes text = bit_and (spread_of (hash_of text)) (stripes - 1)

-- the bin of a spread among `bins` bins of a stripe; a division by a power of two is the shift by its logarithm
abbrev pub bin_of : ℕ → ℕ → ℕ → ℕ
bin_of stripes bins spread = bit_and (spread / stripes) (bins - 1)
