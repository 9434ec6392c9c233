-- A stripe is below the number of stripes.
use Rattle.std.proofs.Common.{ℕ, ◌-◌, ◌<◌, ◌≤◌, List, arith, IsTrue}
use Rattle.std.specs.Prelude.{bit_and}
use Rattle.std.proofs.lemmas.Nat.{and_le_r}
use Rattle.java_hash.specs.Hash.{hash_of, spread_of}
use Rattle.java_hash.specs.Stripes.{stripe_of, is_stripe_count}

pub stripe_of_within : (n : ℕ) (q : List ℕ) → 0 < n → stripe_of n q < n
unfolding stripe_of
stripe_of_within n q h =
    let below : bit_and (spread_of (hash_of q)) (n - 1) ≤ n - 1 = and_le_r (spread_of (hash_of q)) (n - 1) in omega arith

pub some_stripe : (n : ℕ) → IsTrue (is_stripe_count n) → 0 < n
some_stripe n is = grind arith
