use Rattle.std.proofs.Common.{ℕ, ◌≡◌, ◌^◌, ◌⊎◌, ⊎_elim, refl, sym, subst, arith, IsTrue}
use Rattle.std.specs.Int.Count.{count_trailing_zeros}
use Rattle.java_hash.specs.Stripes.{is_stripe_count}
use Rattle.java_hash.proofs.stripe_count.StripeCount.shift.Goals as goal

IsPower : ℕ → Type 0
IsPower n = 2 ^ count_trailing_zeros 16 n ≡ n

one_of : (n : ℕ) → IsTrue (is_stripe_count n) → (n ≡ 1) ⊎ ((n ≡ 2) ⊎ ((n ≡ 4) ⊎ ((n ≡ 8) ⊎ ((n ≡ 16) ⊎ ((n ≡ 32) ⊎ ((n ≡ 64) ⊎ ((n ≡ 128) ⊎ (n ≡ 256))))))))
one_of n is = grind arith

-- each number of stripes is a power of two
power : (n : ℕ) → IsTrue (is_stripe_count n) → IsPower n
unfolding count_trailing_zeros IsPower
power n is =
    let at : (k : ℕ) → IsPower k → n ≡ k → IsPower n = λ k is_power e. subst IsPower (sym e) is_power in
    ⊎_elim (at 1 refl) (⊎_elim (at 2 refl) (⊎_elim (at 4 refl) (⊎_elim (at 8 refl) (⊎_elim (at 16 refl) (⊎_elim (at 32 refl) (⊎_elim (at 64 refl) (⊎_elim (at 128 refl) (at 256 refl)))))))) (one_of n is)

pub returns-clause-power : goal.returns-clause-power
unfolding IsPower
returns-clause-power c = power c.args.self.count c.args.self.allowed
