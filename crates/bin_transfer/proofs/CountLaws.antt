-- Numbers of bins.
use Rattle.std.proofs.Common.{◌≡◌, ℕ, ◌*◌, ◌^◌, ◌<◌, ◌≤◌, suc, refl, sym, ap, ◌∙◌, inl, inr, arith}
use Rattle.std.proofs.Math.Nat.{pow-succ'}
use Rattle.std.proofs.Math.Pow.{pow_mono}
use Rattle.std.proofs.lemmas.Bool.{cases_lt}
use Rattle.std.proofs.lemmas.Nat.{pow_pos}
use Rattle.bin_table.specs.Tables.{IsBinCount, most_bins}
use Rattle.bin_transfer.specs.Due.{due_from}

-- of two different powers of two the greater is at least twice the other
twice_at_least : (a b i j : ℕ) → a ≡ 2 ^ i → b ≡ 2 ^ j → a < b → 2 * a ≤ b
twice_at_least a b i j is_a is_b below =
    elim (cases_lt i j) as (λ _. 2 * a ≤ b) [
      | inl lt ↦ let up : 2 ^ suc i ≤ 2 ^ j = pow_mono lt in let twice : 2 ^ suc i ≡ 2 * 2 ^ i = pow-succ' 2 i in omega arith
      | inr le ↦ let down : 2 ^ j ≤ 2 ^ i = pow_mono le in absurd (omega arith)
    ]

pub double : (m : ℕ) → IsBinCount m → m < most_bins → IsBinCount (2 * m)
double m count below = record {
  exponent = suc count.exponent;
  power = ap (λ n. 2 * n) count.power ∙ sym (pow-succ' 2 count.exponent);
  within = twice_at_least m most_bins count.exponent 20 count.power refl below;
}

pub some_bins : (m : ℕ) → IsBinCount m → 0 < m
some_bins m count = let h : 0 < 2 ^ count.exponent = pow_pos count.exponent in let is = count.power in omega arith

-- what makes a growth of so many bins due makes one of each allowed number due that is below twice as many
pub due_below_double : (entries bins fewer : ℕ) → IsBinCount bins → IsBinCount fewer → due_from bins ≤ entries → fewer < 2 * bins → due_from fewer ≤ entries
due_below_double entries bins fewer count other due below =
    elim (cases_lt bins fewer) as (λ _. due_from fewer ≤ entries) [
      | inl lt ↦ let twice : 2 * bins ≤ fewer = twice_at_least bins fewer count.exponent other.exponent count.power other.power lt in absurd (omega arith)
      | inr le ↦ omega arith
    ]
