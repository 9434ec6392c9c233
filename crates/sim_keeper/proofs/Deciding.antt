-- Tests of the world, and what they decide.
use Rattle.std.proofs.Common.{◌≡◌, ◌≢◌, ◌⊎◌, inl, inr, ℕ, ◌<◌, ◌≤◌, Bool, true, false, ◌&&◌, ◌==◌, not, nat_lt, refl, arith}
use Rattle.std.proofs.lemmas.Bool.Decides.{nat_tests}
use Rattle.store_layout.specs.declared.log_phase.Phase.{Phase}
use Rattle.store_layout.specs.declared.log_phase.Phase.TheVariants.{Idle, Header, HeaderWritten, Staged, Written, Synced, Opened}
use Rattle.sim_rules.specs.World.{is_resting}
use Rattle.sim_keeper.specs.Showing.{committing}

pub either : (b : Bool) → (b ≡ true) ⊎ (b ≡ false)
either true = inl refl
either false = inr refl

pub and_true : (x y : Bool) → x ≡ true → y ≡ true → (x && y) ≡ true
and_true true true a b = refl
and_true true false a b = absurd cc
and_true false y a b = absurd cc

pub not_true : (b : Bool) → not b ≡ true → b ≡ false
not_true true e = absurd cc
not_true false e = refl

pub not_false : (b : Bool) → b ≡ false → not b ≡ true
not_false true e = absurd cc
not_false false e = refl

pub two_ways : (b : Bool) → b ≡ true → b ≡ false → ⊥
two_ways b a e = cc

pub is_less : (a b : ℕ) → nat_lt a b ≡ true → a < b
is_less a b e = grind (arith, nat_tests)

pub less_is : (a b : ℕ) → a < b → nat_lt a b ≡ true
less_is a b e = grind (arith, nat_tests)

pub is_same : (a b : ℕ) → (a == b) ≡ true → a ≡ b
is_same a b e = grind (arith, nat_tests)

pub same_is : (a b : ℕ) → a ≡ b → (a == b) ≡ true
same_is a b e = grind (arith, nat_tests)

pub is_other : (a b : ℕ) → (a == b) ≡ false → a ≢ b
is_other a b e = grind (arith, nat_tests)

pub other_is : (a b : ℕ) → a ≢ b → (a == b) ≡ false
other_is a b e = grind (arith, nat_tests)

pub not_less : (a b : ℕ) → (a < b → ⊥) → b ≤ a
not_less a b e = grind arith

-- a log that commits isn't idle
pub resting_idle : (phase : Phase) (n : ℕ) → is_resting (committing phase n) ≡ true → phase ≡ Idle
resting_idle Idle n e = refl
resting_idle Header n e = absurd cc
resting_idle HeaderWritten n e = absurd cc
resting_idle Staged n e = absurd cc
resting_idle Written n e = absurd cc
resting_idle Synced n e = absurd cc
resting_idle Opened n e = absurd cc
