-- The numbers of the standard streams.
use Rattle.std.specs.Prelude.{ℕ, ◌<◌, List}

-- IsTaken says that while files are open no other one gets a number: here that holds of the input, the output and the
-- error output
abbrev pub AreTaken : {File : Type 0} → (List File → ℕ → Type 0) → List File → Type 0
AreTaken IsTaken held = (number : ℕ) → number < 3 → IsTaken held number
