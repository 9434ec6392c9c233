-- Which of the two checkpoints is used.
use Rattle.std.specs.Prelude.{◌≡◌, ℕ, true, None}
use Rattle.store_layout.specs.Checkpoints.{is_sealed}
use Rattle.store_layout.specs.Faults.{head_fault}
use Rattle.store_layout.specs.Opening.{Contents, heads_fault, newest_file}

-- no head has a fault, and the checkpoint in this file is used
pub record IsUsed (contents : Contents) (file : ℕ) : Type 0 where
  pub faultless : heads_fault contents ≡ None
  pub newest : file ≡ newest_file contents
  pub opened : is_sealed (contents file) ≡ true
  pub head : head_fault file (contents file) ≡ None
