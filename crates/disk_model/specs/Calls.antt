-- What a function that is lent a disk did with it.
use Rattle.std.specs.Prelude.{◌≡◌, ℕ, ◌+◌, List, ◌∷◌}
use Rattle.disk_model.specs.Files.{File, Files, now, with_file}
use Rattle.disk_model.specs.Gates.{Call, IsPlaced, called, MayFailTo}
use Rattle.disk_model.specs.Moments.{AtEachMoment}

-- one device call of this file was made, and succeeded
pub record Makes {D : Type 0} (states : D → List Files) (failures : D → ℕ) (number : ℕ) (call : Call)
    (old new : D) : Type 0 where
  pub state : states new ≡ with_file number (called call (now (states old) number)) (now (states old)) ∷ states old
  pub counted : failures new ≡ failures old

-- one device call of this file was made, and failed
pub record Fails {D : Type 0} (states : D → List Files) (failures : D → ℕ) (number : ℕ) (call : Call)
    (old new : D) : Type 0 where
  pub left : File
  pub may : IsPlaced call (now (states old) number) → MayFailTo call (now (states old) number) left
  pub state : states new ≡ with_file number left (now (states old)) ∷ states old
  pub counted : failures new ≡ failures old + 1

-- The disk was only looked at: each call left the files as they were, and `failed` of the calls failed.
pub record Looks {D : Type 0} (states : D → List Files) (failures : D → ℕ) (honest : D → Type 0) (failed : ℕ)
    (old new : D) : Type 0 where
  pub same : AtEachMoment states old new (λ files. files ≡ now (states old))
  pub failed_so : failures new ≡ failures old + failed
  pub was_honest : honest new → honest old
