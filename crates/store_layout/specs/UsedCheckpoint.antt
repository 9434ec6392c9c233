-- Which checkpoint the files use.
use Rattle.std.specs.Prelude.{◌≡◌}
use Rattle.disk_model.specs.Files.{Contents, Files, Leaves}
use Rattle.store_layout.specs.Checkpoints.{Checkpoint}
use Rattle.store_layout.specs.Opening.{Holds, Opened as Found}

-- these contents use this checkpoint
abbrev pub IsUsed : Checkpoint → Contents → Type 0
IsUsed k contents = (found : Found) × Holds contents found × (found.checkpoint ≡ k)

-- What is read, and whatever a stop leaves, uses this checkpoint.
pub record UsesCheckpoint (k : Checkpoint) (files : Files) : Type 0 where
  pub read : IsUsed k (λ n. (files n).seen)
  pub left : (contents : Contents) → Leaves files contents → IsUsed k contents
