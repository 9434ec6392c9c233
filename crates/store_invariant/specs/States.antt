-- What the one who writes a store knows, and what its files hold.
use Rattle.std.specs.Prelude.{ℕ, ◌++◌, List, [], Option, None, Some}
use Rattle.checkpoint_file.specs.States.{CheckpointState}
use Rattle.gate_log.specs.States.{LogState}
use Rattle.store_layout.specs.Checkpoints.{Section}
use Rattle.store_layout.specs.Logs.{Batch}
use Rattle.store_layout.specs.Opening.{Opened}

-- what the one who writes the store knows
pub record StoreState : Type 0 where
  -- the generation of the sealed checkpoint
  pub sealed : ℕ
  -- the newest log
  pub log : LogState
  -- the log that is to follow it, until the newest one has ended
  pub next : Option LogState
  -- the checkpoint that is written
  pub writer : Option CheckpointState

-- what the files hold, and what was given to be written there
pub record Held : Type 0 where
  -- the sealed checkpoint, and the batches that are committed behind it
  pub found : Opened
  -- none, or one batch
  pub staged : List Batch
  -- the content of the file of the next checkpoint, before that is begun
  pub other : List ℕ
  -- the sections that the next checkpoint was given
  pub sections : List Section

-- the low ticket of the log that the next checkpoint goes with
abbrev pub low_after : LogState → Option LogState → ℕ
low_after log None = log.low
low_after log (Some next) = next.low

-- the batches of the newest log
abbrev pub newest_batches : List Batch → Option (List Batch) → List Batch
newest_batches first None = first
newest_batches first (Some second) = second

-- the batches of the log that the next checkpoint goes with, which has none before the newest log has ended
abbrev pub next_batches : Option (List Batch) → List Batch
next_batches None = []
next_batches (Some second) = second

-- the newest log has these batches besides
abbrev pub appended : List Batch → Opened → Option (List Batch) → Opened
appended batches found None = record found { first = found.first ++ batches }
appended batches found (Some second) = record found { second = Some (second ++ batches) }

abbrev pub with_batches : List Batch → Opened → Opened
with_batches batches found = appended batches found found.second
