-- What a log writes ahead of its batches.
use Rattle.std.specs.Prelude.{◌≡◌, ℕ, ◌+◌, ◌<◌, ◌≤◌, List, length, replicate, None, Result, IfErr, OnOk, true}
use Rattle.disk_model.specs.Calls.{Makes, Fails}
use Rattle.disk_model.specs.Files.{Files, now}
use Rattle.disk_model.specs.Gates.{writes}
use Rattle.disk_model.specs.Moments.{AtEachMoment}
use Rattle.map_types.specs.declared.refusals.Refusal.{Refusal}
use Rattle.map_types.specs.declared.refusals.Refusal.TheVariants.{Failed}
use Rattle.store_layout.specs.Logs.{Batch, log_file, most_log_bytes}
use Rattle.store_layout.specs.declared.log_phase.Phase.TheVariants.{Staged}
use Rattle.gate_log.specs.States.{LogState}
use Rattle.gate_log.specs.LogStates.{Stands, IsKept}

-- A log is long once its gate has this place. Zeros are written ahead in long logs alone, so that a small log's file
-- has the bytes of its frames and no more.
abbrev pub long_log_bytes : ℕ
long_log_bytes = 65536

-- A batch is staged in a long log, and doesn't reach past `count` zeros; these end within the greatest length of a log.
pub record IsAheadDue (count : ℕ) (log : LogState) : Type 0 where
  pub staged : log.phase ≡ Staged
  pub goes_on : log.ending ≡ None
  pub long : long_log_bytes ≤ log.gate
  pub covers : length log.frame < count
  pub within : log.gate + 1 + count ≤ most_log_bytes

-- One write of `count` zeros behind the closed gate, and no other call. The log stands as it stood.
pub record WritesAhead {D : Type 0} (states : D → List Files) (failures : D → ℕ) (honest : D → Type 0) (count : ℕ)
    (old new : LogState) (disk_old disk_new : D) (result : Result (Unit {0}) Refusal) : Type 0 where
  pub due : IsAheadDue count old
  pub was_honest : honest disk_new → honest disk_old
  pub ok : OnOk result ((new ≡ old) × Makes states failures (log_file old.generation)
      (writes (old.gate + 1) (replicate count 0)) disk_old disk_new)
  -- if it fails, nothing of the log changes but that it has failed
  pub err : IfErr result (λ refusal. (refusal ≡ Failed) × (new ≡ record old { is_broken = true })
      × Fails states failures (log_file old.generation) (writes (old.gate + 1) (replicate count 0)) disk_old disk_new)
  pub stands : OnOk result ((batches staged : List Batch)
      → Stands old batches staged (now (states disk_old) (log_file old.generation))
      → Stands new batches staged (now (states disk_new) (log_file old.generation)))
  pub any_moment : (batches staged : List Batch) → Stands old batches staged
      (now (states disk_old) (log_file old.generation))
      → AtEachMoment states disk_old disk_new (IsKept old batches staged (now (states disk_old)))
