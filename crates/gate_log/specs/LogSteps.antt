-- What one step of a log does.
use Rattle.std.specs.Prelude.{◌≡◌, ℕ, List, [], ◌++◌, Some, Result, IfOk, IfErr, OnOk, true, false}
use Rattle.disk_model.specs.Calls.{Makes, Fails}
use Rattle.disk_model.specs.Files.{Files, now}
use Rattle.disk_model.specs.Gates.{Call}
use Rattle.disk_model.specs.Moments.{AtEachMoment}
use Rattle.map_types.specs.declared.refusals.Refusal.{Refusal}
use Rattle.map_types.specs.declared.refusals.Refusal.TheVariants.{Failed}
use Rattle.store_layout.specs.Logs.{Batch, log_file}
use Rattle.store_layout.specs.declared.log_phase.Phase.{Phase}
use Rattle.store_layout.specs.declared.log_phase.Phase.TheVariants.{Opened}
use Rattle.gate_log.specs.States.{LogState, call_in, log_after}
use Rattle.gate_log.specs.LogStates.{Stands, IsKept}

-- the batches that are committed after a step
abbrev pub committed_after : Phase → List Batch → List Batch → List Batch
committed_after Opened batches staged = batches ++ staged
committed_after phase batches staged = batches

-- and those that are still staged
abbrev pub staged_after : Phase → List Batch → List Batch
staged_after Opened staged = []
staged_after phase staged = staged

-- the log has failed, or its file stands as it is known to
abbrev pub MayAdvance : {D : Type 0} → (D → List Files) → (D → Type 0) → LogState → D → Type 0
MayAdvance states honest log disk =
    log.is_broken ≡ false → honest disk → (batches : List Batch) × (staged : List Batch)
    × Stands log batches staged (now (states disk) (log_file log.generation))

-- One step of a log that has not failed, and in which a device call is due: it makes that call, and no other.
pub record Advances {D : Type 0} (states : D → List Files) (failures : D → ℕ) (honest : D → Type 0) (old new : LogState)
    (disk_old disk_new : D) (result : Result Phase Refusal) : Type 0 where
  pub call : Call
  pub due : call_in old.phase old ≡ Some call
  pub was_honest : honest disk_new → honest disk_old
  -- if it succeeds, the log goes on
  pub ok : IfOk result (λ phase. (new ≡ log_after old.phase old) × (phase ≡ new.phase)
      × Makes states failures (log_file old.generation) call disk_old disk_new)
  -- if it fails, nothing of the log changes but that it has failed
  pub err : IfErr result (λ refusal. (refusal ≡ Failed) × (new ≡ record old { is_broken = true })
      × Fails states failures (log_file old.generation) call disk_old disk_new)
  pub stands : OnOk result ((batches staged : List Batch)
      → Stands old batches staged (now (states disk_old) (log_file old.generation))
      → Stands new (committed_after old.phase batches staged) (staged_after old.phase staged)
      (now (states disk_new) (log_file old.generation)))
  pub any_moment : (batches staged : List Batch) → Stands old batches staged
      (now (states disk_old) (log_file old.generation))
      → AtEachMoment states disk_old disk_new (IsKept old batches staged (now (states disk_old)))
