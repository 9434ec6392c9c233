-- What one step of a checkpoint does.
use Rattle.std.specs.Prelude.{◌≡◌, ℕ, List, Result, IfOk, IfErr, OnOk, true, false}
use Rattle.disk_model.specs.Files.{Files, now}
use Rattle.disk_model.specs.Gates.{Call}
use Rattle.disk_model.specs.Calls.{Makes, Fails}
use Rattle.disk_model.specs.Moments.{AtEachMoment}
use Rattle.map_types.specs.declared.refusals.Refusal.{Refusal}
use Rattle.map_types.specs.declared.refusals.Refusal.TheVariants.{Failed}
use Rattle.store_layout.specs.Checkpoints.{Section, checkpoint_file}
use Rattle.store_layout.specs.declared.checkpoint_phase.CheckpointPhase.{CheckpointPhase}
use Rattle.checkpoint_file.specs.States.{CheckpointState, state_after}
use Rattle.checkpoint_file.specs.CheckpointStates.{Stands, IsKept}

-- the checkpoint has failed, or its file stands as it is known to
abbrev pub MayAdvance : {D : Type 0} → (D → List Files) → (D → Type 0) → CheckpointState → D → Type 0
MayAdvance states honest w disk =
    w.is_broken ≡ false → honest disk → (old : List ℕ) × (sections : List Section)
    × Stands w old sections (now (states disk) (checkpoint_file w.generation))

-- One step of a checkpoint that has not failed, and in which this device call is due: it makes that call, and no other.
pub record Advances {D : Type 0} (states : D → List Files) (failures : D → ℕ) (honest : D → Type 0) (call : Call)
    (before after : CheckpointState) (disk_old disk_new : D) (result : Result CheckpointPhase Refusal) : Type 0 where
  pub was_honest : honest disk_new → honest disk_old
  -- if it succeeds, the checkpoint goes on
  pub ok : IfOk result (λ phase. (after ≡ state_after before.phase before) × (phase ≡ after.phase)
      × Makes states failures (checkpoint_file before.generation) call disk_old disk_new)
  -- if it fails, nothing of the checkpoint changes but that it has failed
  pub err : IfErr result (λ refusal. (refusal ≡ Failed) × (after ≡ record before { is_broken = true })
      × Fails states failures (checkpoint_file before.generation) call disk_old disk_new)
  pub stands : OnOk result ((old : List ℕ) (sections : List Section)
      → Stands before old sections (now (states disk_old) (checkpoint_file before.generation))
      → Stands after old sections (now (states disk_new) (checkpoint_file before.generation)))
  pub any_moment : (old : List ℕ) (sections : List Section)
      → Stands before old sections (now (states disk_old) (checkpoint_file before.generation))
      → AtEachMoment states disk_old disk_new (IsKept before old sections (now (states disk_old)))
