-- The checkpoint that a keeper writes, as its callers see it.
use Rattle.std.specs.Prelude.{◌≡◌, ◌≢◌, ℕ, ◌+◌, ◌<◌, ◌^◌, Bool, true, List, Option, None, Some, Result, Ok, Err, IfOk}
use Rattle.std.specs.Prelude.{IfErr}
use Rattle.disk_model.specs.Calls.{Makes, Fails}
use Rattle.disk_model.specs.Files.{Files}
use Rattle.disk_model.specs.Gates.{Call}
use Rattle.map_types.specs.declared.refusals.Refusal.{Refusal}
use Rattle.map_types.specs.declared.refusals.Refusal.TheVariants.{Failed}
use Rattle.store_layout.specs.Checkpoints.{Section, checkpoint_file}
use Rattle.gate_log.specs.States as log_states
use Rattle.gate_log.specs.States.{IsResting, LogState}
use Rattle.store_layout.specs.declared.checkpoint_phase.CheckpointPhase.{CheckpointPhase}
use Rattle.store_layout.specs.declared.checkpoint_phase.CheckpointPhase.TheVariants.{Idle, Opened}
use Rattle.checkpoint_file.specs.States.{CheckpointState, TakesSeal, TakesSection, begun, call_in, state_after}
use Rattle.checkpoint_file.specs.CheckpointStates as checkpoint
use Rattle.flusher.specs.declared.keeper.Keeper.{Keeper}

-- ---- a checkpoint is begun

-- No checkpoint runs, the generation that follows the sealed one has a number, and the log rests if it has to be
-- followed by another.
pub record MayBegin {D : Type 0} (keeper : Keeper D) : Type 0 where
  pub none_runs : keeper.checkpoint ≡ None
  pub no_rotation : keeper.next ≡ None
  pub fits : keeper.sealed + 1 < 2 ^ 64
  pub rests : keeper.log.generation ≡ keeper.sealed → IsResting keeper.log

-- The checkpoint goes with a log that is begun behind the committed commands; or with the newest log, which is of its
-- generation already.
pub record Begins {D : Type 0} (old new : Keeper D) : Type 0 where
  pub rotates : old.log.generation ≡ old.sealed → (new.next
      ≡ Some (log_states.begun (old.sealed + 1) old.log.committed))
      × (new.checkpoint ≡ Some (begun (old.sealed + 1) old.log.committed old.stripes.count old.must_close))
  pub goes_with : old.log.generation ≢ old.sealed → (new.next ≡ None)
      × (new.checkpoint ≡ Some (begun (old.sealed + 1) old.log.low old.stripes.count old.must_close))

-- ---- its sections

-- the section of this stripe is the next: the log is there, and each write before it is made
abbrev pub IsNextStripe : ℕ → Option LogState → Option CheckpointState → Type 0
IsNextStripe stripe next None = ⊥
IsNextStripe stripe next (Some w) = (next ≡ None) × TakesSection w × (w.count ≡ stripe)

-- these sections were given to the checkpoint that runs, whose file stands so
abbrev pub HasGiven : Option CheckpointState → List Section → Files → Type 0
HasGiven None sections files = ⊥
HasGiven (Some w) sections files =
    (old : List ℕ) × checkpoint.Stands w old sections (files (checkpoint_file w.generation))

-- ---- its seal

-- all sections of a checkpoint that runs are written, and no seal is under way
abbrev pub HasAllSections : Option CheckpointState → Type 0
HasAllSections None = ⊥
HasAllSections (Some w) = TakesSeal w

-- the greatest mark of its sections is above this count
abbrev pub IsMarkedAbove : ℕ → Option CheckpointState → Type 0
IsMarkedAbove count None = ⊥
IsMarkedAbove count (Some w) = count < w.greatest

-- it is to be sealed
abbrev pub sealing : Option CheckpointState → Option CheckpointState
sealing None = None
sealing (Some w) = Some (record w { phase = CheckpointPhase.Header })

-- ---- the device calls in its file

abbrev pub phase_of : Option CheckpointState → CheckpointPhase
phase_of None = Idle
phase_of (Some w) = w.phase

-- the device call that is due in its file; none while its log is begun
abbrev pub call_due : Option LogState → Option CheckpointState → Option Call
call_due (Some next) writer = None
call_due None None = None
call_due None (Some w) = call_in w.phase w

-- which generation is sealed, which checkpoint is written, and whether the gate of the next one's file is to be closed
pub record Checkpoints : Type 0 where
  pub sealed : ℕ
  pub writer : Option CheckpointState
  pub must_close : Bool

abbrev pub checkpoints_of : {D : Type 0} → Keeper D → Checkpoints
checkpoints_of keeper = record { sealed = keeper.sealed; writer = keeper.checkpoint; must_close = keeper.must_close }

-- With the checkpoint as it is after a call. After the last sync of a seal it is the sealed one, and the next goes to
-- the file of the one before, whose gate is open.
abbrev pub kept_in : CheckpointPhase → CheckpointState → Checkpoints → Checkpoints
kept_in Opened after before = record { sealed = after.generation; writer = None; must_close = true }
kept_in phase after before = record before { writer = Some after }

abbrev pub KeepsAfter : Result CheckpointPhase Refusal → CheckpointPhase → CheckpointState → Checkpoints → Checkpoints
    → Type 0
KeepsAfter (Ok next) phase after old new = new ≡ kept_in phase after old
KeepsAfter (Err refusal) phase after old new = new ≡ record old { writer = Some after }

-- One step of a checkpoint in whose file a device call is due: it makes that call, and no other.
pub record StepsCheckpoint {D : Type 0} (states : D → List Files) (failures : D → ℕ) (honest : D → Type 0) (call : Call)
    (w : CheckpointState) (old new : Keeper D) (result : Result CheckpointPhase Refusal) : Type 0 where
  pub was_honest : honest new.disk → honest old.disk
  -- if it succeeds, the checkpoint goes on
  pub ok : IfOk result (λ phase. (checkpoints_of new ≡ kept_in w.phase (state_after w.phase w) (checkpoints_of old))
      × (phase ≡ (state_after w.phase w).phase)
      × Makes states failures (checkpoint_file w.generation) call old.disk new.disk)
  -- if it fails, nothing of it changes but that it has failed
  pub err : IfErr result (λ refusal. (refusal ≡ Failed)
      × (checkpoints_of new ≡ record (checkpoints_of old) { writer = Some (record w { is_broken = true }) })
      × Fails states failures (checkpoint_file w.generation) call old.disk new.disk)
