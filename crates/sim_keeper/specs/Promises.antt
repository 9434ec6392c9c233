-- What the keeper's functions promise, each as one fact.
use Rattle.std.specs.Prelude.{◌≡◌, ◌⊎◌, ◌≢◌, ◌↔◌, ℕ, ◌+◌, ◌≤◌, List, [], length, Option, None, Some, true, false}
use Rattle.std.specs.Prelude.{Result, Err, IfOk, IfErr, OnOk, OnErr}
use Rattle.map_types.specs.declared.commands.Command.{Command}
use Rattle.map_types.specs.declared.refusals.Refusal.{Refusal}
use Rattle.map_types.specs.declared.refusals.Refusal.TheVariants as refusal
use Rattle.ticket_order.specs.declared.record.Record.{Record}
use Rattle.ticket_order.specs.Legality.{history_of}
use Rattle.disk_model.specs.declared.fill.Fill.{Fill}
use Rattle.disk_model.specs.Files.{Files, now}
use Rattle.disk_model.specs.Gates.{Call}
use Rattle.store_layout.specs.Checkpoints.{Section}
use Rattle.flusher.specs.declared.keeper.Keeper.{Keeper}
use Rattle.store_layout.specs.declared.log_phase.Phase.{Phase}
use Rattle.store_layout.specs.declared.log_phase.Phase.TheVariants as log_phase
use Rattle.store_layout.specs.declared.checkpoint_phase.CheckpointPhase.{CheckpointPhase}
use Rattle.store_layout.specs.declared.checkpoint_phase.CheckpointPhase.TheVariants as checkpoint_phase
use Rattle.checkpoint_file.specs.CheckpointStates.{checkpoint_of}
use Rattle.checkpoint_file.specs.States.{CheckpointState}
use Rattle.flusher.specs.Fitting.{Fits}
use Rattle.flusher.specs.declared.sweeper.Swept.{Swept}
use Rattle.flusher.specs.Sweeping.{StepsOn}
use Rattle.log_records.specs.Layout.{layout_of}
use Rattle.store_layout.specs.Hands.{IsLongest}
use Rattle.flusher.specs.HandSteps.{SameEntries}
use Rattle.flusher.specs.KeeperSteps.{IsFull, IsPast, MayStage, Stages, committed_by}
use Rattle.flusher.specs.Rotating.{StepsLogs, due_of, logs_of}
use Rattle.sim_rules.specs.declared.outcome.DeviceCall.{DeviceCall}
use Rattle.sim_rules.specs.After.{called, failed}
use Rattle.sim_rules.specs.Cases.{IsPossible}
use Rattle.checkpoint_walk.specs.Checkpointing.{Begins, HasAllSections, HasGiven, IsMarkedAbove, MayBegin}
use Rattle.checkpoint_walk.specs.Checkpointing.{StepsCheckpoint, IsNextStripe, call_due, sealing}
use Rattle.store_layout.specs.UsedCheckpoint.{UsesCheckpoint}
use Rattle.checkpoint_walk.specs.Walking.{AfterStep, FitsWalking, GivesPartIn}

-- a checkpoint was to be begun
pub record TriesBegin {D : Type 0} (states : D → List Files) (honest : D → Type 0) (old new : Keeper D)
    (result : Result (Unit {0}) Refusal) : Type 0 where
  pub failed : (result ≡ Err refusal.Failed) ↔ (old.is_broken ≡ true)
  pub wrong_phase : (result ≡ Err refusal.WrongPhase) ↔ ((old.is_broken ≡ false) × (MayBegin old → ⊥))
  pub no_other : IfErr result (λ e. (e ≡ refusal.Failed) ⊎ (e ≡ refusal.WrongPhase))
  pub ok : OnOk result (Begins old new)
  pub given : OnOk result ((n : ℕ) (done : List Command) (p : Record) → Fits states honest n done old p
      → honest old.disk → HasGiven new.checkpoint [] (now (states new.disk)))
  pub err : OnErr result (new ≡ old)
  pub same : new ≡ record old { next = new.next; checkpoint = new.checkpoint }

-- it was to be sealed
pub record TriesSeal {D : Type 0} (states : D → List Files) (old new : Keeper D)
    (result : Result (Unit {0}) Refusal) : Type 0 where
  pub failed : (result ≡ Err refusal.Failed) ↔ (old.is_broken ≡ true)
  pub wrong_phase : (result ≡ Err refusal.WrongPhase) ↔ ((old.is_broken ≡ false) × (HasAllSections old.checkpoint → ⊥))
  pub early : (result ≡ Err refusal.TooEarly) ↔ ((old.is_broken ≡ false) × HasAllSections old.checkpoint
      × IsMarkedAbove old.published old.checkpoint)
  pub no_other : IfErr result (λ e. (e ≡ refusal.Failed) ⊎ (e ≡ refusal.WrongPhase) ⊎ (e ≡ refusal.TooEarly))
  pub ok : OnOk result (new ≡ record old { checkpoint = sealing old.checkpoint })
  pub given : (sections : List Section) → HasGiven old.checkpoint sections (now (states old.disk))
      → HasGiven new.checkpoint sections (now (states new.disk))
  pub err : OnErr result (new ≡ old)

-- ---- device calls

-- this call was one that a caller may make, and it was made
pub record IsMade {D : Type 0} (states : D → List Files) (call : DeviceCall) (old new : D) : Type 0 where
  pub possible : IsPossible (now (states old)) call
  pub state : now (states new) ≡ called call (now (states old))

-- it failed, and left what the fill says
pub record IsLost {D : Type 0} (states : D → List Files) (fill : Fill) (call : DeviceCall) (old new : D) : Type 0 where
  pub possible : IsPossible (now (states old)) call
  pub state : now (states new) ≡ failed fill call (now (states old))

-- the logs were to go on
pub record TriesLog {D : Type 0} (states : D → List Files) (failures : D → ℕ) (honest : D → Type 0) (old new : Keeper D)
    (result : Result Phase Refusal) : Type 0 where
  pub steps : old.is_broken ≡ false → (due_of (logs_of old)).phase ≢ log_phase.Idle
      → StepsLogs states failures honest (logs_of old) (logs_of new) old.disk new.disk result
  pub committed : new.log.committed ≡ old.log.committed + committed_by result old.log.phase old.staged.items
  pub hand : OnOk result (IsPast old.next old.log.phase old.sweeper old.staged.items new.sweeper new.staged.items)
  pub works : OnOk result (new.is_broken ≡ false)
  pub kept : OnErr result ((new.sweeper ≡ old.sweeper) × (new.staged ≡ old.staged) × (new.is_broken ≡ true))
  pub same : new ≡ record old {
    disk = new.disk;
    log = new.log;
    next = new.next;
    sweeper = new.sweeper;
    staged = new.staged;
    is_broken = new.is_broken;
  }

-- the checkpoint was to go on
pub record TriesCheckpoint {D : Type 0} (states : D → List Files) (failures : D → ℕ) (honest : D → Type 0)
    (old new : Keeper D) (result : Result CheckpointPhase Refusal) : Type 0 where
  pub steps : old.is_broken ≡ false → (call : Call) (w : CheckpointState) → call_due old.next old.checkpoint ≡ Some call
      → old.checkpoint ≡ Some w
      → StepsCheckpoint states failures honest call w old new result
  pub works : OnOk result (new.is_broken ≡ false)
  pub breaks : OnErr result (new.is_broken ≡ true)
  pub given : (sections : List Section) (w : CheckpointState) → HasGiven old.checkpoint sections (now (states old.disk))
      → new.checkpoint ≡ Some w
      → OnOk result (HasGiven (Some w) sections (now (states new.disk)))
  pub sealed : (n : ℕ) (done : List Command) (p : Record) (w : CheckpointState) (sections : List Section)
      → Fits states honest n done old p → honest new.disk → old.next ≡ None → old.checkpoint ≡ Some w
      → w.phase ≡ checkpoint_phase.Opened → HasGiven old.checkpoint sections (now (states old.disk))
      → OnOk result (UsesCheckpoint (checkpoint_of w sections) (now (states new.disk)))
  pub same : new ≡ record old {
    disk = new.disk;
    sealed = new.sealed;
    checkpoint = new.checkpoint;
    must_close = new.must_close;
    is_broken = new.is_broken;
  }

-- ---- a batch

-- a batch of at most `most` commands was to be staged
pub record TriesStage {D : Type 0} (most : ℕ) (old new : Keeper D) (result : Result ℕ Refusal) : Type 0 where
  pub failed : (result ≡ Err refusal.Failed) ↔ (old.is_broken ≡ true)
  pub wrong_phase : (result ≡ Err refusal.WrongPhase) ↔ ((old.is_broken ≡ false) × (MayStage old.log old.next → ⊥))
  pub full : (result ≡ Err refusal.LogFull) ↔ ((old.is_broken ≡ false) × MayStage old.log old.next
      × IsFull most old.log old.sweeper.in_hand)
  pub no_other : IfErr result (λ e. (e ≡ refusal.Failed) ⊎ (e ≡ refusal.WrongPhase) ⊎ (e ≡ refusal.LogFull)
      ⊎ (e ≡ refusal.NoMemory))
  pub ok : IfOk result (λ count. (commands : List Command)
      × IsLongest (layout_of old.log.version) most old.sweeper.in_hand commands × (count ≡ length commands)
      × (count ≡ 0 → new ≡ old) ×
      (1 ≤ count → Stages commands old.log old.sweeper.in_hand new.log new.sweeper.in_hand new.staged.items))
  pub err : OnErr result ((new.log ≡ old.log) × (new.staged ≡ old.staged)
      × SameEntries old.sweeper.in_hand new.sweeper.in_hand)
  pub same : new ≡ record old {
    log = new.log;
    sweeper = record old.sweeper { in_hand = new.sweeper.in_hand };
    staged = new.staged;
  }

-- ---- a sweep

-- a sweep made one step
pub record StepsSweep {D : Type 0} (n : ℕ) (old new : Keeper D) (p q : Record)
    (result : Result Swept Refusal) : Type 0 where
  pub steps_on : StepsOn n old.sweeper.sweep old.sweeper.walking old.sweeper.in_hand new.sweeper p q result
  pub same : new ≡ record old { sweeper = new.sweeper }

-- ---- a capture

-- a capture of this stripe, or the one that was under way, made one step, or was refused before its first
pub record StepsCapture {D : Type 0} (states : D → List Files) (honest : D → Type 0) (n stripe : ℕ) (old new : Keeper D)
    (p q : Record) (result : Result (Option ℕ) Refusal) : Type 0 where
  pub failed : (result ≡ Err refusal.Failed) ↔ ((old.capture ≡ None) × (old.is_broken ≡ true))
  pub wrong_phase : (result ≡ Err refusal.WrongPhase)
      ↔ ((old.capture ≡ None) × (old.is_broken ≡ false) × (IsNextStripe stripe old.next old.checkpoint → ⊥))
  pub after : AfterStep n stripe old.capture old new p q result
  pub given : (done : List Command) (sections : List Section) → FitsWalking states honest n done old p → honest old.disk
      → HasGiven old.checkpoint sections (now (states old.disk))
      → GivesPartIn states n (history_of q) result sections new
