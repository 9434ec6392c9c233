-- What the locked value keeps: a keeper and its pass, between any two of its calls.
use Rattle.std.specs.Prelude.{◌≡◌, ◌⊎◌, ℕ, ◌≤◌, max, List, [], Option, None, Some, Bool, true, false}
use Rattle.disk_model.specs.Files.{Files, now}
use Rattle.map_types.specs.declared.commands.Command.{Command}
use Rattle.map_model.specs.Histories.{History}
use Rattle.store_layout.specs.Checkpoints.{Checkpoint, Section, checkpoint_file, greatest_mark}
use Rattle.store_layout.specs.SectionsAndLog.{AreMarks, AreParts, reach}
use Rattle.checkpoint_file.specs.States.{CheckpointState}
use Rattle.store_invariant.specs.StoreStates.{IsSealedIn}
use Rattle.ticket_order.specs.declared.record.Record.{Record}
use Rattle.ticket_order.specs.Legality.{history_of}
use Rattle.ticket_order.specs.StepRules.{AllLegalSections}
use Rattle.flusher.specs.declared.keeper.Keeper.{Keeper}
use Rattle.flusher.specs.Fitting.{Fits, IsTakenFront, StopsFit}
use Rattle.flusher.specs.KeeperSteps.{is_walking}
use Rattle.checkpoint_walk.specs.Checkpointing.{HasGiven}

-- The sections that a checkpoint of n stripes was given are the parts of the first stripes in order, each after as many
-- commands of the history as its mark says.
pub record HasCaptured (n : ℕ) (h : History) (w : CheckpointState) (files : Files) : Type 0 where
  pub sections : List Section
  pub given : HasGiven (Some w) sections files
  pub parts : AreParts h n 0 sections
  pub marks : AreMarks (max h.first w.low) (reach h) sections

abbrev pub CapturesStand : ℕ → History → Option CheckpointState → Files → Type 0
CapturesStand n h None files = Unit {0}
CapturesStand n h (Some w) files = HasCaptured n h w files

-- the checkpoint of this generation is sealed, and `committed` commands reach its greatest mark
pub record IsSealedWithin (generation committed : ℕ) (files : Files) : Type 0 where
  pub checkpoint : Checkpoint
  pub generation_is : checkpoint.generation ≡ generation
  pub sealed : IsSealedIn checkpoint (files (checkpoint_file generation))
  pub reached : greatest_mark checkpoint.sections ≤ committed

-- the keeper's sealed checkpoint is whole in its file, and its marks are committed
abbrev pub KeepsSealed : {D : Type 0} → (D → List Files) → (D → Type 0) → Keeper D → Type 0
KeepsSealed states honest keeper =
    honest keeper.disk → IsSealedWithin keeper.sealed keeper.log.committed (now (states keeper.disk))

-- If the keeper has made a FAIL, a device call has failed, or a file was found full.
pub record HasCause {D : Type 0} (is_full : Bool) (keeper : Keeper D) : Type 0 where
  pub cause : keeper.has_failed ≡ true → (keeper.is_broken ≡ true) ⊎ (is_full ≡ true)

-- The pass under the lock made no call, and each section that it captured is the part of its stripe after as many
-- commands of the history as its mark says.
pub record OnlyCaptures (n : ℕ) (p : Record) : Type 0 where
  pub idle : p.calls ≡ []
  pub legal : AllLegalSections n p p.sections

-- The keeper over n stripes, and the record of its pass. Neither a sweep nor a capture walks.
pub record Keeps {D : Type 0} (states : D → List Files) (honest : D → Type 0) (n : ℕ) (keeper : Keeper D)
    (p : Record) : Type 0 where
  pub done : List Command
  pub fits : Fits states honest n done keeper p
  pub still : is_walking keeper.sweeper.walking ≡ false
  pub over : keeper.capture ≡ None
  -- the sweeps took each ticket from the pass's opening up to the committed count
  pub taken : IsTakenFront done keeper.log.committed p
  -- no more was published than is committed
  pub published : p.published ≤ keeper.log.committed
  -- whatever a stop leaves now stands for a front of the history, with what is committed and no more than what is
  -- staged besides
  pub stops : honest keeper.disk → StopsFit (history_of p) keeper (now (states keeper.disk))
  -- the pass makes no call of its own, and what it captures is legal
  pub captured : OnlyCaptures n p
  -- until a device call fails, so are those that the file of the checkpoint under way was given
  pub given : keeper.is_broken ≡ false → honest keeper.disk
      → CapturesStand n (history_of p) keeper.checkpoint (now (states keeper.disk))
  -- the sealed checkpoint's marks are committed
  pub sealed : KeepsSealed states honest keeper

-- What is seen of the locked value: the record of its pass, the numbers that tell the words on which the pass makes its
-- steps from all others, and the disk.
pub record Locked (D : Type 0) : Type 0 where
  pub pass : Record
  pub words : List ℕ
  pub disk : D
