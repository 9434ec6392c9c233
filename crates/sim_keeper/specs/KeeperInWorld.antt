-- How a keeper and its pass stand against the world.
use Rattle.std.specs.Prelude.{◌≡◌, ℕ, ◌+◌, ◌<◌, ◌≤◌, List, [], ◌++◌, length, take, drop, Option, None, Some, Bool, true}
use Rattle.std.specs.Prelude.{false}
use Rattle.map_types.specs.declared.commands.Command.{Command}
use Rattle.map_model.specs.Steps.{fold_of}
use Rattle.std.specs.List.{Contains}
use Rattle.ticket_order.specs.declared.record.Record.{Record}
use Rattle.ticket_order.specs.declared.stripe.Entry.{Entry}
use Rattle.disk_model.specs.Files.{Contents, Files, now}
use Rattle.store_layout.specs.Checkpoints.{Section}
use Rattle.log_records.specs.Layout.{layout_of}
use Rattle.store_layout.specs.Logs.{log_file}
use Rattle.store_layout.specs.Opening.{Opened, gate_in, log_layout, newest_of, prefix_of}
use Rattle.store_layout.specs.declared.log_phase.Phase.TheVariants.{Idle}
use Rattle.gate_log.specs.States.{LogState}
use Rattle.checkpoint_file.specs.States.{CheckpointState, first_phase}
use Rattle.flusher.specs.declared.keeper.Keeper.{Keeper}
use Rattle.flusher.specs.declared.sweeper.Walking.TheVariants.{Rests}
use Rattle.flusher.specs.Rotating.{logs_of}
use Rattle.checkpoint_walk.specs.Checkpointing.{HasGiven}
use Rattle.sim_rules.specs.World.{World, Life, InHand, Running, begun_by, place_of}
use Rattle.disk_model.specs.declared.fill.Fill.{Fill}
use Rattle.sim_rules.specs.declared.event.Ending.TheVariants as ending
use Rattle.sim_rules.specs.declared.event.Event.{Event}
use Rattle.sim_rules.specs.declared.event.Event.TheVariants as event
use Rattle.sim_rules.specs.declared.event.Side.{Side}
use Rattle.sim_rules.specs.declared.outcome.DeviceCall.{DeviceCall}
use Rattle.sim_rules.specs.declared.outcome.Outcome.{Outcome}
use Rattle.sim_rules.specs.declared.outcome.Outcome.TheVariants as outcome
use Rattle.sim_rules.specs.After.{after_inside, file_of}
use Rattle.sim_rules.specs.Cases.{HappensInside, IsDue, IsPossible}
use Rattle.sim_rules.specs.Due.{due_file}
use Rattle.sim_rules.specs.Fitting.{has_call}
use Rattle.sim_rules.specs.Runs.{staged_in}
use Rattle.sim_keeper.specs.Showing.{running_shown, sweep_shown, walk_shown, work_shown}

-- The pass began with this life, and what it has seen is a front of the commands that the life has added.
pub record SeesHistory (p : Record) (w : World) (l : Life) : Type 0 where
  pub first : p.opening.first ≡ l.first
  pub within : l.first ≤ length w.history
  pub opening : p.opening.map ≡ fold_of (take l.first w.history)
  pub unseen : List Command
  pub added : drop l.first w.history ≡ p.seen ++ unseen

-- none is written; or one is, and was given the sections that the world has
abbrev pub IsWritten : Option CheckpointState → Option Running → Files → Type 0
IsWritten None running files = running ≡ None
IsWritten (Some w) running files =
    (sections : List Section) × (running ≡ Some (running_shown w sections)) × HasGiven (Some w) sections files

-- while the log that follows is begun a checkpoint is begun too, in whose file no call was made
abbrev pub BeginsBoth : Option LogState → Option CheckpointState → Bool → Type 0
BeginsBoth None writer must_close = Unit {0}
BeginsBoth (Some next) None must_close = ⊥
BeginsBoth (Some next) (Some w) must_close = w.phase ≡ first_phase must_close

-- what it knows of its files
pub record KnowsStore {D : Type 0} (states : D → List Files) (keeper : Keeper D) (l : Life) : Type 0 where
  pub log : l.log ≡ work_shown (logs_of keeper) (length keeper.staged.items)
  pub newest : l.newest ≡ keeper.log.generation
  pub layout : l.layout ≡ layout_of keeper.log.version
  pub gate : l.gate ≡ keeper.log.gate
  pub sealed : l.sealed ≡ keeper.sealed
  pub checkpoint : IsWritten keeper.checkpoint l.checkpoint (now (states keeper.disk))
  pub both : BeginsBoth keeper.next keeper.checkpoint keeper.must_close

-- The keeper, whose pass has this record, is as the events and outcomes so far say. Of its files that is so until a
-- device call fails; of how much is staged also then.
pub record KeeperStands {D : Type 0} (states : D → List Files) (keeper : Keeper D) (p : Record) (w : World)
    (l : Life) : Type 0 where
  pub life : w.life ≡ Some l
  pub files : w.files ≡ now (states keeper.disk)
  pub history : SeesHistory p w l
  pub stripes : l.stripes ≡ keeper.stripes.count
  pub sweep : l.sweep ≡ sweep_shown keeper.sweeper.sweep
  pub walk : l.walk ≡ walk_shown keeper.stripes.count keeper p
  pub committed : l.committed ≡ keeper.log.committed
  pub durable : l.durable ≡ keeper.published
  pub has_failed : l.has_failed ≡ keeper.has_failed
  pub is_broken : l.is_broken ≡ keeper.is_broken
  pub store : keeper.is_broken ≡ false → KnowsStore states keeper l
  pub staged : keeper.is_broken ≡ true → staged_in l.log ≡ length keeper.staged.items

-- A ticket of this life is in hand, or was and is committed, exactly if a sweep of the pass took its entry.
pub record TellsPlaces (p : Record) (l : Life) : Type 0 where
  pub taken : (e : Entry) → Contains p.taken e → place_of l e.ticket ≡ InHand
  pub in_hand : (t : ℕ) → l.first ≤ t → t < l.first + length l.places → place_of l t ≡ InHand
      → (e : Entry) × Contains p.taken e × (e.ticket ≡ t)

-- The keeper was opened, and has made no call; its pass has made no step. A life begins that was opened with what is
-- found in these contents, and the newest log has the version that they name.
pub record IsAtOpening {D : Type 0} (states : D → List Files) (keeper : Keeper D) (p : Record) (w : World) (stripes : ℕ)
    (contents : Contents) (found : Opened) : Type 0 where
  pub life : w.life ≡ Some (begun_by stripes contents found)
  pub files : w.files ≡ now (states keeper.disk)
  pub long : length w.history ≡ prefix_of found
  pub first : p.opening.first ≡ prefix_of found
  pub map : p.opening.map ≡ fold_of w.history
  pub none_seen : p.seen ≡ []
  pub stripes_are : keeper.stripes.count ≡ stripes
  pub sealed : keeper.sealed ≡ found.checkpoint.generation
  pub generation : keeper.log.generation ≡ (newest_of found).generation
  pub version : layout_of keeper.log.version ≡ log_layout (contents (log_file (newest_of found).generation))
  pub gate : keeper.log.gate ≡ gate_in (contents (log_file (newest_of found).generation)) (newest_of found)
  pub committed : keeper.log.committed ≡ prefix_of found
  pub published : keeper.published ≡ prefix_of found
  pub idle : keeper.log.phase ≡ Idle
  pub no_next : keeper.next ≡ None
  pub sweep : keeper.sweeper.sweep ≡ None
  pub walking : keeper.sweeper.walking ≡ Rests
  pub checkpoint : keeper.checkpoint ≡ None
  pub capture : keeper.capture ≡ None
  pub works : keeper.is_broken ≡ false
  pub not_failed : keeper.has_failed ≡ false

abbrev pub StandsIn : {D : Type 0} → (D → List Files) → Keeper D → Record → World → Option Life → Type 0
StandsIn states keeper p w None = ⊥
StandsIn states keeper p w (Some l) = KeeperStands states keeper p w l

-- a life is there, and the keeper stands so
abbrev pub HasKeeper : {D : Type 0} → (D → List Files) → Keeper D → Record → World → Type 0
HasKeeper states keeper p w = StandsIn states keeper p w w.life

-- The outcome meets the case of its event, and the keeper stands against the world after it.
pub record Answers {D : Type 0} (states : D → List Files) (keeper : Keeper D) (p : Record) (w : World) (l : Life)
    (e : Event) (x : Outcome) : Type 0 where
  pub happens : HappensInside w l e x
  pub stands : HasKeeper states keeper p (after_inside w l e x)

-- A device call failed. It was possible, of the file that is due, and the very call that is due if one is. The keeper
-- stands against the world after it.
pub record FailsCall {D : Type 0} (states : D → List Files) (keeper : Keeper D) (p : Record) (w : World) (l : Life)
    (s : Side) (fill : Fill) (call : DeviceCall) : Type 0 where
  pub works : l.is_broken ≡ false
  pub file : file_of call ≡ due_file l s
  pub possible : IsPossible w.files call
  pub due : has_call s l ≡ true → IsDue w l s call
  pub stands : HasKeeper states keeper p
      (after_inside w l (event.Device s (ending.Fails fill)) (outcome.CallFailed call))
