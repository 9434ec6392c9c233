-- When the keeper of a life can make a device call.
use Rattle.std.specs.Prelude.{◌≡◌, ℕ, Option, None, Some, Bool, true, false, is_some}
use Rattle.disk_model.specs.Gates.{Call, writes, syncs}
use Rattle.store_layout.specs.Logs.{log_file}
use Rattle.gate_log.specs.States.{call_in}
use Rattle.flusher.specs.declared.keeper.Keeper.{Keeper}
use Rattle.flusher.specs.KeeperSteps.{is_walking}
use Rattle.flusher.specs.Rotating.{due_of, logs_of}
use Rattle.checkpoint_walk.specs.Checkpointing.{call_due}
use Rattle.sim_keeper.specs.Laws.{file_due}
use Rattle.sim_rules.specs.declared.event.Side.{Side}
use Rattle.sim_rules.specs.declared.event.Side.TheVariants as side
use Rattle.schedule_sim.specs.declared.traced.Traced.{Traced}

-- the one that is due on this side
abbrev pub call_on : Side → Keeper Traced → Option Call
call_on side.Log keeper = call_in (due_of (logs_of keeper)).phase (due_of (logs_of keeper))
call_on side.Checkpoint keeper = call_due keeper.next keeper.checkpoint

-- whether there is one
abbrev pub is_due : Side → Keeper Traced → Bool
is_due side.Log keeper = is_some (call_in (due_of (logs_of keeper)).phase (due_of (logs_of keeper)))
is_due side.Checkpoint keeper = is_some (call_due keeper.next keeper.checkpoint)

abbrev pub is_sync : Option Call → Bool
is_sync None = false
is_sync (Some (writes at bytes)) = false
is_sync (Some syncs) = true

-- it is of this file
abbrev pub number_due : Side → Keeper Traced → ℕ
number_due side.Log keeper = log_file (due_of (logs_of keeper)).generation
number_due side.Checkpoint keeper = file_due keeper.checkpoint

-- No walk is under way, no call has failed, and one is due.
pub record MayCall (s : Side) (keeper : Keeper Traced) : Type 0 where
  pub rests : is_walking keeper.sweeper.walking ≡ false
  pub no_capture : keeper.capture ≡ None
  pub works : keeper.is_broken ≡ false
  pub due : is_due s keeper ≡ true
