-- How a store, closed or in a life, stands against the world of its events and outcomes.
use Rattle.std.specs.Prelude.{◌≡◌, ℕ, ◌≤◌, List, length, Option, None, Some}
use Rattle.disk_model.specs.Files.{Contents, Leaves, now}
use Rattle.map_model.specs.Steps.{fold_of}
use Rattle.atomic_methods.specs.PartState.{PartState}
use Rattle.flusher.specs.declared.keeper.Keeper.{Keeper}
use Rattle.recovery.specs.Dividing.{IsDivided}
use Rattle.recovery.specs.LogReading.{GoesOnIn}
use Rattle.store_layout.specs.Opening.{Opened, map_of, newest_of, prefix_of}
use Rattle.sim_rules.specs.declared.event.Side.{Side}
use Rattle.sim_rules.specs.declared.outcome.DeviceCall.{DeviceCall}
use Rattle.store_invariant.specs.StoreStates.{StopsStand}
use Rattle.sim_rules.specs.declared.event.Event.{Event}
use Rattle.sim_rules.specs.declared.event.Event.TheVariants as event
use Rattle.sim_rules.specs.declared.outcome.Outcome.{Outcome}
use Rattle.sim_rules.specs.declared.outcome.Outcome.TheVariants as outcome
use Rattle.sim_rules.specs.Machine.{whole}
use Rattle.sim_rules.specs.World.{World, Life, begun_by, seen_of}
use Rattle.sim_rules.specs.After.{after, entered}
use Rattle.sim_rules.specs.Cases.{IsDue, Meets}
use Rattle.sim_rules.specs.Laws.{SoundAt}
use Rattle.sim_rules.specs.Runs.{OpensWell}
use Rattle.sim_rules.specs.Sound.{AnswersLegally, AreAbove, OpensFront}
use Rattle.schedule_sim.specs.declared.traced.Traced.{Traced}
use Rattle.schedule_sim.specs.declared.store.Store.{Store}
use Rattle.schedule_sim.specs.declared.store.Store.TheVariants.{Closed, Open}
use Rattle.schedule_sim.specs.Tracing.{traced_states}
use Rattle.schedule_sim.specs.Living.{IsLife}

-- No life is there, and whatever a stop leaves of the files stands for a front of the history, of at least `least`
-- commands.
pub record IsClosed (w : World) (least : ℕ) (disk : Traced) : Type 0 where
  pub life : w.life ≡ None
  pub files : w.files ≡ now (traced_states disk)
  pub reached : least ≤ length w.history
  pub stops : StopsStand (whole w.history) least (length w.history) w.files

abbrev pub IsDurable : ℕ → Option Life → Type 0
IsDurable least None = ⊥
IsDurable least (Some l) = least ≡ l.durable

-- The store stands as the world says; in a life the count is the durable one.
abbrev pub IsStore : World → ℕ → Store → Type 0
IsStore w least (Closed disk) = IsClosed w least disk
IsStore w least (Open life) = IsLife w life × IsDurable least w.life

-- A run may begin with this store: it stands as the world says, in which no life is.
pub record IsBeginning (from : World) (store : Store) : Type 0 where
  pub life : from.life ≡ None
  pub sound : SoundAt from
  pub stands : IsStore from 0 store

-- between lives the count stays, also from the life that ends
abbrev pub IsNext : ℕ → ℕ → Option Life → Type 0
IsNext least next None = next ≡ least
IsNext least next (Some l) = Unit {0}

-- ---- the files now

-- Whatever a stop may leave now stands for a front of the history as it has to, of no fewer than `least` commands. So
-- does what is read.
pub record StandsNow (w : World) (least : ℕ) : Type 0 where
  pub left : (contents : Contents) → Leaves w.files contents → AreAbove w least contents
  pub read : AreAbove w least (seen_of w.files)

-- if the machine stops within a device call, so does whatever it may leave then
abbrev pub StopsWithin : World → ℕ → Event → Outcome → Type 0
StopsWithin w least (event.Stop within fill) (outcome.Stopped (Some call)) =
    (contents : Contents) → Leaves (entered call w.files) contents → AreAbove w least contents
StopsWithin w least e x = Unit {0}

-- ---- an event

-- The outcome meets the case of the event. A reply that it releases is one thread's. An opening finds a front of the
-- history, and is refused only as it may be. The store stands as the world then says.
pub record DidStore (w : World) (least : ℕ) (e : Event) (x : Outcome) (store : Store) : Type 0 where
  pub found : Opened
  pub meets : Meets w found e x
  pub answers : AnswersLegally w e x
  pub front : OpensFront w least found x
  pub opens : OpensWell (e, x)
  pub within : StopsWithin w least e x
  pub next : ℕ
  pub next_is : IsNext least next (after w found e x).life
  pub stands : IsStore (after w found e x) next store

-- ---- a life begins

-- The world has a life that was just begun, with what was found in these contents. The keeper was opened over its
-- files, and these are the parts of its map.
pub record IsOpening (w : World) (stripes : ℕ) (contents : Contents) (found : Opened) (keeper : Keeper Traced)
    (parts : List PartState) : Type 0 where
  pub life : w.life ≡ Some (begun_by stripes contents found)
  pub files : w.files ≡ now (traced_states keeper.disk)
  pub long : length w.history ≡ prefix_of found
  pub map : map_of found ≡ fold_of w.history
  pub divided : IsDivided stripes (map_of found) parts
  pub sealed : keeper.sealed ≡ found.checkpoint.generation
  pub log : GoesOnIn contents (newest_of found) keeper.log

-- ---- a life ends

-- The files are those of the disk, and whatever a stop leaves of them stands for a front of the history, of at least
-- `least` commands.
pub record LiesOn (w : World) (least : ℕ) (disk : Traced) : Type 0 where
  pub files : w.files ≡ now (traced_states disk)
  pub reached : least ≤ length w.history
  pub stops : StopsStand (whole w.history) least (length w.history) w.files

-- A stop falls within this call of the life. The disk is as the call leaves it then. Whatever a stop leaves of that
-- stands for a front of the history as it has to, of no fewer commands than the durable count.
pub record IsInterrupted (w : World) (s : Side) (call : DeviceCall) (disk : Traced) : Type 0 where
  pub due : (l : Life) → w.life ≡ Some l → IsDue w l s call
  pub state : now (traced_states disk) ≡ entered call w.files
  pub stops : (l : Life) → w.life ≡ Some l → (contents : Contents) → Leaves (now (traced_states disk)) contents
      → AreAbove w l.durable contents
