-- How many device calls an opening made, and how the last of them failed.
use Rattle.std.specs.Prelude.{◌≡◌, ℕ, ◌+◌, ◌<◌, ◌≤◌, List, ◌∷◌, length}
use Rattle.disk_model.specs.Files.{Files, now}
use Rattle.sim_rules.specs.declared.outcome.Outcome.{Outcome}
use Rattle.sim_rules.specs.declared.outcome.Outcome.TheVariants as outcome
use Rattle.schedule_sim.specs.declared.store.Store.{Store}
use Rattle.schedule_sim.specs.declared.store.Store.TheVariants.{Closed, Open}
use Rattle.schedule_sim.specs.declared.traced.Traced.{Traced}
use Rattle.schedule_sim.specs.Tracing.{traced_states}

-- The last of `calls` calls is one of the four syncs, and left the files as they were; or it is one after them.
pub data LastFails (calls : ℕ) (states : List Files) : Type 0 where
  Syncing : (before : List Files) → calls ≤ 4 → states ≡ now before ∷ before → LastFails calls states
  Looking : 4 < calls → LastFails calls states

abbrev pub disk_of : Store → Traced
disk_of (Closed disk) = disk
disk_of (Open life) = life.keeper.disk

-- An opening of this disk tells how many device calls it made.
abbrev pub TellsCalls : Traced → Store × Outcome → Type 0
TellsCalls old (store, outcome.Opened calls prefix entries) =
    length (traced_states old) + calls ≡ length (traced_states (disk_of store))
TellsCalls old (store, outcome.NotOpened calls refusal) =
    length (traced_states old) + calls ≡ length (traced_states (disk_of store))
TellsCalls old (store, x) = ⊥
