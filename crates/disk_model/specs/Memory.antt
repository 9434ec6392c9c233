-- What a disk in memory shows.
use Rattle.std.specs.Prelude.{◌≡◌, ℕ, ◌⊎◌, List, ◌∷◌, Option, IsSome, Bool, true, false}
use Rattle.disk_model.specs.Files.{Files, now, with_file, reached}
use Rattle.disk_model.specs.Events.{states_of, failures_of}
use Rattle.disk_model.specs.Plans.{due_of, passed}
use Rattle.disk_model.specs.declared.plan.Failure.{Failure}
use Rattle.disk_model.specs.declared.memory.MemDisk.{MemDisk}

-- the states of its files, the newest first
abbrev pub memory_states : MemDisk → List Files
memory_states disk = states_of disk.past.events

abbrev pub memory_failures : MemDisk → ℕ
memory_failures disk = failures_of disk.past.events

-- the failure that is still to come
abbrev pub planned_of : MemDisk → Option Failure
planned_of disk = disk.failure

-- a call failed because it found no memory
abbrev pub is_short : MemDisk → Bool
is_short disk = disk.is_short

-- One call went by the plan: it failed if that says so, else only if it found no memory.
pub record IsByPlan (old new : MemDisk) (is_ok : Bool) : Type 0 where
  pub plan : planned_of new ≡ passed (planned_of old)
  pub fails : IsSome (due_of (planned_of old)) → is_ok ≡ false
  pub cause : is_ok ≡ false → IsSome (due_of (planned_of old)) ⊎ (is_short new ≡ true)
  pub short_still : is_short old ≡ true → is_short new ≡ true
  pub not_shorter : is_ok ≡ true → is_short new ≡ is_short old

-- A write of these bytes found no memory: a read gives what it gave, and the range is pending.
pub record LosesWrite (file at : ℕ) (bytes : List ℕ) (old new : MemDisk) : Type 0 where
  pub short : is_short new ≡ true
  pub state : memory_states new ≡ with_file file
      (reached at bytes (now (memory_states old) file).seen (now (memory_states old) file))
      (now (memory_states old)) ∷ memory_states old
