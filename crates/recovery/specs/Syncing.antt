-- The files are synced one after the other.
use Rattle.std.specs.Prelude.{◌≡◌, ◌⊎◌, ℕ, zero, suc, ◌+◌, ◌<◌, List, ◌∷◌, Err}
use Rattle.disk_model.specs.Calls.{Looks}
use Rattle.disk_model.specs.Files.{Contents, Files, Leaves, now, synced, with_file}
use Rattle.map_types.specs.declared.refusals.Refusal.{Refusal}
use Rattle.map_types.specs.declared.refusals.Refusal.TheVariants.{Failed}
use Rattle.gate_log.specs.Scan.{failed_in}

-- the states after the first n files were synced, the newest first
abbrev pub states_synced : ℕ → List Files → List Files
states_synced zero past = past
states_synced (suc n) past =
    with_file n (synced (now (states_synced n past) n)) (now (states_synced n past)) ∷ states_synced n past

-- the first `count` files were synced, with a device call each, and nothing else was done
pub record AfterSyncs {D : Type 0} (states : D → List Files) (failures : D → ℕ) (count : ℕ) (old new : D) : Type 0 where
  pub states_are : states new ≡ states_synced count (states old)
  pub counted : failures new ≡ failures old

-- the sync of one of the first `most` files failed, and those before it were synced
pub record StoppedSyncing {D : Type 0} (states : D → List Files) (failures : D → ℕ) (most : ℕ)
    (old new : D) : Type 0 where
  pub count : ℕ
  pub few : count < most
  pub states_are : states new ≡ now (states_synced count (states old)) ∷ states_synced count (states old)
  pub counted : failures new ≡ failures old + 1

-- the first `most` files were synced, and then the files were only looked at; `failed` of these calls failed
pub record SyncsAndLooks {D : Type 0} (states : D → List Files) (failures : D → ℕ) (honest : D → Type 0)
    (most failed : ℕ) (old new : D) : Type 0 where
  pub mid : D
  pub synced : AfterSyncs states failures most old mid
  pub looks : Looks states failures honest failed mid new

-- a sync failed, or they were synced and looked at
abbrev pub Stopped : {D : Type 0} → (D → List Files) → (D → ℕ) → (D → Type 0) → ℕ → D → D → Refusal → Type 0
Stopped states failures honest most old new refusal =
    ((refusal ≡ Failed) × StoppedSyncing states failures most old new)
    ⊎ SyncsAndLooks states failures honest most (failed_in {X = ℕ} (Err refusal)) old new

-- whatever a stop may leave of these files is this content
abbrev pub LeavesOnly : Files → Contents → Type 0
LeavesOnly files only =
    (contents : Contents) → Leaves files contents → (number : ℕ) → number < 4 → contents number ≡ only number
