-- How a server opens its disk, in the newest version of the files.
use Rattle.std.specs.Prelude.{◌≡◌, ◌⊎◌, ℕ, List, []}
use Rattle.java_hash.specs.declared.stripe_count.StripeCount.{StripeCount}
use Rattle.map_types.specs.declared.refusals.Refusal.{Refusal}
use Rattle.disk_model.specs.Files.{Contents, Files, now}
use Rattle.ticket_order.specs.declared.record.Record.{Record}
use Rattle.one_history.specs.Turns.{opening_of}
use Rattle.store_layout.specs.Opening.{Opened, Holds, map_of, prefix_of}
use Rattle.flusher.specs.Fitting.{Fits, IsUnused}
use Rattle.recovery.specs.Dividing.{ArePartsOf}
use Rattle.recovery.specs.Opening.{IsAtStart, IsNotOpened, IsOpenedAs}
use Rattle.recovery.specs.LogReading.{contents_of}
use Rattle.recovery.specs.Syncing.{LeavesOnly, SyncsAndLooks}
use Rattle.recovery.specs.Upgrading.{IsNewest, IsUpgradeRefused, IsUpgraded, StaysStanding}
use Rattle.cmd_serve.specs.declared.opening.Found.{Found}

-- The disk was opened for as many stripes, which writes nothing: a stop now leaves exactly the files as they were read.
-- A keeper that has done nothing yet was found, and the parts of the map that it begins with.
pub record HasFound {D : Type 0} (states : D → List Files) (failures : D → ℕ) (honest : D → Type 0)
    (stripes : StripeCount) (old : D) (found : Found D) : Type 0 where
  pub looks : SyncsAndLooks states failures honest 4 0 old found.keeper.disk
  pub left : LeavesOnly (now (states found.keeper.disk)) (contents_of states old)
  pub start : IsAtStart stripes found.first found.keeper
  pub are_parts : ArePartsOf stripes.count found.parts.items
  pub reads : honest found.keeper.disk → honest old × IsOpenedAs (contents_of states old) stripes.count found.keeper
      found.parts.items found.first found.limit
  pub fits : (p : Record) → p.opening ≡ opening_of found.first found.parts.items found.limit
      → IsUnused found.first found.limit p → Fits states honest stripes.count [] found.keeper p

-- the newest log of what is found is in an earlier version
abbrev pub IsEarlier : Contents → Opened → Type 0
IsEarlier contents found = IsNewest contents found → ⊥

-- The disk was opened, which writes nothing: a stop now leaves exactly the files as they were read. On an honest disk
-- they hold something that `Is` speaks of.
pub record IsFound {D : Type 0} (states : D → List Files) (failures : D → ℕ) (honest : D → Type 0)
    (Is : Contents → Opened → Type 0) (old opened : D) : Type 0 where
  pub looks : SyncsAndLooks states failures honest 4 0 old opened
  pub left : LeavesOnly (now (states opened)) (contents_of states old)
  pub holds : honest opened → honest old
      × ((found : Opened) × (Holds (contents_of states old) found × Is (contents_of states old) found))

-- The disk was opened, which writes nothing, or that was refused.
abbrev pub IsOnlyOpened : {D : Type 0} → (D → List Files) → (D → ℕ) → (D → Type 0) → D → D → Type 0
IsOnlyOpened states failures honest old new =
    IsFound states failures honest (λ contents found. Unit {0}) old new
    ⊎ ((refusal : Refusal) × IsNotOpened states failures honest old new refusal)

-- The disk was opened, its newest log was in an earlier version, and it was upgraded; no device call failed. On an
-- honest disk no stop loses the map that it stood for, and afterwards it stands for the same.
pub record Upgrades {D : Type 0} (states : D → List Files) (failures : D → ℕ) (honest : D → Type 0)
    (old upgraded : D) : Type 0 where
  pub opened : D
  pub is_earlier : IsFound states failures honest IsEarlier old opened
  pub stays : StaysStanding states failures honest opened upgraded
  pub unfailing : failures upgraded ≡ failures opened
  pub stands : honest upgraded → (found : Opened)
      × (Holds (contents_of states opened) found × IsUpgraded (prefix_of found) (map_of found)
      (contents_of states upgraded))

-- The same, and the upgrade over this many stripes was refused: its opening, which writes nothing, or behind that.
pub record IsNotUpgraded {D : Type 0} (states : D → List Files) (failures : D → ℕ) (honest : D → Type 0) (stripes : ℕ)
    (old new : D) (refusal : Refusal) : Type 0 where
  pub opened : D
  pub is_earlier : IsFound states failures honest IsEarlier old opened
  pub refused : IsNotOpened states failures honest opened new refusal
      ⊎ IsUpgradeRefused states failures honest stripes opened new refusal

abbrev pub IsSameOrUpgraded : {D : Type 0} → (D → List Files) → (D → ℕ) → (D → Type 0) → D → D → Type 0
IsSameOrUpgraded states failures honest old ready = (ready ≡ old) ⊎ Upgrades states failures honest old ready

-- The disk, as it was or upgraded, was opened, and its newest log is in the newest version.
pub record IsOpenedNewest {D : Type 0} (states : D → List Files) (failures : D → ℕ) (honest : D → Type 0)
    (old new : D) : Type 0 where
  pub ready : D
  pub is_ready : IsSameOrUpgraded states failures honest old ready
  pub is_newest : IsFound states failures honest IsNewest ready new

-- the upgrade was refused, or an opening
pub data IsNotOpenedNewest {D : Type 0} (states : D → List Files) (failures : D → ℕ) (honest : D
    → Type 0) (stripes : ℕ) (old new : D) (refusal : Refusal) : Type 0 where
  not_upgraded : IsNotUpgraded states failures honest stripes old new refusal
      → IsNotOpenedNewest states failures honest stripes old new refusal
  not_opened : (ready : D) → IsSameOrUpgraded states failures honest old ready
      → IsNotOpened states failures honest ready new refusal
      → IsNotOpenedNewest states failures honest stripes old new refusal
