-- What formatting a directory leaves.
use Rattle.std.specs.Prelude.{◌≡◌, ◌≢◌, ◌⊎◌, ℕ, true, false, List, [], ◌∷◌, ◌++◌, None}
use Rattle.std.specs.FinMap as finite
use Rattle.disk_model.specs.Files.{Contents, File, Files, Leaves, MayLeave, at_rest}
use Rattle.disk_model.specs.Gates.{open_gate}
use Rattle.store_layout.specs.Checkpoints.{is_sealed}
use Rattle.log_records.specs.Layout.{Layout}
use Rattle.store_layout.specs.Opening.{Holds, Opened, StandsFor, checkpoint_layout, first_checkpoint, log_layout}

-- whatever a stop may leave of these files has P
abbrev pub AtStops : (Contents → Type 0) → Files → Type 0
AtStops P files = (contents : Contents) → Leaves files contents → P contents

-- no checkpoint is sealed
abbrev pub IsUnformatted : Contents → Type 0
IsUnformatted contents = (is_sealed (contents 0) ≡ false) × (is_sealed (contents 1) ≡ false)

-- one is
abbrev pub IsFormatted : Contents → Type 0
IsFormatted contents = (is_sealed (contents 0) ≡ true) ⊎ (is_sealed (contents 1) ≡ true)

-- what an opening finds in a new store of `stripes` stripes: its first checkpoint, and no batch behind it
abbrev pub first_opened : ℕ → Opened
first_opened stripes = record { checkpoint = first_checkpoint stripes; first = []; second = None }

-- the files hold what a new store of `stripes` stripes does, and so stand for no command and the empty map
pub record IsNew (stripes : ℕ) (contents : Contents) : Type 0 where
  pub holds : Holds contents (first_opened stripes)
  pub stands : StandsFor contents 0 finite.empty

-- the checkpoint and the log that a new store has are written in this layout
abbrev pub IsWrittenIn : Layout → Contents → Type 0
IsWrittenIn layout contents = (checkpoint_layout (contents 0) ≡ layout) × (log_layout (contents 2) ≡ layout)

abbrev pub IsNewOrUnformatted : ℕ → Contents → Type 0
IsNewOrUnformatted stripes contents = IsUnformatted contents ⊎ IsNew stripes contents

-- the content is not sealed, or its gate is open and these bytes stand behind it
abbrev pub IsSealedWith : List ℕ → List ℕ → Type 0
IsSealedWith bytes content = (is_sealed content ≡ false) ⊎ ((rest : List ℕ) × (content ≡ open_gate ∷ (bytes ++ rest)))

-- the other files are as they were at the start, and whatever a stop may leave of this one has P
pub record OneFile (number : ℕ) (P : List ℕ → Type 0) (start files : Files) : Type 0 where
  pub others : (n : ℕ) → n ≢ number → files n ≡ start n
  pub leaves : (content : List ℕ) → MayLeave (files number) content → P content

-- nothing of the first file is pending, it has no sealed checkpoint, and no stop leaves one in the second
pub record IsClear (files : Files) : Type 0 where
  pub first : List ℕ
  pub settled : files 0 ≡ at_rest first
  pub unsealed : is_sealed first ≡ false
  pub second : (content : List ℕ) → MayLeave (files 1) content → is_sealed content ≡ false

-- ---- files that were empty

-- the other files are as they were at the start, and this one is so now
pub record Becomes (number : ℕ) (file : File) (start files : Files) : Type 0 where
  pub others : (n : ℕ) → n ≢ number → files n ≡ start n
  pub is : files number ≡ file
