-- What formatting a directory and checking one print, and what they do to it.
use Rattle.std.specs.Prelude.{◌≡◌, ◌≢◌, ◌⊎◌, ℕ, ◌+◌, ◌-◌, ◌^◌, min, List, ◌++◌, Option, None, Some, codes, decimal}
use Rattle.std.specs.FinMap as finite
use Rattle.std.specs.List.{sum_by}
use Rattle.std.specs.declared.io.Error.{Error}
use Rattle.map_model.specs.Maps.{Map}
use Rattle.map_model.specs.Parts.{parts_of}
use Rattle.map_types.specs.declared.refusals.Refusal.{Refusal}
use Rattle.map_types.specs.declared.refusals.Refusal.TheVariants.{AlreadyFormatted, Failed, NoMemory}
use Rattle.disk_model.specs.Files.{Files, now}
use Rattle.disk_model.specs.Moments.{AtEachMoment}
use Rattle.store_layout.specs.Logs.{new_layout}
use Rattle.store_layout.specs.Opening.{Contents, Opened, Holds, map_of, prefix_of}
use Rattle.recovery.specs.Formatting.{AtStops, IsFormatted, IsNew, IsNewOrUnformatted, IsUnformatted, IsWrittenIn}
use Rattle.recovery.specs.Opening.{IsNotOpened}
use Rattle.recovery.specs.LogReading.{contents_of}
use Rattle.recovery.specs.Syncing.{SyncsAndLooks}
use Rattle.call_text.specs.Naming.{IsNamed, IsStripeCount}
use Rattle.call_text.specs.Printing.{Prints, PrintsNothing}
use Rattle.cmd_directory.specs.declared.summary.Summary.{Summary}
use Rattle.cmd_directory.specs.declared.summary.Counts.{Counts}

-- ---- what is printed

-- the line of a directory that was formatted
abbrev pub formatted_line : ℕ → List ℕ
formatted_line stripes = codes "formatted " ++ (decimal stripes ++ codes "\n")

-- a line for each number
abbrev pub summary_text : Summary → List ℕ
summary_text s =
    codes "generation " ++ (decimal s.generation ++ (codes "\nstripes "
    ++ (decimal s.stripes ++ (codes "\nprefix " ++ (decimal s.prefix
    ++ (codes "\nentries " ++ (decimal s.entries ++ codes "\n")))))))

-- ---- formatting

-- why a disk was not formatted: a device call failed, or memory was missing, or a checkpoint is sealed
abbrev pub CannotFormat : {D : Type 0} → (D → List Files) → (D → ℕ) → (D → Type 0) → D → D → Refusal → Type 0
CannotFormat states failures honest old new refusal =
    ((refusal ≡ Failed) × (failures new ≡ failures old + 1))
    ⊎ ((refusal ≡ NoMemory) ⊎ ((refusal ≡ AlreadyFormatted) × (honest new → IsFormatted (contents_of states old))))

-- The disk wasn't formatted before, and no device call failed. Whatever a read gives or a stop leaves now is a new
-- store of `stripes` stripes, in files of the newest version, and the line names that number.
pub record IsMade {D : Type 0} (states : D → List Files) (failures : D → ℕ) (honest : D → Type 0) (stripes : ℕ)
    (old new : D) (w0 w1 : Option (List ℕ)) (status : ℕ) : Type 0 where
  pub unformatted : honest new → IsUnformatted (contents_of states old)
  pub unfailing : failures new ≡ failures old
  pub stands : honest new → AtStops (IsNew stripes) (now (states new))
  pub written : honest new → AtStops (IsWrittenIn new_layout) (now (states new))
  pub reads : honest new → IsNew stripes (contents_of states new)
  pub read_in : honest new → IsWrittenIn new_layout (contents_of states new)
  pub prints : Prints (formatted_line stripes) w0 w1 status

-- formatting was refused for a reason, and but for a device failure nothing was written
pub record IsNotMade {D : Type 0} (states : D → List Files) (failures : D → ℕ) (honest : D → Type 0) (old new : D)
    (w0 w1 : Option (List ℕ)) (status : ℕ) : Type 0 where
  pub refusal : Refusal
  pub reason : CannotFormat states failures honest old new refusal
  pub untouched : refusal ≢ Failed → (new ≡ old) ⊎ SyncsAndLooks states failures honest 2 0 old new
  pub prints : PrintsNothing w0 w1 status

-- The disk was formatted for `stripes` stripes, or it was refused. If it was unformatted before, a stop at any moment
-- leaves it unformatted, or a new store of `stripes` stripes.
pub record Formats {D : Type 0} (states : D → List Files) (failures : D → ℕ) (honest : D → Type 0) (stripes : ℕ)
    (old new : D) (w0 w1 : Option (List ℕ)) (status : ℕ) : Type 0 where
  pub was_honest : honest new → honest old
  pub moments : honest new → AtStops IsUnformatted (now (states old))
      → AtEachMoment states old new (AtStops (IsNewOrUnformatted stripes))
  pub ends : IsMade states failures honest stripes old new w0 w1 status
      ⊎ IsNotMade states failures honest old new w0 w1 status

-- ---- checking

-- how many entries the parts of the map have, which together are the map; the greatest number stands for all that are
-- greater
abbrev pub entry_count : Map → ℕ
entry_count m = min (sum_by (λ part. finite.len part) (parts_of 16 m)) (2 ^ 64 - 1)

-- the numbers of what the files hold: of the checkpoint that is used, of the commands, and of the entries of their map
pub record Summarizes (contents : Contents) (summary : Summary) : Type 0 where
  pub found : Opened
  pub holds : Holds contents found
  pub generation : summary.generation ≡ found.checkpoint.generation
  pub stripes : summary.stripes ≡ found.checkpoint.stripes
  pub prefix : summary.prefix ≡ prefix_of found
  pub entries : summary.entries ≡ entry_count (map_of found)

-- the numbers of what the files hold, but for the stripes of the checkpoint
pub record IsCountOf (contents : Contents) (counts : Counts) (found : Opened) : Type 0 where
  pub holds : Holds contents found
  pub generation : counts.generation ≡ found.checkpoint.generation
  pub prefix : counts.prefix ≡ prefix_of found
  pub entries : counts.entries ≡ entry_count (map_of found)

-- the disk was opened and nothing was written to it, and this was counted
pub record IsCounted {D : Type 0} (states : D → List Files) (failures : D → ℕ) (honest : D → Type 0) (old new : D)
    (counts : Counts) : Type 0 where
  pub looks : SyncsAndLooks states failures honest 4 0 old new
  pub counted : honest new → honest old × ((found : Opened) × IsCountOf (contents_of states old) counts found)

-- the disk was opened and nothing was written to it, and these are its numbers
pub record IsSummed {D : Type 0} (states : D → List Files) (failures : D → ℕ) (honest : D → Type 0) (old new : D)
    (summary : Summary) : Type 0 where
  pub looks : SyncsAndLooks states failures honest 4 0 old new
  pub sums : honest new → honest old × Summarizes (contents_of states old) summary

-- The numbers of the disk were printed, or opening it was refused and nothing was printed.
abbrev pub Checks : {D : Type 0} → (D → List Files) → (D → ℕ) → (D → Type 0) → D → D → Option (List ℕ) → Option (List ℕ)
    → ℕ → Type 0
Checks states failures honest old new w0 w1 status =
    ((summary : Summary) × IsSummed states failures honest old new summary × Prints (summary_text summary) w0 w1 status)
    ⊎ ((refusal : Refusal) × IsNotOpened states failures honest old new refusal × PrintsNothing w0 w1 status)

-- ---- a directory that was opened

-- IsOpened says that a disk has the files of a directory, as they were when it was opened. IsRefused says that a
-- directory couldn't be opened, for an error.
module _ {D : Type 0} (states : D → List Files) (failures : D → ℕ) (honest : D → Type 0)
    (IsOpened : List ℕ → D → Type 0) (IsRefused : List ℕ → Error → Type 0)
    (directory : List ℕ) where
  -- the directory couldn't be opened, and nothing was printed
  abbrev pub CannotOpen : Option (List ℕ) → Option (List ℕ) → ℕ → Type 0
  CannotOpen w0 w1 status = (error : Error) × IsRefused directory error × PrintsNothing w0 w1 status

  -- a disk of the directory was formatted for `stripes` stripes, or that was refused
  pub record FormatsDirectory (stripes : ℕ) (w0 w1 : Option (List ℕ)) (status : ℕ) : Type 0 where
    pub old : D
    pub new : D
    pub opened : IsOpened directory old
    pub formats : Formats states failures honest stripes old new w0 w1 status

  -- The word names an allowed number of stripes, and the directory was formatted for it, or couldn't be opened. Or the
  -- word names none, and nothing was printed, with status 2.
  abbrev pub Inits : List ℕ → Option (List ℕ) → Option (List ℕ) → ℕ → Type 0
  Inits word w0 w1 status =
      ((stripes : ℕ) × IsNamed IsStripeCount word (Some stripes)
      × (FormatsDirectory stripes w0 w1 status ⊎ CannotOpen w0 w1 status))
      ⊎ (IsNamed IsStripeCount word None × (w1 ≡ w0) × (status ≡ 2))

  -- a disk of the directory was checked
  pub record ChecksDirectory (w0 w1 : Option (List ℕ)) (status : ℕ) : Type 0 where
    pub old : D
    pub new : D
    pub opened : IsOpened directory old
    pub checks : Checks states failures honest old new w0 w1 status

  -- the directory was checked, or couldn't be opened
  abbrev pub Inspects : Option (List ℕ) → Option (List ℕ) → ℕ → Type 0
  Inspects w0 w1 status = ChecksDirectory w0 w1 status ⊎ CannotOpen w0 w1 status
