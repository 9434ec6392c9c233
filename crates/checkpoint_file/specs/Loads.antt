-- What reading the file of a checkpoint finds, part by part.
use Rattle.std.specs.Prelude.{◌≡◌, ◌⊎◌, ℕ, ◌+◌, ◌-◌, ◌<◌, ◌^◌, List, [], ◌∷◌, ◌++◌, length, map, None, true, Some}
use Rattle.std.specs.Prelude.{get_or}
use Rattle.std.specs.List.{AllByRecursion}
use Rattle.std.specs.FinMap as finite
use Rattle.std.specs.Ordering.{nat_cmp, is_lt}
use Rattle.std.specs.Cmp.Lexicographic.{slice_cmp}
use Rattle.disk_model.specs.Files.{Files, now}
use Rattle.map_types.specs.declared.texts.Value.{Value}
use Rattle.map_types.specs.declared.refusals.Refusal.{Refusal}
use Rattle.map_types.specs.declared.refusals.Refusal.TheVariants.{Failed, NoMemory, Damaged}
use Rattle.log_records.specs.Layout.{Layout}
use Rattle.store_layout.specs.Checkpoints.{Section, Checkpoint, IsSection, AreSections, body_offset, entry_bytes}
use Rattle.store_layout.specs.Checkpoints.{entries_bytes, sections_bytes, is_sealed}
use Rattle.store_layout.specs.Faults.{AreEntries, head_fault}
use Rattle.store_layout.specs.Opening.{IsBadCheckpointIn}
use Rattle.checkpoint_file.specs.declared.head.Head.{Head}
use Rattle.checkpoint_file.specs.declared.unread.Unread.{Unread}
use Rattle.checkpoint_file.specs.declared.loading.LoadedSection.{LoadedSection}
use Rattle.checkpoint_file.specs.declared.loading.LoadedCheckpoint.{LoadedCheckpoint}

-- ---- what was read

-- the section with this mark and the map of these entries
abbrev pub section_of : LoadedSection → Section
section_of read = record { mark = read.mark; map = finite.from_entries read.entries.items }

abbrev pub sections_of : List LoadedSection → List Section
sections_of reads = map (λ read. section_of read) reads

abbrev pub checkpoint_of : LoadedCheckpoint → Checkpoint
checkpoint_of loaded =
    record {
      generation = loaded.generation;
      low = loaded.low;
      stripes = loaded.stripes.count;
      sections = sections_of loaded.sections.items;
    }

-- the entries are those of a map, each key once, in rising byte order
abbrev pub IsRising : LoadedSection → Type 0
IsRising read = finite.entries (section_of read).map ≡ read.entries.items

abbrev pub AreRising : List LoadedSection → Type 0
AreRising reads = AllByRecursion IsRising reads

-- The first fault of a file that no checkpoint is read from: of its head, or of its sections if it is sealed. The
-- sections have the layout of the version that the head names.
abbrev pub IsUnloadable : ℕ → List ℕ → Refusal → Type 0
IsUnloadable file content refusal =
    (head_fault file content ≡ Some refusal) ⊎ ((is_sealed content ≡ true) × (head_fault file content ≡ None)
    × IsBadCheckpointIn file content refusal)

-- ---- where it stands

-- these bytes stand at this offset of the content
pub record StandsAt (content : List ℕ) (at : ℕ) (rest : List ℕ) : Type 0 where
  pub front : List ℕ
  pub behind : List ℕ
  pub bytes : content ≡ front ++ (rest ++ behind)
  pub offset : length front ≡ at

-- what a read gives of a file
abbrev pub seen_in : {D : Type 0} → (D → List Files) → D → ℕ → List ℕ
seen_in states disk file = (now (states disk) file).seen

-- this holds of the bytes of the body that are not read yet
abbrev pub ForRest : {D : Type 0} → (D → List Files) → D → Unread → (List ℕ → Type 0) → Type 0
ForRest states disk unread P =
    (rest : List ℕ) → StandsAt (seen_in states disk unread.file) unread.at rest → length rest ≡ unread.left → P rest

-- a later place of the same body
pub record IsBehind (old new : Unread) : Type 0 where
  pub file : new.file ≡ old.file
  pub version : new.version ≡ old.version
  pub end : new.at + new.left ≡ old.at + old.left

-- these bytes were read, and what is behind them is not
pub record GoesOn (content bytes rest : List ℕ) (new : Unread) : Type 0 where
  pub left : List ℕ
  pub spelled : rest ≡ bytes ++ left
  pub stands : StandsAt content new.at left
  pub size : length left ≡ new.left

-- A device call failed, or memory was wanting, or the file is damaged at an offset, for which there is this reason.
abbrev pub RefusesIn : ℕ → (ℕ → Type 0) → Refusal → Type 0
RefusesIn file Reason refusal =
    (refusal ≡ Failed) ⊎ ((refusal ≡ NoMemory) ⊎ ((offset : ℕ) × (refusal ≡ Damaged file offset) × Reason offset))

-- ---- entries

-- the key is above that of the last entry, if there is one
abbrev pub IsAbove : List (List ℕ × Value) → List ℕ → Type 0
IsAbove entries key = (d : List ℕ × Value) → 0 < length entries
    → is_lt (slice_cmp nat_cmp (get_or entries (length entries - 1) d).0 key) ≡ true

-- no entry that may come next stands at the front
abbrev pub HasNoNext : Layout → ℕ → ℕ → List (List ℕ × Value) → List ℕ → Type 0
HasNoNext layout stripes stripe before rest =
    (entry : List ℕ × Value) (others : List ℕ) → rest ≡ entry_bytes layout entry ++ others
    → AreEntries layout stripes stripe (before ++ entry ∷ []) → ⊥

-- if the entries before are those of a stripe, they are so with this one behind them
abbrev pub MayFollow : Layout → ℕ → ℕ → List (List ℕ × Value) → List ℕ × Value → Type 0
MayFollow layout stripes stripe before entry =
    AreEntries layout stripes stripe before → AreEntries layout stripes stripe (before ++ entry ∷ [])

-- the entry stands at the front, and takes `used` bytes
pub record IsNext (layout : Layout) (entry : List ℕ × Value) (used : ℕ) (rest : List ℕ) : Type 0 where
  pub others : List ℕ
  pub spelled : rest ≡ entry_bytes layout entry ++ others
  pub size : used ≡ length (entry_bytes layout entry)

-- fewer entries than `count`, and behind these none that may come next
pub record HasFewer (layout : Layout) (stripes stripe count : ℕ) (rest : List ℕ) (distance : ℕ) : Type 0 where
  pub before : List (List ℕ × Value)
  pub are : AreEntries layout stripes stripe before
  pub others : List ℕ
  pub spelled : rest ≡ entries_bytes layout before ++ others
  pub fewer : length before < count
  pub none_next : HasNoNext layout stripes stripe before others
  pub place : distance ≡ length (entries_bytes layout before)

-- `count` entries of the stripe were read
pub record AreSoMany (layout : Layout) (stripes stripe count : ℕ) (entries : List (List ℕ × Value)) : Type 0 where
  pub are : AreEntries layout stripes stripe entries
  pub so_many : length entries ≡ count

-- ---- sections

-- a section of the stripe was read
pub record IsLoaded (layout : Layout) (stripes stripe : ℕ) (read : LoadedSection) : Type 0 where
  pub fits : IsSection layout stripes stripe (section_of read)
  pub rising : IsRising read

-- the sections of the first stripes were read
pub record AreLoaded (layout : Layout) (stripes : ℕ) (reads : List LoadedSection) : Type 0 where
  pub fit : AreSections layout stripes 0 (sections_of reads)
  pub rising : AreRising reads

-- ---- the body

-- the sections of all stripes were read, and they fill the body
pub record IsBodyOf (layout : Layout) (stripes : ℕ) (reads : List LoadedSection) (body : List ℕ) : Type 0 where
  pub loaded : AreLoaded layout stripes reads
  pub one_each : length reads ≡ stripes
  pub spelled : body ≡ sections_bytes layout (sections_of reads)

-- where the body stands of which the file has this head
pub record IsBodyAt (file : ℕ) (head : Head) (unread : Unread) : Type 0 where
  pub file_is : unread.file ≡ file
  pub version_is : unread.version ≡ head.version
  pub offset : unread.at ≡ body_offset
  pub left : unread.left ≡ head.body_len
  pub fits : unread.at + unread.left < 2 ^ 64
