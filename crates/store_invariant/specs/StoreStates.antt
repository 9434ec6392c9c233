-- How a store's four files stand between two device calls while none has failed, and what a stop may leave of them.
use Rattle.std.specs.Prelude.{◌≡◌, ◌≢◌, ℕ, ◌+◌, ◌≤◌, max, List, [], length, Option, None, Some}
use Rattle.disk_model.specs.Files.{Contents, File, Files, Leaves, MayLeave, at_rest}
use Rattle.map_model.specs.Histories.{History}
use Rattle.store_layout.specs.Checkpoints.{Section, Checkpoint, checkpoint_file, greatest_mark}
use Rattle.store_layout.specs.Logs.{Batch, commands_in, log_file}
use Rattle.store_layout.specs.Opening.{IsCheckpointIn, IsEndedIn, IsOlder, StandsForFront, log_of, next_low}
use Rattle.store_layout.specs.SectionsAndLog.{AreMarks, AreParts, IsLogOf, IsNextOf, Restores, reach}
use Rattle.checkpoint_file.specs.CheckpointStates as checkpoint
use Rattle.checkpoint_file.specs.States.{CheckpointState}
use Rattle.store_layout.specs.declared.checkpoint_phase.CheckpointPhase.{CheckpointPhase}
use Rattle.store_layout.specs.declared.checkpoint_phase.CheckpointPhase.TheVariants as checkpoint_phase
use Rattle.gate_log.specs.LogStates as log
use Rattle.gate_log.specs.States.{LogState, IsResting}
use Rattle.store_layout.specs.declared.log_phase.Phase.{Phase}
use Rattle.store_layout.specs.declared.log_phase.Phase.TheVariants.{Idle, Header, HeaderWritten, Staged, Written}
use Rattle.store_layout.specs.declared.log_phase.Phase.TheVariants.{Synced, Opened as log_opened}
use Rattle.store_invariant.specs.States.{StoreState, Held, low_after}

-- ---- what a stop leaves

-- whatever a stop may leave of the files stands for a front of the history, of at least `least` and at most `most`
-- commands
abbrev pub StopsStand : History → ℕ → ℕ → Files → Type 0
StopsStand h least most files = (contents : Contents) → Leaves files contents → StandsForFront h least most contents

-- ---- the files

-- nothing is pending, and the file holds this checkpoint, sealed
pub record IsSealedIn (k : Checkpoint) (file : File) : Type 0 where
  pub content : List ℕ
  pub settled : file ≡ at_rest content
  pub checkpoint : IsCheckpointIn k content

-- whatever a stop may leave of the file is a log with these batches that has ended, and names the next generation
abbrev pub HasEnded : ℕ → ℕ → List Batch → File → Type 0
HasEnded generation low batches file =
    (content : List ℕ) → MayLeave file content → IsEndedIn generation low batches (generation + 1) content

-- The newest log is that of the checkpoint's generation; or that one has ended, and the newest is the next.
abbrev pub LogsStand : Checkpoint → List Batch → Option (List Batch) → LogState → List Batch → Files → Type 0
LogsStand k first None newest staged files =
    (newest.generation ≡ k.generation) × (newest.low ≡ k.low)
    × log.Stands newest first staged (files (log_file k.generation))
LogsStand k first (Some second) newest staged files =
    (newest.generation ≡ k.generation + 1) × (newest.low ≡ next_low k first)
    × log.Stands newest second staged (files (log_file (k.generation + 1)))
    × HasEnded k.generation k.low first (files (log_file k.generation))

-- while the header of the log that follows is written the newest one rests; then its end frame is committed
abbrev pub IsTurn : Phase → LogState → Type 0
IsTurn Header newest = IsResting newest
IsTurn HeaderWritten newest = IsResting newest
IsTurn Idle newest = (newest.phase ≢ Idle) × (newest.ending ≡ Some (newest.generation + 1))
IsTurn Staged newest = ⊥
IsTurn Written newest = ⊥
IsTurn Synced newest = ⊥
IsTurn log_opened newest = ⊥

-- the log that follows the newest one, and has no batch yet
pub record Follows (next newest : LogState) (second : Option (List Batch)) (files : Files) : Type 0 where
  pub newest_is_first : second ≡ None
  pub generation : next.generation ≡ newest.generation + 1
  pub low : next.low ≡ newest.committed
  pub goes_on : next.ending ≡ None
  pub turn : IsTurn next.phase newest
  pub stands : log.Stands next [] [] (files (log_file next.generation))

-- no log follows, and the newest one goes on; or one does
abbrev pub NextStands : Option LogState → LogState → Option (List Batch) → Files → Type 0
NextStands None newest second files = newest.ending ≡ None
NextStands (Some next) newest second files = Follows next newest second files

-- the log that the next checkpoint goes with is there, or is begun
abbrev pub HasNextLog : Option LogState → Option (List Batch) → Type 0
HasNextLog None None = ⊥
HasNextLog None (Some second) = Unit {0}
HasNextLog (Some next) second = Unit {0}

-- it has begun and is not over, and its gate is not opened before its log is there
abbrev pub IsUnderWay : CheckpointPhase → Option LogState → Type 0
IsUnderWay checkpoint_phase.Idle next = ⊥
IsUnderWay checkpoint_phase.Sealed next = ⊥
IsUnderWay checkpoint_phase.HeaderSynced next = next ≡ None
IsUnderWay checkpoint_phase.Opened next = next ≡ None
IsUnderWay _ next = Unit {0}

-- the checkpoint that is written, and its file
pub record Writes (w : CheckpointState) (store : StoreState) (held : Held) (file : File) : Type 0 where
  pub generation : w.generation ≡ store.sealed + 1
  pub low : w.low ≡ low_after store.log store.next
  pub has_log : HasNextLog store.next held.found.second
  pub under_way : IsUnderWay w.phase store.next
  pub stands : checkpoint.Stands w held.other held.sections file

-- none is written, and nothing is pending in its file; or one is
abbrev pub WriterStands : Option CheckpointState → StoreState → Held → File → Type 0
WriterStands None store held file = (file ≡ at_rest held.other) × (held.sections ≡ [])
WriterStands (Some w) store held file = Writes w store held file

-- The files stand as the one who writes the store knows: they hold what is found, and what was given to be written is
-- staged.
pub record HasFiles (store : StoreState) (held : Held) (files : Files) : Type 0 where
  pub sealed : held.found.checkpoint.generation ≡ store.sealed
  pub checkpoint : IsSealedIn held.found.checkpoint (files (checkpoint_file store.sealed))
  pub older : IsOlder store.sealed (checkpoint_file (store.sealed + 1)) held.other
  pub ready : log.IsReady store.log.phase
  pub logs : LogsStand held.found.checkpoint held.found.first held.found.second store.log held.staged files
  pub next : NextStands store.next store.log held.found.second files
  pub writer : WriterStands store.writer store held (files (checkpoint_file (store.sealed + 1)))

-- ---- the history

-- the sections are to be sealed, so that their marks are committed
abbrev pub IsReached : CheckpointPhase → List Section → ℕ → Type 0
IsReached checkpoint_phase.Header sections committed = greatest_mark sections ≤ committed
IsReached checkpoint_phase.HeaderWritten sections committed = greatest_mark sections ≤ committed
IsReached checkpoint_phase.HeaderSynced sections committed = greatest_mark sections ≤ committed
IsReached checkpoint_phase.Opened sections committed = greatest_mark sections ≤ committed
IsReached _ sections committed = Unit {0}

-- the sections are parts of the history at their marks
pub record IsCapture (h : History) (w : CheckpointState) (sections : List Section) (committed : ℕ) : Type 0 where
  pub parts : AreParts h w.stripes 0 sections
  pub marks : AreMarks (max h.first w.low) (reach h) sections
  pub reached : IsReached w.phase sections committed

abbrev pub MayCapture : History → Option CheckpointState → List Section → ℕ → Type 0
MayCapture h None sections committed = Unit {0}
MayCapture h (Some w) sections committed = IsCapture h w sections committed

-- the log that the next checkpoint goes with, if it is there or is begun, is one of the history
abbrev pub NextLogIsOf : History → Option LogState → Option (List Batch) → ℕ → Type 0
NextLogIsOf h None None low = Unit {0}
NextLogIsOf h None (Some second) low = IsLogOf h low (commands_in second)
NextLogIsOf h (Some next) second low = IsLogOf h low []

-- The history's front is held, what is staged comes next in it, and the captured sections are its parts.
pub record HasHistory (h : History) (store : StoreState) (held : Held) : Type 0 where
  pub restores : Restores h held.found.checkpoint.stripes held.found.checkpoint.sections held.found.checkpoint.low
      (log_of held.found)
  pub next : IsNextOf h store.log.committed (commands_in held.staged)
  pub next_log : NextLogIsOf h store.next held.found.second (low_after store.log store.next)
  pub capture : MayCapture h store.writer held.sections store.log.committed

-- ---- both

-- The files hold a front of the history, as the one who writes the store knows.
pub record Stands (h : History) (store : StoreState) (held : Held) (files : Files) : Type 0 where
  pub kept : HasFiles store held files
  pub of_history : HasHistory h store held

-- how many commands are staged
abbrev pub staged_count : Held → ℕ
staged_count held = length (commands_in held.staged)
