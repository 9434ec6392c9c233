-- What bringing a directory to the newest version leaves.
use Rattle.std.specs.FinMap as finite
use Rattle.std.specs.Prelude.{◌≡◌, ◌≢◌, ◌⊎◌, ◌<◌, ◌≤◌, ◌+◌, ◌^◌, Bool, ℕ, suc, zero, false, List, [], Option, None}
use Rattle.std.specs.Prelude.{Some, Err, length}
use Rattle.disk_model.specs.Files.{Contents, Files}
use Rattle.disk_model.specs.Moments.{AtEachMoment}
use Rattle.map_types.specs.declared.refusals.Refusal.{Refusal}
use Rattle.map_types.specs.declared.refusals.Refusal.TheVariants.{Failed, LogFull, NoMemory, WrongPhase}
use Rattle.map_types.specs.declared.texts.Value.{Value}
use Rattle.map_model.specs.Maps.{Map}
use Rattle.map_model.specs.Parts.{part_of}
use Rattle.ticket_order.specs.declared.record.Opening.{Opening}
use Rattle.ticket_order.specs.declared.record.Record.{Record}
use Rattle.one_history.specs.declared.book.Book.{Book}
use Rattle.one_history.specs.Turns.{record_of}
use Rattle.store_layout.specs.Failures.{failed_in}
use Rattle.store_layout.specs.Checkpoints.{checkpoint_file}
use Rattle.store_layout.specs.Faults.{stripes_in}
use Rattle.store_layout.specs.Logs.{log_file, new_layout}
use Rattle.store_layout.specs.Opening.{Holds, Opened as FoundStore, StandsFor, log_layout, map_of, newest_of, prefix_of}
use Rattle.store_layout.specs.declared.checkpoint_phase.CheckpointPhase.TheVariants.{Ready}
use Rattle.store_layout.specs.declared.log_phase.Phase.TheVariants.{Idle}
use Rattle.gate_log.specs.States.{begun}
use Rattle.checkpoint_file.specs.States.{CheckpointState, begun as first_writer, state_after, with_section}
use Rattle.flusher.specs.declared.keeper.Keeper.{Keeper}
use Rattle.flusher.specs.Fitting.{Fits}
use Rattle.flusher.specs.KeeperSteps.{is_walking}
use Rattle.flusher.specs.Rotating.{Logs, stepped}
use Rattle.checkpoint_walk.specs.Checkpointing.{Checkpoints, kept_in}
use Rattle.recovery.specs.Formatting.{AtStops}
use Rattle.recovery.specs.LogReading.{contents_of}
use Rattle.recovery.specs.Syncing.{SyncsAndLooks}

-- ---- what a stop leaves

-- whatever a stop may leave of these files stands for the map m after the first p commands
abbrev pub StandsAt : ℕ → Map → Files → Type 0
StandsAt p m = AtStops (λ contents. StandsFor contents p m)

-- the newest log of what is found is in the newest version
abbrev pub IsNewest : Contents → FoundStore → Type 0
IsNewest contents found = log_layout (contents (log_file (newest_of found).generation)) ≡ new_layout

-- the files stand for the map m after the first p commands, and their newest log is in the newest version
pub record IsUpgraded (p : ℕ) (m : Map) (contents : Contents) : Type 0 where
  pub found : FoundStore
  pub holds : Holds contents found
  pub prefix : prefix_of found ≡ p
  pub map : map_of found ≡ m
  pub newest : IsNewest contents found

-- the checkpoint that these files use has n stripes
abbrev pub UsesStripes : ℕ → Contents → Type 0
UsesStripes n contents = (found : FoundStore) → Holds contents found → found.checkpoint.stripes ≡ n

-- An upgrade of what was found seals a checkpoint: the newest log isn't in the newest version, nor that of the sealed
-- checkpoint.
abbrev pub SealsOne : Contents → FoundStore → Type 0
SealsOne contents found = (IsNewest contents found → ⊥) × ((newest_of found).generation ≢ found.checkpoint.generation)

-- The opening of `disk` left it as `middle`, and found this. A stop at any moment from there on leaves files that stand
-- for the same map after as many commands.
pub record KeepsFound {D : Type 0} (states : D → List Files) (disk middle after : D) : Type 0 where
  pub found : FoundStore
  pub holds : Holds (contents_of states disk) found
  pub moments : AtEachMoment states middle after (StandsAt (prefix_of found) (map_of found))

-- The directory was opened, which writes nothing; of an honest disk no stop after that loses what it stood for.
pub record StaysStanding {D : Type 0} (states : D → List Files) (failures : D → ℕ) (honest : D → Type 0)
    (disk after : D) : Type 0 where
  pub middle : D
  pub opened : SyncsAndLooks states failures honest 4 0 disk middle
  pub was_honest : honest after → honest disk
  pub keeps : honest after → KeepsFound states disk middle after

-- ---- what is refused behind an opening

-- a stripe of the map, of n stripes, has too many entries for a section
pub record HasLargeStripe (n : ℕ) (m : Map) : Type 0 where
  pub stripe : ℕ
  pub within : stripe < n
  pub many : 2 ^ 32 ≤ length (finite.entries (part_of n stripe m))

-- a section of the map's stripes is refused: memory is wanting, or the stripe is too large
abbrev pub IsSectionRefused : ℕ → Map → Refusal → Type 0
IsSectionRefused n m refusal = (refusal ≡ NoMemory) ⊎ ((refusal ≡ LogFull) × HasLargeStripe n m)

-- a checkpoint of the map is refused: the one call has failed that `Failing` speaks of, or a section is refused
abbrev pub IsCheckpointRefused : Type 0 → ℕ → Map → Refusal → Type 0
IsCheckpointRefused Failing n m refusal = ((refusal ≡ Failed) × Failing) ⊎ IsSectionRefused n m refusal

-- no generation follows this one: its number would not fit in 64 bits
abbrev pub IsLastGeneration : ℕ → Type 0
IsLastGeneration generation = generation + 1 < 2 ^ 64 → ⊥

-- An upgrade of this map is refused behind its opening, which found a newest log of this generation and a sealed
-- checkpoint of that one. A device call has failed; or memory is wanting; or the checkpoint of the newest log had to be
-- taken before, and a stripe is too large; or no checkpoint may begin, for the reason `Last`.
abbrev pub IsRefusedBehind : Type 0 → Type 0 → ℕ → Map → ℕ → ℕ → Refusal → Type 0
IsRefusedBehind Failing Last n m generation sealed refusal =
    ((refusal ≡ Failed) × Failing) ⊎ ((refusal ≡ NoMemory)
    ⊎ (((refusal ≡ LogFull) × (generation ≢ sealed) × HasLargeStripe n m)
    ⊎ ((refusal ≡ WrongPhase) × Last)))

-- The same, of what was found in these files, whose map is divided into n stripes. No checkpoint may begin only if no
-- generation follows that of the newest log.
pub record RefusesBehind (Failing : Type 0) (n : ℕ) (contents : Contents) (refusal : Refusal) : Type 0 where
  pub found : FoundStore
  pub holds : Holds contents found
  pub cause : IsRefusedBehind Failing (IsLastGeneration (newest_of found).generation) n (map_of found)
      (newest_of found).generation found.checkpoint.generation refusal

-- behind its opening an upgrade is refused as these alone, whatever the device gives
abbrev pub IsListedBehind : Refusal → Type 0
IsListedBehind refusal = (refusal ≡ Failed) ⊎ ((refusal ≡ NoMemory) ⊎ ((refusal ≡ LogFull) ⊎ (refusal ≡ WrongPhase)))

-- The upgrade over this many stripes was refused behind its opening. No stop loses what the directory stood for, and on
-- an honest disk there is a reason. One call failed if it is `Failed`, and else none.
pub record IsUpgradeRefused {D : Type 0} (states : D → List Files) (failures : D → ℕ) (honest : D → Type 0)
    (stripes : ℕ) (old new : D) (refusal : Refusal) : Type 0 where
  pub stays : StaysStanding states failures honest old new
  pub counted : failures new ≡ failures old + failed_in {X = ℕ} (Err refusal)
  pub listed : IsListedBehind refusal
  pub reason : honest new → honest old × RefusesBehind (failures new
      ≡ failures old + 1) stripes (contents_of states old) refusal

-- ---- the keeper, between its calls

-- how many stripes the file of the sealed checkpoint names
abbrev pub sealed_stripes : {D : Type 0} → (D → List Files) → Keeper D → ℕ
sealed_stripes states keeper = stripes_in (contents_of states keeper.disk (checkpoint_file keeper.sealed))

-- an honest disk was so before, and no stop between the two loses the map m after the first p commands
pub record StandsThroughout {D : Type 0} (states : D → List Files) (honest : D → Type 0) (p : ℕ) (m : Map)
    (old new : D) : Type 0 where
  pub was_honest : honest new → honest old
  pub moments : honest new → AtEachMoment states old new (StandsAt p m)

-- The keeper, whose pass has this record and began with this opening, has committed and staged nothing. No walk is
-- under way, and nothing has failed.
pub record IsUnmoved {D : Type 0} (states : D → List Files) (honest : D → Type 0) (n : ℕ) (o : Opening)
    (keeper : Keeper D) (p : Record) : Type 0 where
  pub fits : Fits states honest n [] keeper p
  pub opening : p.opening ≡ o
  pub staged : keeper.staged.items ≡ []
  pub rests : is_walking keeper.sweeper.walking ≡ false
  pub over : keeper.capture ≡ None
  pub works : keeper.is_broken ≡ false
  pub published : keeper.published ≡ o.first

-- The same of a keeper whose pass has this number, with the words that have this book. It is the only pass, and no
-- change was made.
pub record IsUnmovedWith {D : Type 0} (states : D → List Files) (honest : D → Type 0) (o : Opening) (keeper : Keeper D)
    (pass : ℕ) (book : Book) : Type 0 where
  pub unmoved : IsUnmoved states honest book.stripes o keeper (record_of pass book)
  pub first : book.opening.first ≡ o.first
  pub one : length book.passes ≡ 1
  pub none_made : book.history ≡ []

-- the logs after so many calls that succeed
abbrev pub logs_after : ℕ → Logs → Logs
logs_after zero logs = logs
logs_after (suc calls) logs = stepped (logs_after calls logs)

-- the checkpoints after a call, and after so many, that succeed
abbrev pub advanced_by : Option CheckpointState → Checkpoints → Checkpoints
advanced_by None before = before
advanced_by (Some w) before = kept_in w.phase (state_after w.phase w) before

abbrev pub checkpoints_after : ℕ → Checkpoints → Checkpoints
checkpoints_after zero before = before
checkpoints_after (suc calls) before =
    advanced_by (checkpoints_after calls before).writer (checkpoints_after calls before)

-- The checkpoint of this generation was given the sections of the first `count` stripes, whose marks are at most
-- `most`, and these are written.
pub record HasSections (generation count most : ℕ) (writer : Option CheckpointState) : Type 0 where
  pub state : CheckpointState
  pub is : writer ≡ Some state
  pub generation_is : state.generation ≡ generation
  pub ready : state.phase ≡ Ready
  pub count_is : state.count ≡ count
  pub marked : state.greatest ≤ most

-- the checkpoint was given one section more, whose mark is at most `most`
pub record IsGivenAt (most : ℕ) (old new : Option CheckpointState) : Type 0 where
  pub state : CheckpointState
  pub was : old ≡ Some state
  pub mark : ℕ
  pub entries : List (List ℕ × Value)
  pub is : new ≡ Some (with_section mark entries state)
  pub low : mark ≤ most

-- The newest log was begun anew, in the newest version, and has no batch. None is to follow it, and a checkpoint is
-- begun.
pub record HasRotated {D : Type 0} (keeper : Keeper D) : Type 0 where
  pub log : keeper.log ≡ record (begun (keeper.sealed + 1) keeper.log.committed) { phase = Idle }
  pub next : keeper.next ≡ None
  pub generation : ℕ
  pub low : ℕ
  pub stripes : ℕ
  pub must_close : Bool
  pub checkpoint : keeper.checkpoint ≡ Some (first_writer generation low stripes must_close)
