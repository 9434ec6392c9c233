-- Laws of stores: what a stop leaves between two device calls and at every moment of one, and how a store stands after
-- each step.
use Rattle.std.specs.Prelude.{◌≡◌, ◌≢◌, ℕ, ◌+◌, ◌<◌, ◌≤◌, max, Bool, List, [], ◌∷◌, ◌++◌, length, None, Some}
use Rattle.disk_model.specs.Files.{Contents, File, Files, Leaves, at_rest, with_file}
use Rattle.map_types.specs.declared.commands.Command.{Command}
use Rattle.map_types.specs.declared.texts.Value.{Value}
use Rattle.map_model.specs.Histories.{History, fold_to}
use Rattle.map_model.specs.Parts.{part_of}
use Rattle.store_layout.specs.Checkpoints.{Section, checkpoint_file, greatest_mark}
use Rattle.store_layout.specs.Logs.{Batch, log_file}
use Rattle.store_layout.specs.Opening.{Opened, Holds, map_of, newest_of, prefix_of}
use Rattle.store_layout.specs.SectionsAndLog.{IsNextOf, grown, reach}
use Rattle.checkpoint_file.specs.CheckpointStates as checkpoint
use Rattle.checkpoint_file.specs.States as checkpoint_states
use Rattle.checkpoint_file.specs.States.{CheckpointState, state_after}
use Rattle.store_layout.specs.declared.checkpoint_phase.CheckpointPhase.TheVariants as checkpoint_phase
use Rattle.gate_log.specs.LogStates as log
use Rattle.gate_log.specs.States.{LogState, IsResting, begun, log_after}
use Rattle.gate_log.specs.LogSteps.{committed_after, staged_after}
use Rattle.store_layout.specs.declared.log_phase.Phase.{Phase}
use Rattle.store_layout.specs.declared.log_phase.Phase.TheVariants.{Idle, Header, HeaderWritten, Staged, Written}
use Rattle.store_layout.specs.declared.log_phase.Phase.TheVariants.{Synced, Opened as log_opened}
use Rattle.store_invariant.specs.States.{StoreState, Held, newest_batches, next_batches, with_batches}
use Rattle.store_invariant.specs.StoreStates.{Stands, StopsStand, staged_count}

-- ---- what a stop leaves

abbrev pub StoresStop : Type 0
StoresStop = (h : History) (store : StoreState) (held : Held) (files : Files) → Stands h store held files
    → StopsStand h store.log.committed (store.log.committed + staged_count held) files

-- at each moment of a step of the newest log
abbrev pub LogStepsStop : Type 0
LogStepsStop = (h : History) (store : StoreState) (held : Held) (start files : Files) → Stands h store held start
    → log.IsKept store.log (newest_batches held.found.first held.found.second) held.staged start files
    → StopsStand h store.log.committed (store.log.committed + staged_count held) files

-- of the log that follows it
abbrev pub NextStepsStop : Type 0
NextStepsStop = (h : History) (store : StoreState) (held : Held) (next : LogState) (start files : Files)
    → Stands h store held start
    → store.next ≡ Some next → next.phase ≢ Idle → log.IsKept next [] [] start files
    → StopsStand h store.log.committed (store.log.committed + staged_count held) files

-- and of the checkpoint that is written
abbrev pub WriterStepsStop : Type 0
WriterStepsStop = (h : History) (store : StoreState) (held : Held) (w : CheckpointState) (start files : Files)
    → Stands h store held start
    → store.writer ≡ Some w → store.next ≡ None → checkpoint.IsKept w held.other held.sections start files
    → StopsStand h store.log.committed (store.log.committed + staged_count held) files

-- no seal is under way
abbrev pub IsUnsealing : StoreState → Type 0
IsUnsealing store = (w : CheckpointState) → store.writer ≡ Some w
    → (w.phase ≢ checkpoint_phase.HeaderSynced) × (w.phase ≢ checkpoint_phase.Opened)

-- whatever a stop leaves then uses the sealed checkpoint
abbrev pub StopsUseCheckpoint : Type 0
StopsUseCheckpoint =
    (h : History) (store : StoreState) (held : Held) (files : Files) → Stands h store held files → IsUnsealing store
    → (contents : Contents) → Leaves files contents → (found : Opened) × Holds contents found
    × (found.checkpoint ≡ held.found.checkpoint)

-- the committed commands are those that are found
abbrev pub CommittedAreFound : Type 0
CommittedAreFound = (h : History) (store : StoreState) (held : Held) (files : Files) → Stands h store held files
    → store.log.committed ≡ prefix_of held.found

-- ---- a store that is opened

-- Files in which nothing is pending and which hold what is found, with the log that goes on behind it.
abbrev pub OpenedStands : Type 0
OpenedStands =
    (h : History) (found : Opened) (contents : Contents) (newest : LogState) (files : Files) → Holds contents found
    → ((n : ℕ) → n < 4 → files n ≡ at_rest (contents n)) → h.first ≡ prefix_of found → h.opening ≡ map_of found
    → newest.generation ≡ (newest_of found).generation → newest.low ≡ (newest_of found).low → IsResting newest
    → log.Stands newest (newest_of found).batches [] (at_rest (contents (log_file newest.generation)))
    → Stands h (record { sealed = found.checkpoint.generation; log = newest; next = None; writer = None })
    (record {
      found = found;
      staged = [];
      other = contents
          (checkpoint_file (found.checkpoint.generation + 1));
      sections = [];
    }) files

-- it stands so when the history grows
abbrev pub StandingStays : Type 0
StandingStays = (h : History) (store : StoreState) (held : Held) (files : Files) (more : List Command)
    → Stands h store held files → Stands (grown h more) store held files

-- ---- steps of logs

-- what is held after a step of the newest log
abbrev pub stepped : Phase → Held → Held
stepped log_opened held = record held { found = with_batches held.staged held.found; staged = [] }
stepped Idle held = held
stepped Header held = held
stepped HeaderWritten held = held
stepped Staged held = held
stepped Written held = held
stepped Synced held = held

-- a batch is staged
abbrev pub BatchIsStaged : Type 0
BatchIsStaged = (h : History) (store : StoreState) (held : Held) (files : Files) (count : ℕ) (frame : List ℕ)
    (batch : Batch) → Stands h store held files
    → IsResting store.log → store.next ≡ None → IsNextOf h store.log.committed batch.commands
    → log.Stands (record store.log { phase = Staged; count = count; frame = frame })
    (newest_batches held.found.first held.found.second) (batch ∷ []) (files (log_file store.log.generation))
    → Stands h (record store { log = record store.log { phase = Staged; count = count; frame = frame } })
    (record held { staged = batch ∷ [] }) files

-- a step of the newest log that has not been told to end
abbrev pub LogStepsOn : Type 0
LogStepsOn = (h : History) (store : StoreState) (held : Held) (start : Files) (file : File) → Stands h store held start
    → store.log.ending ≡ None
    → log.Stands (log_after store.log.phase store.log)
    (committed_after store.log.phase (newest_batches held.found.first held.found.second) held.staged)
    (staged_after store.log.phase held.staged) file
    → Stands h (record store { log = log_after store.log.phase store.log }) (stepped store.log.phase held)
    (with_file (log_file store.log.generation) file start)

-- the newest log's file changes in a part that the log doesn't rest on
abbrev pub LogStays : Type 0
LogStays = (h : History) (store : StoreState) (held : Held) (start : Files) (file : File) → Stands h store held start
    → log.Stands store.log (newest_batches held.found.first held.found.second) held.staged file
    → Stands h store held (with_file (log_file store.log.generation) file start)

-- the header of the log that follows is written
abbrev pub NextStepsOn : Type 0
NextStepsOn = (h : History) (store : StoreState) (held : Held) (next : LogState) (start : Files) (file : File)
    → Stands h store held start
    → store.next ≡ Some next → next.phase ≡ Header → log.Stands (log_after Header next) [] [] file
    → Stands h (record store { next = Some (log_after Header next) }) held
    (with_file (log_file next.generation) file start)

-- it is synced, and the newest log is told to end
abbrev pub NextIsReady : Type 0
NextIsReady = (h : History) (store : StoreState) (held : Held) (next ending : LogState) (start : Files) (file : File)
    → Stands h store held start
    → store.next ≡ Some next → next.phase ≡ HeaderWritten → log.Stands (log_after HeaderWritten next) [] [] file
    → ending ≡ record store.log { phase = Staged; ending = Some (store.log.generation + 1) }
    → ((batches staged : List Batch) (file : File) → log.Stands store.log batches staged file
    → log.Stands ending batches staged file)
    → Stands h (record store { log = ending; next = Some (log_after HeaderWritten next) }) held
    (with_file (log_file next.generation) file start)

-- a step of its end
abbrev pub EndStepsOn : Type 0
EndStepsOn = (h : History) (store : StoreState) (held : Held) (next : LogState) (start : Files) (file : File)
    → Stands h store held start
    → store.next ≡ Some next → next.phase ≡ Idle → store.log.phase ≢ log_opened
    → log.Stands (log_after store.log.phase store.log)
    (newest_batches held.found.first held.found.second) held.staged file
    → Stands h (record store { log = log_after store.log.phase store.log }) held
    (with_file (log_file store.log.generation) file start)

-- the last: the log that follows is the newest
abbrev pub LogEnds : Type 0
LogEnds = (h : History) (store : StoreState) (held : Held) (next : LogState) (start : Files) (file : File)
    → Stands h store held start
    → store.next ≡ Some next → next.phase ≡ Idle → store.log.phase ≡ log_opened
    → log.Stands (log_after log_opened store.log) (newest_batches held.found.first held.found.second
    ++ held.staged) [] file
    → Stands h (record store { log = next; next = None })
    (record held { found = record held.found { second = Some [] } })
    (with_file (log_file store.log.generation) file start)

-- ---- steps of checkpoints

-- a checkpoint is begun whose log is there
abbrev pub CheckpointBegins : Type 0
CheckpointBegins = (h : History) (store : StoreState) (held : Held) (files : Files) (stripes : ℕ) (must_close : Bool)
    → Stands h store held files
    → store.writer ≡ None → store.next ≡ None → store.log.generation ≡ store.sealed + 1
    → checkpoint.Stands (checkpoint_states.begun (store.sealed + 1) store.log.low stripes must_close) held.other []
    (at_rest held.other)
    → Stands h (record store {
      writer = Some
          (checkpoint_states.begun (store.sealed + 1) store.log.low stripes must_close);
    }) held files

-- and one whose log is begun with it
abbrev pub RotationBegins : Type 0
RotationBegins = (h : History) (store : StoreState) (held : Held) (files : Files) (stripes : ℕ) (must_close : Bool)
    → Stands h store held files
    → store.writer ≡ None → store.next ≡ None → store.log.generation ≡ store.sealed → IsResting store.log
    → ((file : File) → log.Stands (begun (store.sealed + 1) store.log.committed) [] [] file)
    → checkpoint.Stands (checkpoint_states.begun
    (store.sealed + 1) store.log.committed stripes must_close) held.other [] (at_rest held.other)
    → Stands h (record store {
      next = Some (begun (store.sealed + 1) store.log.committed);
      writer = Some (checkpoint_states.begun (store.sealed + 1) store.log.committed stripes must_close);
    }) held files

-- one section more is given
abbrev pub SectionIsGiven : Type 0
SectionIsGiven = (h : History) (store : StoreState) (held : Held) (files : Files) (w : CheckpointState)
    (entries : List (List ℕ × Value)) (section : Section) → Stands h store held files
    → store.writer ≡ Some w
    → section.map ≡ part_of w.stripes (length held.sections) (fold_to h section.mark) → max h.first w.low ≤ section.mark
    → section.mark ≤ reach h
    → checkpoint.Stands (checkpoint_states.with_section section.mark entries w) held.other (held.sections
    ++ section ∷ []) (files (checkpoint_file w.generation))
    → Stands h (record store { writer = Some (checkpoint_states.with_section section.mark entries w) })
    (record held { sections = held.sections ++ section ∷ [] }) files

-- the sections' marks are committed, and the checkpoint is to be sealed
abbrev pub SealBegins : Type 0
SealBegins =
    (h : History) (store : StoreState) (held : Held) (files : Files) (w : CheckpointState) → Stands h store held files
    → store.writer ≡ Some w → greatest_mark held.sections ≤ store.log.committed
    → checkpoint.Stands (record w { phase = checkpoint_phase.Header }) held.other held.sections
    (files (checkpoint_file w.generation))
    → Stands h (record store { writer = Some (record w { phase = checkpoint_phase.Header }) }) held files

-- a step of the checkpoint that is written
abbrev pub WriterStepsOn : Type 0
WriterStepsOn = (h : History) (store : StoreState) (held : Held) (w : CheckpointState) (start : Files) (file : File)
    → Stands h store held start
    → store.writer ≡ Some w → store.next ≡ None → w.phase ≢ checkpoint_phase.Opened
    → checkpoint.Stands (state_after w.phase w) held.other held.sections file
    → Stands h (record store { writer = Some (state_after w.phase w) }) held
    (with_file (checkpoint_file w.generation) file start)

-- what is held once this checkpoint is sealed, and the file of the one before has this content
abbrev pub sealed_with : CheckpointState → Held → List ℕ → Held
sealed_with w held other = record {
  found = record {
    checkpoint = checkpoint.checkpoint_of w held.sections;
    first = next_batches held.found.second;
    second = None;
  };
  staged = held.staged;
  other = other;
  sections = [];
}

-- the last: it is sealed
abbrev pub CheckpointIsSealed : Type 0
CheckpointIsSealed = (h : History) (store : StoreState) (held : Held) (w : CheckpointState) (start : Files)
    (file : File) → (stands : Stands h store held start)
    → store.writer ≡ Some w → store.next ≡ None → w.phase ≡ checkpoint_phase.Opened
    → checkpoint.Stands (state_after checkpoint_phase.Opened w) held.other held.sections file
    → Stands h (record store { sealed = store.sealed + 1; writer = None })
    (sealed_with w held stands.kept.checkpoint.content)
    (with_file (checkpoint_file w.generation) file start)
