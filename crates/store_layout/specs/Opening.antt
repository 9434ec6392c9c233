-- What four files stand for, or the refusal of opening them.
use Rattle.std.specs.Prelude.{◌≡◌, ◌⊎◌, ℕ, ◌+◌, ◌<◌, ◌≤◌, false, not, ◌&&◌, nat_lt, if◌then◌else◌, List, [], ◌++◌}
use Rattle.std.specs.Prelude.{length, map, slice_index_or, Option, None, Some, Result, Ok, Err}
use Rattle.std.specs.FinMap as finite
use Rattle.std.specs.List.{range_with_len}
use Rattle.map_types.specs.declared.commands.Command.{Command}
use Rattle.map_types.specs.declared.refusals.Refusal.{Refusal}
use Rattle.map_types.specs.declared.refusals.Refusal.TheVariants.{Damaged, NotFormatted}
use Rattle.map_model.specs.Maps.{Map}
use Rattle.map_model.specs.Histories.{History, fold_to}
use Rattle.log_records.specs.Layout.{Layout}
use Rattle.store_layout.specs.Logs.{Batch, IsClosed, IsEnded, commands_in, layout_for, log_file}
use Rattle.store_layout.specs.Checkpoints.{Section, Checkpoint, IsCheckpoint, checkpoint_file, greatest_mark, is_sealed}
use Rattle.store_layout.specs.Readings.{IsBadHeader, Reading, ended, broken, Reads, gate_behind}
use Rattle.store_layout.specs.SectionsAndLog.{reach, restored}
use Rattle.store_layout.specs.Faults.{generation_in, version_in, head_fault, IsBadCheckpoint}

-- what each of the four files holds
abbrev pub Contents : Type 0
Contents = ℕ → List ℕ

-- ---- what an opening finds

-- the checkpoint that is used, the batches of its log, and, if that one has ended, those of the next
pub record Opened : Type 0 where
  pub checkpoint : Checkpoint
  pub first : List Batch
  pub second : Option (List Batch)

-- a log, with the batches that it has
pub record FoundLog : Type 0 where
  pub generation : ℕ
  pub low : ℕ
  pub batches : List Batch

-- the layout of the version that a log file names, and that of the one that a checkpoint file names
abbrev pub log_layout : List ℕ → Layout
log_layout content = layout_for (slice_index_or content 0 0)

abbrev pub checkpoint_layout : List ℕ → Layout
checkpoint_layout content = layout_for (version_in content)

abbrev pub IsClosedIn : ℕ → ℕ → List Batch → List ℕ → Type 0
IsClosedIn generation low batches content = IsClosed (log_layout content) generation low batches content

abbrev pub IsEndedIn : ℕ → ℕ → List Batch → ℕ → List ℕ → Type 0
IsEndedIn generation low batches next content = IsEnded (log_layout content) generation low batches next content

abbrev pub ReadsIn : ℕ → ℕ → List ℕ → Reading → Type 0
ReadsIn generation low content reading = Reads (log_layout content) generation low content reading

abbrev pub IsCheckpointIn : Checkpoint → List ℕ → Type 0
IsCheckpointIn k content = IsCheckpoint (checkpoint_layout content) k content

abbrev pub IsBadCheckpointIn : ℕ → List ℕ → Refusal → Type 0
IsBadCheckpointIn file content refusal = IsBadCheckpoint (checkpoint_layout content) file content refusal

-- where the gate behind the log's batches stands in its file
abbrev pub gate_in : List ℕ → FoundLog → ℕ
gate_in content log = gate_behind (log_layout content) log.generation log.low log.batches

-- the ticket that the next log goes on from
abbrev pub next_low : Checkpoint → List Batch → ℕ
next_low k first = k.low + length (commands_in first)

-- the newest of the logs
abbrev pub newest_by : Checkpoint → List Batch → Option (List Batch) → FoundLog
newest_by k first None = record { generation = k.generation; low = k.low; batches = first }
newest_by k first (Some second) = record { generation = k.generation + 1; low = next_low k first; batches = second }

abbrev pub newest_of : Opened → FoundLog
newest_of found = newest_by found.checkpoint found.first found.second

-- The most bytes that the key of a change may have in a life that begins with these files: as many as a record of the
-- newest log may have.
abbrev pub key_limit_of : Contents → Opened → ℕ
key_limit_of contents found = (log_layout (contents (log_file (newest_of found).generation))).key_limit

-- the commands of both logs
abbrev pub logged_by : List Batch → Option (List Batch) → List Command
logged_by first None = commands_in first
logged_by first (Some second) = commands_in first ++ commands_in second

abbrev pub log_of : Opened → List Command
log_of found = logged_by found.first found.second

-- how many commands the files stand for
abbrev pub prefix_of : Opened → ℕ
prefix_of found = found.checkpoint.low + length (log_of found)

-- the map after these commands
abbrev pub map_of : Opened → Map
map_of found = restored found.checkpoint.stripes found.checkpoint.sections found.checkpoint.low (log_of found)

-- what is found, as a history of which nothing but the map is known
abbrev pub history_of : Opened → History
history_of found = record { first = prefix_of found; opening = map_of found; commands = [] }

-- ---- standing for

-- the file has no sealed checkpoint, or an older one
abbrev pub IsOlder : ℕ → ℕ → List ℕ → Type 0
IsOlder generation file content =
    (is_sealed content ≡ false) ⊎ ((head_fault file content ≡ None) × (generation_in content < generation))

-- The log of the checkpoint's generation goes on from its low ticket and is closed; or it has ended, and the next goes
-- on and is closed.
abbrev pub AreLogs : Contents → Checkpoint → List Batch → Option (List Batch) → Type 0
AreLogs contents k first None = IsClosedIn k.generation k.low first (contents (log_file k.generation))
AreLogs contents k first (Some second) =
    IsEndedIn k.generation k.low first (k.generation + 1) (contents (log_file k.generation))
    × IsClosedIn (k.generation + 1) (next_low k first) second (contents (log_file (k.generation + 1)))

-- the files hold what is found
pub record Holds (contents : Contents) (found : Opened) : Type 0 where
  pub checkpoint : IsCheckpointIn found.checkpoint (contents (checkpoint_file found.checkpoint.generation))
  pub other : IsOlder found.checkpoint.generation (checkpoint_file (found.checkpoint.generation + 1))
      (contents (checkpoint_file (found.checkpoint.generation + 1)))
  pub logs : AreLogs contents found.checkpoint found.first found.second
  pub reaches : greatest_mark found.checkpoint.sections ≤ prefix_of found

-- The files stand for the map m after the first p commands.
pub record StandsFor (contents : Contents) (p : ℕ) (m : Map) : Type 0 where
  pub found : Opened
  pub holds : Holds contents found
  pub prefix : prefix_of found ≡ p
  pub map : map_of found ≡ m

-- the files stand for the map after the history's first `count` commands: at least `least`, and at most `most`
pub record StandsForFront (h : History) (least most : ℕ) (contents : Contents) : Type 0 where
  pub count : ℕ
  pub stands : StandsFor contents count (fold_to h count)
  pub from_first : h.first ≤ count
  pub within : count ≤ reach h
  pub from_least : least ≤ count
  pub to_most : count ≤ most

-- ---- a new store

-- nothing, after no command
abbrev pub empty_section : Section
empty_section = record { mark = 0; map = finite.empty }

-- the checkpoint that a store of `stripes` stripes begins with
abbrev pub first_checkpoint : ℕ → Checkpoint
first_checkpoint stripes = record {
  generation = 0;
  low = 0;
  stripes = stripes;
  sections = map (λ stripe. empty_section)
      (range_with_len 0 stripes);
}

-- ---- refusals

-- the first of two refusals
abbrev pub first_fault : Option Refusal → Option Refusal → Option Refusal
first_fault None other = other
first_fault (Some refusal) other = Some refusal

-- no file is sealed, or one of them has a bad head
abbrev pub heads_fault : Contents → Option Refusal
heads_fault contents =
    if not (is_sealed (contents 0)) && not (is_sealed (contents 1)) then Some NotFormatted
    else first_fault (head_fault 0 (contents 0)) (head_fault 1 (contents 1))

-- of the sealed files the one with the greater generation
abbrev pub newest_file : Contents → ℕ
newest_file contents =
    if not (is_sealed (contents 1)) then 0
    else if not (is_sealed (contents 0)) then 1
    else if nat_lt (generation_in (contents 1)) (generation_in (contents 0)) then 0
    else 1

-- the log is damaged at the last of its gates that is read
abbrev pub damage_behind : Contents → FoundLog → Refusal
damage_behind contents log = Damaged (log_file log.generation) (gate_in (contents (log_file log.generation)) log)

-- What is wrong with the logs of a checkpoint, and its refusal. It is the header of the first log, one of its frames,
-- the header of the next, or one of its frames, of which none may be an end frame. Or the logs are whole and end below
-- the greatest mark.
pub data AreBadLogs (contents : Contents) (k : Checkpoint) (refusal : Refusal) : Type 0 where
  bad_header : IsBadHeader k.generation k.low (contents (log_file k.generation)) refusal → AreBadLogs contents k refusal
  bad_frame : (first : List Batch) → ReadsIn k.generation k.low (contents (log_file k.generation)) (broken first)
      → refusal ≡ damage_behind contents (newest_by k first None) → AreBadLogs contents k refusal
  bad_next_header : (first : List Batch) → ReadsIn k.generation k.low (contents (log_file k.generation)) (ended first)
      → IsBadHeader (k.generation + 1) (next_low k first) (contents (log_file (k.generation + 1))) refusal
      → AreBadLogs contents k refusal
  bad_next_frame : (first second : List Batch) → ReadsIn k.generation k.low (contents (log_file k.generation))
      (ended first)
      → ReadsIn (k.generation + 1) (next_low k first) (contents (log_file (k.generation + 1))) (broken second)
      → refusal ≡ damage_behind contents (newest_by k first (Some second)) → AreBadLogs contents k refusal
  second_end : (first second : List Batch) → ReadsIn k.generation k.low (contents (log_file k.generation)) (ended first)
      → ReadsIn (k.generation + 1) (next_low k first) (contents (log_file (k.generation + 1))) (ended second)
      → refusal ≡ damage_behind contents (newest_by k first (Some second)) → AreBadLogs contents k refusal
  below_mark : (first : List Batch) (second : Option (List Batch)) → AreLogs contents k first second
      → k.low + length (logged_by first second) < greatest_mark k.sections
      → refusal ≡ damage_behind contents (newest_by k first second) → AreBadLogs contents k refusal

-- Opening the files is refused, and with this refusal. What is wrong is looked for in the heads of the sealed
-- checkpoints, in the checkpoint that is used, and in its logs, in this order.
pub data Refuses (contents : Contents) (refusal : Refusal) : Type 0 where
  bad_heads : heads_fault contents ≡ Some refusal → Refuses contents refusal
  bad_checkpoint : heads_fault contents ≡ None → IsBadCheckpointIn (newest_file contents)
      (contents (newest_file contents)) refusal
      → Refuses contents refusal
  bad_logs : (k : Checkpoint) → heads_fault contents ≡ None → IsCheckpointIn k (contents (newest_file contents))
      → AreBadLogs contents k refusal
      → Refuses contents refusal

-- what opening the files gives
abbrev pub Opens : Contents → Result Opened Refusal → Type 0
Opens contents (Ok found) = Holds contents found
Opens contents (Err refusal) = Refuses contents refusal
