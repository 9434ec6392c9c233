-- What happened to a disk, and the states that it led to.
use Rattle.std.specs.Prelude.{◌≡◌, ℕ, ◌+◌, ◌-◌, min, take, drop, List, [], ◌∷◌, length}
use Rattle.disk_model.specs.Files.{Files, now, with_file, written, reached, synced, empty_files}
use Rattle.disk_model.specs.Fills.{torn, after_stop}
use Rattle.disk_model.specs.declared.fill.Fill.{Fill}
use Rattle.disk_model.specs.declared.fill.Fill.TheVariants.{New}
use Rattle.disk_model.specs.declared.past.Note.{Note}
use Rattle.disk_model.specs.declared.past.Note.TheVariants as note

pub data Event : Type 0 where
  -- a look at a file in memory, which reads what was written
  looked : Event
  -- a look or a sync failed
  failed : Event
  wrote : (file at : ℕ) → (bytes : List ℕ) → Event
  -- a write of these bytes failed, and left this to be read
  tore : (file at : ℕ) → (bytes seen : List ℕ) → Event
  -- a write failed, and what it left to be read is not known
  broke : (file at : ℕ) → (bytes : List ℕ) → Event
  synced_file : (file : ℕ) → Event
  -- a look at a file of the system gave this length
  measured : (file len : ℕ) → Event
  -- a read of a file of the system, for which there was room for `room` bytes, gave these bytes
  gave : (file at room : ℕ) → (bytes : List ℕ) → Event
  -- the machine stopped and was started again
  stopped : Fill → Event

abbrev pub event_of : Note → Event
event_of note.Looked = looked
event_of note.Failed = failed
event_of (note.Wrote file at bytes) = wrote file at bytes.now
event_of (note.Tore file at bytes seen) = tore file at bytes.now seen.now
event_of (note.Broke file at bytes) = broke file at bytes.now
event_of (note.Synced file) = synced_file file
event_of (note.Measured file len) = measured file len
event_of (note.Gave file at room bytes) = gave file at room bytes.now
event_of (note.Stopped fill) = stopped fill.now

-- What a write that broke left to be read is what this fill picks.
abbrev pub after : Fill → Event → Files → Files
after unknown looked files = files
after unknown failed files = files
after unknown (wrote file at bytes) files = with_file file (written at bytes (files file)) files
after unknown (tore file at bytes seen) files = with_file file (reached at bytes seen (files file)) files
after unknown (broke file at bytes) files = with_file file (torn unknown file at bytes (files file)) files
after unknown (synced_file file) files = with_file file (synced (files file)) files
after unknown (measured file len) files = files
after unknown (gave file at room bytes) files = files
after unknown (stopped fill) files = after_stop fill files

-- The state at first and after each event, the newest first. The writes that broke left what these fills pick.
abbrev pub states_from : Files → (ℕ → Fill) → List Event → List Files
states_from start unknown [] = start ∷ []
states_from start unknown (event ∷ events) =
    after (unknown (length events)) event (now (states_from start unknown events)) ∷ states_from start unknown events

-- the states of a disk in memory
abbrev pub states_of : List Event → List Files
states_of events = states_from empty_files (λ _. New) events

-- a look gave what was written
abbrev pub Agrees : Event → Files → Type 0
Agrees (measured file len) files = len ≡ length (files file).seen
Agrees (gave file at room bytes) files =
    (length bytes ≡ min room (length (files file).seen - at))
    × (bytes ≡ take (length bytes) (drop at (files file).seen))
Agrees event files = Unit {0}

abbrev pub AllAgree : Files → (ℕ → Fill) → List Event → Type 0
AllAgree start unknown [] = Unit {0}
AllAgree start unknown (event ∷ events) =
    Agrees event (now (states_from start unknown events)) × AllAgree start unknown events

abbrev pub failures_in : Event → ℕ
failures_in failed = 1
failures_in (tore file at bytes seen) = 1
failures_in (broke file at bytes) = 1
failures_in event = 0

abbrev pub failures_of : List Event → ℕ
failures_of [] = 0
failures_of (event ∷ events) = failures_of events + failures_in event
