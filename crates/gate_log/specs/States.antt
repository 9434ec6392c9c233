-- A log as its callers see it.
use Rattle.std.specs.Prelude.{◌≡◌, ℕ, ◌+◌, ◌<◌, ◌^◌, Bool, false, List, [], ◌∷◌, ◌++◌, length, map, Option, None, Some}
use Rattle.disk_model.specs.Gates.{Call, writes, syncs, open_gate}
use Rattle.map_types.specs.declared.commands.Command.{Command}
use Rattle.log_records.specs.declared.versions.Version.{Version}
use Rattle.log_records.specs.Layout.{layout_of}
use Rattle.ticket_order.specs.declared.stripe.Entry.{Entry}
use Rattle.store_layout.specs.Logs.{Batch, end_frame, header, log_header_bytes, new_version}
use Rattle.store_layout.specs.declared.log_phase.Phase.{Phase}
use Rattle.store_layout.specs.declared.log_phase.Phase.TheVariants.{Idle, Header, HeaderWritten, Staged, Written}
use Rattle.store_layout.specs.declared.log_phase.Phase.TheVariants.{Synced, Opened}

pub record LogState : Type 0 where
  pub version : Version
  pub generation : ℕ
  pub low : ℕ
  pub phase : Phase
  -- where the closed gate stands that counts
  pub gate : ℕ
  -- how many commands are committed, with those before the log
  pub committed : ℕ
  -- how many commands are staged
  pub count : ℕ
  -- the staged batch's frame, and a closed gate; empty if no batch is staged
  pub frame : List ℕ
  -- the generation that the end frame names, if that is staged or committed
  pub ending : Option ℕ
  -- a device call has failed
  pub is_broken : Bool

-- a batch or an end frame may be staged
abbrev pub IsResting : LogState → Type 0
IsResting log = (log.phase ≡ Idle) × (log.ending ≡ None)

-- what is written behind the gate
abbrev pub bytes_staged : Option ℕ → List ℕ → List ℕ
bytes_staged None frame = frame
bytes_staged (Some next) frame = end_frame next ++ 0 ∷ []

-- a log whose header is to be written, of the version of each new generation
abbrev pub begun : ℕ → ℕ → LogState
begun generation low = record {
  version = new_version;
  generation = generation;
  low = low;
  phase = Header;
  gate = log_header_bytes;
  committed = low;
  count = 0;
  frame = [];
  ending = None;
  is_broken = false;
}

-- a log in use of this version, behind whose gate nothing is staged
abbrev pub resumed : Version → ℕ → ℕ → ℕ → ℕ → LogState
resumed version generation low gate committed = record {
  version = version;
  generation = generation;
  low = low;
  phase = Idle;
  gate = gate;
  committed = committed;
  count = 0;
  frame = [];
  ending = None;
  is_broken = false;
}

abbrev pub commands_of : List Entry → List Command
commands_of entries = map (λ entry. entry.command) entries

-- the commands of the entries, as a batch
abbrev pub batch_of : ℕ → List Entry → Batch
batch_of first entries = record { first = first; commands = commands_of entries }

-- the entries' tickets are those from this one on, none skipped
abbrev pub AreFrom : ℕ → List Entry → Type 0
AreFrom ticket [] = Unit {0}
AreFrom ticket (entry ∷ entries) = (entry.ticket ≡ ticket) × AreFrom (ticket + 1) entries

-- the device call that comes next in each phase
abbrev pub call_in : Phase → LogState → Option Call
call_in Idle log = None
call_in Header log = Some (writes 0 (header (layout_of log.version) log.generation log.low ++ 0 ∷ []))
call_in HeaderWritten log = Some syncs
call_in Staged log = Some (writes (log.gate + 1) (bytes_staged log.ending log.frame))
call_in Written log = Some syncs
call_in Synced log = Some (writes log.gate (open_gate ∷ []))
call_in Opened log = Some syncs

-- The log after that call: the phase goes on, and after the last one what was staged is committed.
abbrev pub log_after : Phase → LogState → LogState
log_after Idle log = log
log_after Header log = record log { phase = HeaderWritten }
log_after HeaderWritten log = record log { phase = Idle }
log_after Staged log = record log { phase = Written }
log_after Written log = record log { phase = Synced }
log_after Synced log = record log { phase = Opened }
log_after Opened log =
    record log {
      phase = Idle;
      gate = log.gate + length log.frame;
      committed = log.committed + log.count;
      count = 0;
      frame = [];
    }

-- its numbers fit their types, whatever the disk does
pub record IsSound (log : LogState) : Type 0 where
  pub place : log.gate + length log.frame + 1 < 2 ^ 64
  pub fits : log.committed + log.count < 2 ^ 64
