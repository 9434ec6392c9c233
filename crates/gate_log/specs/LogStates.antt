-- How a log's file stands between two calls, and what a stop may leave of it.
use Rattle.std.specs.Prelude.{◌≡◌, ◌≢◌, ◌⊎◌, ℕ, ◌+◌, ◌<◌, ◌^◌, List, [], ◌∷◌, ◌++◌, length, Option, None, Some}
use Rattle.disk_model.specs.Files.{File, Files, MayLeave}
use Rattle.disk_model.specs.Gates.{IsShut, IsOpening, IsOpen, open_gate}
use Rattle.log_records.specs.Layout.{layout_of}
use Rattle.store_layout.specs.Logs.{Batch, IsBatch, IsLog, IsClosed, IsEnded, commands_in, end_frame, frame, header}
use Rattle.store_layout.specs.Logs.{log_file, log_front}
use Rattle.store_layout.specs.declared.log_phase.Phase.{Phase}
use Rattle.store_layout.specs.declared.log_phase.Phase.TheVariants.{Idle, Header, HeaderWritten, Staged, Written}
use Rattle.store_layout.specs.declared.log_phase.Phase.TheVariants.{Synced, Opened}
use Rattle.gate_log.specs.States.{LogState, bytes_staged}

abbrev pub front_of : LogState → List Batch → List ℕ
front_of log batches = log_front (layout_of log.version) log.generation log.low batches

-- these batches are committed
pub record HasCommitted (log : LogState) (batches : List Batch) : Type 0 where
  pub gate : log.gate ≡ length (front_of log batches)
  pub committed : log.committed ≡ log.low + length (commands_in batches)
  pub in_order : IsLog (layout_of log.version) log.generation log.low batches

-- this batch is staged
pub record IsNext (log : LogState) (batch : Batch) : Type 0 where
  pub frame : log.frame ≡ frame (layout_of log.version) batch ++ 0 ∷ []
  pub count : log.count ≡ length batch.commands
  pub first : batch.first ≡ log.committed
  pub fits : IsBatch (layout_of log.version) batch

-- no batch is staged
pub record HasNone (log : LogState) (staged : List Batch) : Type 0 where
  pub none_staged : staged ≡ []
  pub frame : log.frame ≡ []
  pub count : log.count ≡ 0

-- one batch is staged, or the end frame
abbrev pub HasNext : Option ℕ → LogState → List Batch → Type 0
HasNext None log staged = (batch : Batch) × (staged ≡ batch ∷ []) × IsNext log batch
HasNext (Some next) log staged = HasNone log staged × (next < 2 ^ 64)

-- between two commits, and after the end frame's
abbrev pub AtRest : Option ℕ → LogState → List Batch → File → Type 0
AtRest None log batches file = IsShut (front_of log batches) [] file
AtRest (Some next) log batches file = IsOpen (front_of log batches) (end_frame next ++ 0 ∷ []) file × (next < 2 ^ 64)

-- how the file stands in each phase
abbrev pub AtPhase : Phase → LogState → List Batch → List Batch → File → Type 0
AtPhase Header log batches staged file = (batches ≡ []) × HasNone log staged × (log.ending ≡ None)
AtPhase HeaderWritten log batches staged file =
    (batches ≡ []) × HasNone log staged × (log.ending ≡ None)
    × ((rest : List ℕ) × (file.seen ≡ header (layout_of log.version) log.generation log.low ++ 0 ∷ rest))
AtPhase Idle log batches staged file = HasNone log staged × AtRest log.ending log batches file
AtPhase Staged log batches staged file = HasNext log.ending log staged × IsShut (front_of log batches) [] file
AtPhase Written log batches staged file =
    HasNext log.ending log staged × IsShut (front_of log batches) (bytes_staged log.ending log.frame) file
AtPhase Synced log batches staged file =
    HasNext log.ending log staged × IsShut (front_of log batches) (bytes_staged log.ending log.frame) file
    × IsOpening (front_of log batches) (bytes_staged log.ending log.frame) file
AtPhase Opened log batches staged file =
    HasNext log.ending log staged × IsOpening (front_of log batches) (bytes_staged log.ending log.frame) file
    × ((rest : List ℕ) × (file.seen ≡ front_of log batches ++ open_gate ∷ (bytes_staged log.ending log.frame ++ rest)))

-- A log that has not failed, with these batches committed and these staged (none, or one): its file stands so.
pub record Stands (log : LogState) (batches staged : List Batch) (file : File) : Type 0 where
  pub knows : HasCommitted log batches
  pub stands : AtPhase log.phase log batches staged file

-- the header is on the disk
abbrev pub IsReady : Phase → Type 0
IsReady Header = ⊥
IsReady HeaderWritten = ⊥
IsReady Idle = Unit {0}
IsReady Staged = Unit {0}
IsReady Written = Unit {0}
IsReady Synced = Unit {0}
IsReady Opened = Unit {0}

-- what was staged is committed in this content
abbrev pub IsDone : Option ℕ → LogState → List Batch → List Batch → List ℕ → Type 0
IsDone None log batches staged content =
    IsClosed (layout_of log.version) log.generation log.low (batches ++ staged) content
IsDone (Some next) log batches staged content =
    IsEnded (layout_of log.version) log.generation log.low batches next content

-- The content has the committed batches, or what is staged too.
abbrev pub IsBeforeOrAfter : LogState → List Batch → List Batch → List ℕ → Type 0
IsBeforeOrAfter log batches staged content =
    IsClosed (layout_of log.version) log.generation log.low batches content
    ⊎ IsDone log.ending log batches staged content

-- the same, but a log that has ended reads as ended
abbrev pub MayRead : Phase → Option ℕ → LogState → List Batch → List Batch → List ℕ → Type 0
MayRead Idle (Some next) log batches staged content =
    IsEnded (layout_of log.version) log.generation log.low batches next content
MayRead phase ending log batches staged content = IsBeforeOrAfter log batches staged content

-- The other files are as they were at the start. Once the header is on the disk, a stop leaves a log with the committed
-- batches, or with what is staged too.
pub record IsKept (log : LogState) (batches staged : List Batch) (start files : Files) : Type 0 where
  pub others : (n : ℕ) → n ≢ log_file log.generation → files n ≡ start n
  pub reads : IsReady log.phase → (content : List ℕ) → MayLeave (files (log_file log.generation)) content
      → MayRead log.phase log.ending log batches staged content
