-- What a worker's calls leave of the record of its pass, and what serving a directory prints.
use Rattle.std.specs.Prelude.{◌≡◌, ◌≢◌, ◌⊎◌, ℕ, List, [], ◌∷◌, Option, Result, Ok, Err, true}
use Rattle.std.specs.IoError.{error_kind}
use Rattle.std.specs.declared.io.Error.{Error}
use Rattle.std.specs.declared.io.ErrorKind.TheVariants.{WouldBlock}
use Rattle.map_types.specs.declared.refusals.Refusal.{Refusal}
use Rattle.disk_model.specs.Files.{Files}
use Rattle.ticket_order.specs.declared.record.Record.{Record}
use Rattle.ticket_order.specs.declared.record.Asked.{Asked}
use Rattle.ticket_order.specs.declared.record.Asked.TheVariants.{Changing, Reading}
use Rattle.stripe_locks.specs.Holding.{IsHeldAt}
use Rattle.stripe_locks.specs.declared.held.Held.{Held}
use Rattle.durable_map.specs.Durable.{Begins, CompletesAmong, Finishes}
use Rattle.wire_frames.specs.declared.requests.Bulk.{Bulk}
use Rattle.wire_frames.specs.declared.requests.Request.{Request}
use Rattle.wire_frames.specs.declared.requests.Request.TheVariants as request
use Rattle.connections.specs.Dialogue.{Answer}
use Rattle.call_text.specs.Printing.{PrintsAtMost, PrintsNothing}
use Rattle.cmd_serve.specs.Opening.{IsNotOpenedNewest, IsOnlyOpened, IsOpenedNewest}
use Rattle.cmd_serve.specs.Listening.{HaveListener, listening_lines}
use Rattle.cmd_serve.specs.Settings.{AreNamed}
use Rattle.cmd_serve.specs.WholeMap.{CompletesBulk}
use Rattle.cmd_serve.specs.declared.begun.Begun.{Begun}
use Rattle.cmd_serve.specs.declared.begun.Begun.TheVariants as begun
use Rattle.cmd_serve.specs.declared.listening.Places.{Places}
use Rattle.cmd_serve.specs.declared.settings.ServerWords.{ServerWords}
use Rattle.cmd_serve.specs.declared.settings.Settings.{Settings}

-- ---- a worker

-- a worker: the stripes of its map, the name of the map's shared words, and the record of its pass
pub record WorkerState : Type 0 where
  pub stripes : ℕ
  pub words : List ℕ
  pub pass : Record

-- it is a worker of the same map
pub record IsSameWorker (before after : WorkerState) : Type 0 where
  pub stripes : after.stripes ≡ before.stripes
  pub words : after.words ≡ before.words

-- what is held is a reply of the worker's map, or a request of the whole map
abbrev pub Owns : WorkerState → Begun → Type 0
Owns worker (begun.Call number held) = IsHeldAt worker.words held
Owns worker (begun.View number bulk) = Unit {0}

-- ---- a request that is begun

-- a change or a read over n stripes was begun so on the record of a pass: its call was made, and its reply is held
abbrev pub BeginsCall : ℕ → Record → Asked → Result Begun Refusal → Record → Type 0
BeginsCall n v asked (Ok (begun.Call number held)) w = Begins n v asked (Ok held) w
BeginsCall n v asked (Ok (begun.View number bulk)) w = ⊥
BeginsCall n v asked (Err refusal) w = Begins n v asked (Err refusal) w

-- a request of the whole map is held as it is, and nothing else is done
abbrev pub HoldsBulk : Record → Bulk → Result Begun Refusal → Record → Type 0
HoldsBulk v bulk (Ok (begun.Call number held)) w = ⊥
HoldsBulk v bulk (Ok (begun.View number kept)) w = (kept ≡ bulk) × (w ≡ v)
HoldsBulk v bulk (Err refusal) w = ⊥

abbrev pub BeginsRequest : ℕ → Record → Request → Result Begun Refusal → Record → Type 0
BeginsRequest n v (request.Change command) result w = BeginsCall n v (Changing command) result w
BeginsRequest n v (request.Read read) result w = BeginsCall n v (Reading read) result w
BeginsRequest n v (request.Bulk bulk) result w = HoldsBulk v bulk result w

-- a request was begun so, or refused, and led from one state of the worker to another
pub record Began (before : WorkerState) (request : Request) (result : Result Begun Refusal)
    (after : WorkerState) : Type 0 where
  pub same : IsSameWorker before after
  pub begins : BeginsRequest before.stripes before.pass request result after.pass

-- ---- a request that was begun

-- What is held was answered so over n stripes: a reply is given out as the durable map says, and a view is taken for a
-- request of the whole map.
abbrev pub FinishesRequest : ℕ → Record → Begun → Answer → Record → Type 0
FinishesRequest n v (begun.Call number held) answer w = Finishes v held answer w
FinishesRequest n v (begun.View number bulk) answer w = CompletesBulk n v bulk answer w

-- a request that was begun was answered so, and led from one state of the worker to another
pub record Finished (before : WorkerState) (held : Begun) (answer : Answer) (after : WorkerState) : Type 0 where
  pub same : IsSameWorker before after
  pub finishes : FinishesRequest before.stripes before.pass held answer after.pass

-- a request that was begun was given up, and nothing else was done
abbrev pub GaveUp : WorkerState → Begun → WorkerState → Type 0
GaveUp before held after = after ≡ before

-- ---- both together

-- the request asks for this call
abbrev pub AsksFor : Request → Asked → Type 0
AsksFor (request.Change command) asked = asked ≡ Changing command
AsksFor (request.Read read) asked = asked ≡ Reading read
AsksFor (request.Bulk bulk) asked = ⊥

-- one call of the worker led from one state to the other: a request was begun or refused, or one that was begun was
-- finished or given up
abbrev pub Calls : WorkerState → WorkerState → Type 0
Calls before after =
    ((request : Request) × (result : Result Begun Refusal) × Began before request result after)
    ⊎ (((held : Begun) × (answer : Answer) × Finished before held answer after)
    ⊎ ((held : Begun) × GaveUp before held after))

-- calls of the worker, one behind the other, led through these states
abbrev pub CallsThrough : WorkerState → List WorkerState → WorkerState → Type 0
CallsThrough before [] after = after ≡ before
CallsThrough before (next ∷ states) after = Calls before next × CallsThrough next states after

-- A change or a read that a worker begins, and answers after any other calls, is completed: its call was made, and the
-- reply is legal at its position in all that the pass has seen. It was given out once the position was found durable.
abbrev pub BegunRequestsComplete : Type 0
BegunRequestsComplete =
    (request : Request) (asked : Asked) (number : Option ℕ) (held : Held) (states : List WorkerState) (answer : Answer)
    (a b c d : WorkerState)
    → AsksFor request asked → Began a request (Ok (begun.Call number held)) b → CallsThrough b states c
    → Finished c (begun.Call number held) answer d → CompletesAmong a.stripes a.pass asked answer d.pass

-- ---- what a server prints

-- A server that listened at these places ended: with status 1, and it printed its lines at most.
abbrev pub EndsAt : Places → Option (List ℕ) → Option (List ℕ) → ℕ → Type 0
EndsAt places w0 w1 status = (status ≡ 1) × PrintsAtMost (listening_lines places) w0 w1

-- IsListener says that a listener was bound at a path, and its file has these rights.
module _ {L : Type 0} (IsListener : List ℕ → ℕ → L → Type 0) where
  -- Once it listened at these places, with these rights of a socket, the disk was brought to the newest version and
  -- opened, and it printed its lines at most. Or that was refused, and nothing was printed.
  pub record Hosts {D : Type 0} (states : D → List Files) (failures : D → ℕ) (honest : D → Type 0) (settings : Settings)
      (old new : D) (w0 w1 : Option (List ℕ)) (status : ℕ) : Type 0 where
    pub listens : HaveListener IsListener settings.places settings.mode
    pub ends : (IsOpenedNewest states failures honest old new × EndsAt settings.places w0 w1 status)
        ⊎ ((refusal : Refusal) × IsNotOpenedNewest states failures honest settings.stripes.count old new refusal
        × PrintsNothing w0 w1 status)

  -- A server over the disk ended. The disk was only opened, which writes nothing, and nothing was printed. Or it was
  -- served. `new` is how opening left the disk.
  pub record ServesDisk {D : Type 0} (states : D → List Files) (failures : D → ℕ) (honest : D
      → Type 0) (settings : Settings) (old : D) (w0 w1 : Option (List ℕ)) (status : ℕ) : Type 0 where
    pub new : D
    pub ends : (IsOnlyOpened states failures honest old new × PrintsNothing w0 w1 status)
        ⊎ Hosts states failures honest settings old new w0 w1 status

-- ---- a directory that was opened

-- no settings that are allowed are named, and nothing was printed, with status 2
pub record AreMisused (words : ServerWords) (w0 w1 : Option (List ℕ)) (status : ℕ) : Type 0 where
  pub none : (settings : Settings) → AreNamed words settings → ⊥
  pub nothing : w1 ≡ w0
  pub status_is : status ≡ 2

-- IsOpened says that a disk has the files of a directory, as they were when it was opened. IsRefused says that a
-- directory couldn't be opened, for an error. IsListener says that a listener was bound at a path, and its file has
-- these rights.
module _ {D L : Type 0} (states : D → List Files) (failures : D → ℕ) (honest : D → Type 0)
    (IsOpened : List ℕ → D → Type 0) (IsRefused : List ℕ → Error → Type 0)
    (IsListener : List ℕ → ℕ → L → Type 0) where
  -- the directory was opened, and a server over its disk ended
  pub record HostsDirectory (directory : List ℕ) (settings : Settings) (w0 w1 : Option (List ℕ))
      (status : ℕ) : Type 0 where
    pub disk : D
    pub opened : IsOpened directory disk
    pub hosts : ServesDisk IsListener states failures honest settings disk w0 w1 status

  -- The directory couldn't be opened. A server that stands by isn't refused for a lock that another holds.
  pub record IsNotServed (directory : List ℕ) (settings : Settings) : Type 0 where
    pub cause : Error
    pub refused : IsRefused directory cause
    pub waits : settings.stands_by ≡ true → error_kind cause ≢ WouldBlock

  -- The directory was opened and no memory was found for more, or it couldn't be opened.
  abbrev pub IsOpenedAlone : List ℕ → Settings → Type 0
  IsOpenedAlone directory settings = ((disk : D) × IsOpened directory disk) ⊎ IsNotServed directory settings

  -- The words name these settings, which are allowed; and a server over the directory ended, or there was none, and
  -- nothing was printed.
  pub record ServesAs (words : ServerWords) (w0 w1 : Option (List ℕ)) (status : ℕ) : Type 0 where
    pub settings : Settings
    pub named : AreNamed words settings
    pub ends : HostsDirectory words.directory.now settings w0 w1 status
        ⊎ (IsOpenedAlone words.directory.now settings × PrintsNothing w0 w1 status)

  -- a directory was served by these words, if they are allowed
  abbrev pub ServesOn : ServerWords → Option (List ℕ) → Option (List ℕ) → ℕ → Type 0
  ServesOn words w0 w1 status = ServesAs words w0 w1 status ⊎ AreMisused words w0 w1 status
