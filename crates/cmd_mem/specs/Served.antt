-- What a call that is begun and then finished leaves of the record of the keeper's pass, which also makes the calls,
-- and of the log.
use Rattle.std.specs.Prelude.{◌≡◌, ◌⊎◌, ℕ, ◌+◌, ◌<◌, ◌≤◌, Bool, true, false, None, Result, Ok, Err, List, length}
use Rattle.std.specs.List.{Contains}
use Rattle.java_hash.specs.Stripes.{stripe_of}
use Rattle.map_types.specs.declared.refusals.Refusal.{Refusal}
use Rattle.map_types.specs.declared.refusals.Refusal.TheVariants as refusal_type
use Rattle.map_types.specs.declared.commands.Command.{Command}
use Rattle.map_types.specs.declared.commands.Reply.{Reply}
use Rattle.ticket_order.specs.declared.held.Held.{Held}
use Rattle.ticket_order.specs.declared.record.Asked.{Asked}
use Rattle.ticket_order.specs.declared.record.Record.{Record}
use Rattle.ticket_order.specs.declared.stripe.Entry.{Entry}
use Rattle.ticket_order.specs.Records.{call, entry, failing, publishing}
use Rattle.ticket_order.specs.Legality.{entries_from}
use Rattle.ticket_order.specs.Calls.{MakesCall, MakesRead, RefusesRead, Reaches, TurnsDown}
use Rattle.gate_log.specs.States.{LogState, IsResting}
use Rattle.flusher.specs.declared.keeper.Keeper.{Keeper}
use Rattle.flusher.specs.Fitting.{HasSeenMore, IsQuiet, IsTakenFront, WereTaken}
use Rattle.log_records.specs.Layout.{layout_of}
use Rattle.store_layout.specs.Hands.{FitsBatch}
use Rattle.store_layout.specs.Logs.{most_commands}
use Rattle.flusher.specs.KeeperSteps.{is_too_long}
use Rattle.wire_frames.specs.declared.requests.Request.{Request}
use Rattle.wire_frames.specs.declared.requests.Request.TheVariants.{Change, Read, Bulk}
use Rattle.connections.specs.Dialogue.{Answer}

-- between two commits of a keeper that has not failed
pub record IsIdle {D : Type 0} (keeper : Keeper D) : Type 0 where
  pub working : keeper.is_broken ≡ false
  pub unfailed : keeper.has_failed ≡ false
  pub resting : IsResting keeper.log
  pub alone : keeper.next ≡ None

-- No call was added. A request of the whole map is no method here: it is always refused so, and the pass makes no step.
abbrev pub Refuses : ℕ → Record → Request → Refusal → Record → Type 0
Refuses n v (Change command) refusal w = TurnsDown n v command refusal w
Refuses n v (Read read) refusal w = RefusesRead v (stripe_of n read.key) refusal w
Refuses n v (Bulk bulk) refusal w = (refusal ≡ refusal_type.UnknownMethod) × (w ≡ v)

-- the call was made, with this reply: the record grew by it alone, behind all that the pass had seen, and it is legal
-- there; none of the whole map is
abbrev pub Makes : ℕ → Record → Request → ℕ → Reply → Record → Type 0
Makes n v (Change command) position reply w = MakesCall n v command position reply w
Makes n v (Read read) position reply w = MakesRead n v read position reply w
Makes n v (Bulk bulk) position reply w = ⊥

-- a call was begun so: it was made, and its reply is held at its position; or it was refused, and no call was added
abbrev pub Begins : ℕ → Record → Request → Result Held Refusal → Record → Type 0
Begins n v request (Ok held) w = Makes n v request held.position held.reply w
Begins n v request (Err refusal) w = Refuses n v request refusal w

-- the pass made the call whose reply is held
abbrev pub IsCallOf : Record → Held → Type 0
IsCallOf v held = (asked : Asked) × Contains v.calls (call held.position asked held.reply)

-- each call that the pass had made is one that it has made
abbrev pub StillMade : Record → Record → Type 0
StillMade v w = (held : Held) → IsCallOf v held → IsCallOf w held

-- sweeps alone were made, by which the pass may have seen more
pub record IsSwept (p w : Record) : Type 0 where
  pub quiet : IsQuiet p w
  pub seen : HasSeenMore p w

-- the sweeps of the pass took each entry of the history that is below the count
abbrev pub AreTaken : ℕ → Record → Record → Type 0
AreTaken count made w =
    (e : Entry) → Contains (entries_from made.opening.first made.seen) e → e.ticket < count → Contains w.taken e

-- Sweeps were made, and then what is committed was published. It reaches this position, and is the front of the
-- history; the sweeps took each entry of it.
pub record IsCommitted (position : ℕ) (made w : Record) (log : LogState) : Type 0 where
  pub after : Record
  pub swept : IsSwept made after
  pub reached : position ≤ log.committed
  pub done : List Command
  pub front : IsTakenFront done log.committed after
  pub is : w ≡ publishing after log.committed

-- The position of a call that was made is committed, with all entries below it, and a SEE found it durable.
pub record IsGivenOut (position : ℕ) (made w : Record) (log : LogState) : Type 0 where
  pub between : Record
  pub commits : IsCommitted position made between log
  pub taken : AreTaken position made between
  pub reaches : Reaches position between w

-- a sweep took the entry of a change with this position; a read has none
abbrev pub IsTaken : Request → ℕ → Record → Type 0
IsTaken (Change command) position w = (ticket : ℕ) → position ≡ ticket + 1 → Contains w.taken (entry ticket command)
IsTaken (Read read) position w = Unit {0}
IsTaken (Bulk bulk) position w = Unit {0}

-- the next commands that the pass took are a batch, and it would carry the log past its greatest length
pub record HasNoRoom (log : LogState) (p : Record) : Type 0 where
  pub commands : List Command
  pub some : 1 ≤ length commands
  pub taken : WereTaken log.committed commands p
  pub fits : FitsBatch (layout_of log.version) most_commands log.committed commands
  pub too_long : is_too_long log commands

-- the log takes no further batch: a device call has failed, or the log is full
abbrev pub CannotCommit : LogState → Record → Type 0
CannotCommit log p = (log.is_broken ≡ true) ⊎ HasNoRoom log p

-- Why a call that was begun has no reply: after sweeps its position can't be committed, and the pass made a FAIL.
pub record IsWithheld (made w : Record) (log : LogState) : Type 0 where
  pub after : Record
  pub swept : IsSwept made after
  pub cannot : CannotCommit log after
  pub fails : w ≡ failing after

-- a call that was begun was finished so: the reply that was held was given out at its position; or it is withheld, and
-- its outcome is open
abbrev pub Ends : Record → Held → Answer → Record → LogState → Type 0
Ends v held (Ok reply) w log = (reply ≡ held.reply) × IsGivenOut held.position v w log
Ends v held (Err refusal) w log = (refusal ≡ refusal_type.Failed) × IsWithheld v w log

-- with this result the map has failed
abbrev pub fails : {X : Type 0} → Result X Refusal → Bool
fails (Err refusal_type.Failed) = true
fails result = false

-- ---- from its beginning to its end

-- the pass goes on from where it was: it saw what it had seen, and perhaps more
pub record GoesOn (v w : Record) : Type 0 where
  pub opening : w.opening ≡ v.opening
  pub seen : HasSeenMore v w

-- The call was made, and others were begun or finished behind it. Its reply was given out at its position, where its
-- own entry is committed.
pub record Serves (n : ℕ) (v : Record) (request : Request) (reply : Reply) (w : Record) (log : LogState) : Type 0 where
  pub position : ℕ
  pub made : Record
  pub makes : Makes n v request position reply made
  pub before : Record
  pub goes_on : GoesOn made before
  pub given_out : IsGivenOut position before w log
  pub own : IsTaken request position w

-- a call that was begun, and then finished with a reply, was served
abbrev pub BegunIsServed : Type 0
BegunIsServed =
    (n : ℕ) (v : Record) (request : Request) (held : Held) (made before : Record) (reply : Reply) (w : Record)
    (log : LogState)
    → Begins n v request (Ok held) made → GoesOn made before → Ends before held (Ok reply) w log
    → Serves n v request reply w log

-- the pass goes on whatever is begun, finished or given up, one behind the other
pub record PassGoesOn : Type 0 where
  pub begun : (n : ℕ) (v : Record) (request : Request) (result : Result Held Refusal) (w : Record)
      → Begins n v request result w → GoesOn v w
  pub ended : (v : Record) (held : Held) (answer : Answer) (w : Record) (log : LogState) → Ends v held answer w log
      → GoesOn v w
  pub same : (v : Record) → GoesOn v v
  pub then : (v between w : Record) → GoesOn v between → GoesOn between w → GoesOn v w
