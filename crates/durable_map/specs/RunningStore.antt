-- What the contracts of a running map come to: what a stop leaves has each reply that was released.
use Rattle.std.specs.Prelude.{◌≡◌, ℕ, ◌+◌, ◌-◌, ◌<◌, ◌≤◌, List, length, take, true, slice_index}
use Rattle.std.specs.List.{Contains}
use Rattle.disk_model.specs.Files.{Files, Leaves, now}
use Rattle.map_types.specs.declared.commands.Command.{Command}
use Rattle.map_types.specs.declared.commands.Reply.{Reply}
use Rattle.map_model.specs.Histories.{fold_to}
use Rattle.store_layout.specs.Opening.{Contents, StandsFor}
use Rattle.ticket_order.specs.declared.record.Asked.{Asked}
use Rattle.ticket_order.specs.declared.record.Call.{Call}
use Rattle.ticket_order.specs.declared.record.Opening.{Opening}
use Rattle.ticket_order.specs.declared.record.Record.{Record}
use Rattle.ticket_order.specs.declared.record.StepMade.TheVariants.{Saw}
use Rattle.ticket_order.specs.Records.{call}
use Rattle.ticket_order.specs.Legality.{IsLegal, history_from, history_of}
use Rattle.one_history.specs.declared.book.Book.{Book}
use Rattle.one_history.specs.Turns.{record_of}
use Rattle.one_history.specs.OneHistory.{IsOneHistory}
use Rattle.flusher.specs.declared.keeper.Keeper.{Keeper}
use Rattle.flusher.specs.Fitting.{StopsFit}
use Rattle.stripe_locks.specs.Rule.{IsSeated, Kept}
use Rattle.durable_map.specs.Durable.{AnswersCall, GoesOnWith}
use Rattle.durable_map.specs.LockedKeepers.{Keeps}

-- A reply was released at position q: a pass made the call, and a SEE of it or of another pass found q durable.
pub record IsReleased (b : Book) (q : ℕ) (asked : Asked) (reply : Reply) : Type 0 where
  pub maker : ℕ
  pub within : maker < length b.passes
  pub made : Contains (record_of maker b).calls (call q asked reply)
  pub releaser : ℕ
  pub durable : ℕ
  pub saw : Contains (record_of releaser b).steps (Saw durable)
  pub reached : q ≤ durable

-- The files stand for the first `count` commands of the one history. The position q is among them, and the reply is one
-- thread's at q in these commands.
pub record HoldsReply (o : Opening) (commands : List Command) (q : ℕ) (asked : Asked) (reply : Reply)
    (contents : Contents) : Type 0 where
  pub count : ℕ
  pub stands : StandsFor contents count (fold_to (history_from o commands) count)
  pub from_first : o.first ≤ count
  pub to_last : count ≤ o.first + length commands
  pub reached : q ≤ count
  pub legal : IsLegal (history_from o (take (count - o.first) commands)) q asked reply

-- a stop that finds these files leaves each reply that was released
abbrev pub StopsHold : Book → Files → Type 0
StopsHold b files = (q : ℕ) (asked : Asked) (reply : Reply) → IsReleased b q asked reply → (contents : Contents)
    → Leaves files contents
    → HoldsReply b.opening b.history q asked reply contents

-- There is one history of all passes, and the pass under the lock is its keeper's. Then it is so of the files of an
-- honest disk whenever the lock is got. And it is so at each moment within a call of the keeper that was under the
-- lock, which by its contract leaves files whose stops fit.
abbrev pub ReleasedOutliveStops : {D : Type 0} → (D → List Files) → (D → Type 0) → Type 0
ReleasedOutliveStops {D} states honest = (n : ℕ) (keeper : Keeper D) (b : Book) → IsOneHistory b
    → Keeps states honest n keeper (record_of b.effects.keeper b)
    → (honest keeper.disk → StopsHold b (now (states keeper.disk)))
    × ((files : Files) → StopsFit (history_of (record_of b.effects.keeper b)) keeper files → StopsHold b files)

-- a call that was answered released its reply, whatever calls its pass made since
abbrev pub AnsweredAreReleased : Type 0
AnsweredAreReleased = (b : Book) (j n : ℕ) (v w : Record) (asked : Asked) (reply : Reply) (others : List Call)
    → j < length b.passes → (answers : AnswersCall n v asked reply w) → GoesOnWith w others (record_of j b)
    → IsReleased b answers.position asked reply

-- Of two seats of passes on the same words one alone may be the keeper's. So while the pass under the lock is it, no
-- other pass that the words give out is.
abbrev pub OneIsTheKeepers : Type 0
OneIsTheKeepers = (o : Opening) (s : _) → (k : Kept o s) → (id other : ℕ) (v w : _)
    → (one : IsSeated k.seats k.book (slice_index s.words 24) id v)
    → (two : IsSeated k.seats k.book (slice_index s.words 24) other w)
    → (record_of one.place k.book).keeper ≡ true → (record_of two.place k.book).keeper ≡ true → id ≡ other
