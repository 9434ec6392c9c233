-- What a call that returns once its position is durable leaves of the record of its pass.
use Rattle.std.specs.Prelude.{◌≡◌, ◌⊎◌, ℕ, ◌<◌, ◌≤◌, max, List, [], ◌∷◌, ◌++◌, false, Result, Ok, Err}
use Rattle.std.specs.List.{All}
use Rattle.map_types.specs.declared.commands.Reply.{Reply}
use Rattle.map_types.specs.declared.refusals.Refusal.{Refusal}
use Rattle.map_types.specs.declared.refusals.Refusal.TheVariants.{Failed}
use Rattle.java_hash.specs.Stripes.{stripe_of}
use Rattle.ticket_order.specs.declared.record.Asked.{Asked}
use Rattle.ticket_order.specs.declared.record.Call.{Call}
use Rattle.ticket_order.specs.declared.record.Asked.TheVariants.{Changing, Reading}
use Rattle.ticket_order.specs.declared.record.Record.{Record}
use Rattle.ticket_order.specs.declared.record.StepMade.{StepMade}
use Rattle.ticket_order.specs.declared.record.StepMade.TheVariants.{FoundAlive, Saw}
use Rattle.ticket_order.specs.Records.{call, reach}
use Rattle.ticket_order.specs.Calls.{MakesCall, MakesRead, RefusesRead, TurnsDown}
use Rattle.ticket_order.specs.Legality.{IsLegal, history_of}
use Rattle.ticket_order.specs.Walks.{Kind, kind_of}
use Rattle.one_history.specs.OneHistory.{Follows}
use Rattle.stripe_locks.specs.Holding.{position_of, reply_of}
use Rattle.stripe_locks.specs.declared.held.Held.{Held}
use Rattle.stripe_locks.specs.Waits.{MakesCallInTime, MakesReadInTime, RefusesReadInTime, TurnsDownInTime}
use Rattle.flusher.specs.Fitting.{GoesOnByCalls, IsBeside}
use Rattle.durable_map.specs.declared.map.DurableMap.{DurableMap}
use Rattle.durable_map.specs.Maps.{IsHeldOf, stripe_count}

-- the record grew by these steps
abbrev pub GrewBy : Record → List StepMade → Record → Type 0
GrewBy v made w = w.steps ≡ v.steps ++ made

-- one step was made, of this kind
pub record MakesStep (kind : Kind) (v w : Record) : Type 0 where
  pub made : StepMade
  pub steps : GrewBy v (made ∷ []) w
  pub kind_is : kind_of made ≡ kind

-- a SEE or an ALIVE
abbrev pub IsSeeOrAlive : StepMade → Type 0
IsSeeOrAlive (Saw durable) = Unit {0}
IsSeeOrAlive (FoundAlive is_alive) = Unit {0}
IsSeeOrAlive step = ⊥

-- the greatest position that a pass has seen after such a step, which had seen `reached` before it
abbrev pub seen_at : ℕ → StepMade → ℕ
seen_at reached (Saw durable) = max reached durable
seen_at reached step = reached

abbrev pub seen_by : ℕ → List StepMade → ℕ
seen_by reached [] = reached
seen_by reached (step ∷ rest) = seen_by (seen_at reached step) rest

-- The pass made these steps, which are SEE and ALIVE alone. It has then seen what it had, and what they found.
pub record Awaits (v : Record) (made : List StepMade) (w : Record) : Type 0 where
  pub steps : GrewBy v made w
  pub only : All IsSeeOrAlive made
  pub seen : reach w ≡ seen_by (reach v) made

-- The pass made SEE and ALIVE alone, and has seen what they found. It added no call, and holds what it held.
pub record MakesNoCall (v w : Record) : Type 0 where
  pub goes_on : GoesOnByCalls v w
  pub calls : w.calls ≡ v.calls
  pub holding : w.holding ≡ v.holding
  pub made : List StepMade
  pub awaits : Awaits v made w

-- the last step that was made is a SEE that reached the position
pub record EndsDurable (v : Record) (position : ℕ) (w : Record) : Type 0 where
  pub before : List StepMade
  pub durable : ℕ
  pub steps : GrewBy v (before ++ Saw durable ∷ []) w
  pub reached : position ≤ durable

-- the last steps are a SEE below the position, an ALIVE that said no, and one more SEE below the position
pub record EndsFailed (v : Record) (position : ℕ) (w : Record) : Type 0 where
  pub before : List StepMade
  pub first : ℕ
  pub second : ℕ
  pub steps : GrewBy v (before ++ Saw first ∷ FoundAlive false ∷ Saw second ∷ []) w
  pub missed : first < position
  pub missed_again : second < position

-- this call alone was added
abbrev pub GrewByCall : Record → ℕ → Asked → Reply → Record → Type 0
GrewByCall v position asked reply w = w.calls ≡ v.calls ++ call position asked reply ∷ []

-- The steps of a call of n stripes, and no others: it waited for its stripe, TAKE, ALIVE that said yes, LOOK and TICKET
-- if it is a change, GIVE.
abbrev pub MakesInTime : ℕ → Record → Asked → ℕ → Reply → Record → Type 0
MakesInTime n v (Changing command) position reply w = MakesCallInTime n v command position reply w
MakesInTime n v (Reading read) position reply w = MakesReadInTime n v read position reply w

-- The first of the steps are those that made the call over n stripes.
pub record IsMadeFirst (n : ℕ) (v : Record) (asked : Asked) (position : ℕ) (reply : Reply) (w : Record) : Type 0 where
  pub at : Record
  pub made : MakesInTime n v asked position reply at
  pub after : List StepMade
  pub steps : GrewBy at after w

-- The record grew by this call alone, which was made by its steps. Those behind them are SEE and ALIVE alone. A
-- change's position is past all that the pass had seen, and a read's is no less. The reply is legal there, and the
-- position was durable when the call returned.
pub record AnswersCall (n : ℕ) (v : Record) (asked : Asked) (reply : Reply) (w : Record) : Type 0 where
  pub position : ℕ
  pub grew : GrewByCall v position asked reply w
  pub made : IsMadeFirst n v asked position reply w
  pub awaited : Awaits made.at made.after w
  pub later : Follows (reach v) asked position
  pub legal : IsLegal (history_of w) position asked reply
  pub durable : EndsDurable v position w

-- The record grew by this call alone, which was made by its steps. Those behind them are SEE and ALIVE alone. The store
-- has failed before its position became durable.
pub record LosesCall (n : ℕ) (v : Record) (asked : Asked) (w : Record) : Type 0 where
  pub position : ℕ
  pub reply : Reply
  pub grew : GrewByCall v position asked reply w
  pub made : IsMadeFirst n v asked position reply w
  pub awaited : Awaits made.at made.after w
  pub failed : EndsFailed v position w

-- The steps of a call of n stripes that was refused before it was made, and no others: it waited for its stripe, which
-- was never the cause. A change with a key above the limit makes none.
abbrev pub RefusesInTime : ℕ → Record → Asked → Refusal → Record → Type 0
RefusesInTime n v (Changing command) refusal w = TurnsDownInTime n v command refusal w
RefusesInTime n v (Reading read) refusal w = RefusesReadInTime v (stripe_of n read.key) refusal w

-- The call was refused before it was made, and no call was added.
pub record IsRefused (n : ℕ) (v : Record) (asked : Asked) (refusal : Refusal) (w : Record) : Type 0 where
  pub refused : RefusesInTime n v asked refusal w
  pub calls : w.calls ≡ v.calls

-- What a refused call leaves: it was refused before it was made. Or, after `Failed` alone, it was made, and ended as a
-- release does.
abbrev pub RefusesCall : ℕ → Record → Asked → Refusal → Record → Type 0
RefusesCall n v asked refusal w = IsRefused n v asked refusal w ⊎ ((refusal ≡ Failed) × LosesCall n v asked w)

-- ---- calls that are begun, and finished later

-- A call was made by its steps, and its reply is held. The record grew by this call alone. A change's position is past
-- all that the pass had seen, and a read's is no less. The reply is legal there.
pub record HoldsCall (n : ℕ) (v : Record) (asked : Asked) (held : Held) (w : Record) : Type 0 where
  pub grew : GrewByCall v (position_of held) asked (reply_of held) w
  pub made : MakesInTime n v asked (position_of held) (reply_of held) w
  pub later : Follows (reach v) asked (position_of held)
  pub legal : IsLegal (history_of w) (position_of held) asked (reply_of held)

-- what a call adds to the record when it is begun; none is added if it is refused
abbrev pub AddsBegun : ℕ → Record → Asked → Result Held Refusal → Record → Type 0
AddsBegun n v asked (Ok held) w = HoldsCall n v asked held w
AddsBegun n v asked (Err refusal) w = IsRefused n v asked refusal w

-- What the beginning of a call over n stripes leaves. Whatever it returns, the pass goes on from what it was.
pub record Begins (n : ℕ) (v : Record) (asked : Asked) (result : Result Held Refusal) (w : Record) : Type 0 where
  pub goes_on : GoesOnByCalls v w
  pub adds : AddsBegun n v asked result w

-- How a call ends that was made with this reply. It is given out once its position was found durable; or `Failed` is
-- returned, once the store has failed before that.
abbrev pub EndsWith : Record → ℕ → Reply → Result Reply Refusal → Record → Type 0
EndsWith v position reply (Ok given) w = (given ≡ reply) × EndsDurable v position w
EndsWith v position reply (Err refusal) w = (refusal ≡ Failed) × EndsFailed v position w

-- what the end of a call that was begun leaves
pub record Finishes (v : Record) (held : Held) (answer : Result Reply Refusal) (w : Record) : Type 0 where
  pub beside : MakesNoCall v w
  pub ends : EndsWith v (position_of held) (reply_of held) answer w

-- the pass went on from what it was, and may have added calls
pub record GoesOnWith (v : Record) (others : List Call) (w : Record) : Type 0 where
  pub beside : IsBeside v w
  pub calls : w.calls ≡ v.calls ++ others

-- A call was begun, and finished with other calls of its pass between. It was made by its steps, its reply is legal at
-- its position in all that the pass has seen, and it ended with this answer.
pub record CompletesAmong (n : ℕ) (v : Record) (asked : Asked) (answer : Result Reply Refusal)
    (w : Record) : Type 0 where
  pub position : ℕ
  pub reply : Reply
  pub others : List Call
  pub grew : w.calls ≡ v.calls ++ call position asked reply ∷ others
  pub made : IsMadeFirst n v asked position reply w
  pub later : Follows (reach v) asked position
  pub legal : IsLegal (history_of w) position asked reply
  pub ends : EndsWith v position reply answer w

-- ---- whole calls

-- what a call adds to the record, by its answer
abbrev pub Adds : ℕ → Record → Asked → Result Reply Refusal → Record → Type 0
Adds n v asked (Ok reply) w = AnswersCall n v asked reply w
Adds n v asked (Err refusal) w = RefusesCall n v asked refusal w

-- What a call over n stripes leaves. Whatever it returns, the pass goes on from what it was, so that calls of one pass
-- are calls of one history.
pub record Completes (n : ℕ) (v : Record) (asked : Asked) (result : Result Reply Refusal) (w : Record) : Type 0 where
  pub goes_on : GoesOnByCalls v w
  pub adds : Adds n v asked result w

-- Two calls of a pass, one after the other. Both are legal in the history that it has seen at last, and the second
-- stands behind the first.
pub record FollowEachOther (v : Record) (first : Asked) (one : Reply) (second : Asked) (other : Reply)
    (w : Record) : Type 0 where
  pub position : ℕ
  pub next : ℕ
  pub grew : w.calls ≡ (v.calls ++ call position first one ∷ []) ++ call next second other ∷ []
  pub first_legal : IsLegal (history_of w) position first one
  pub second_legal : IsLegal (history_of w) next second other
  pub order : Follows position second next

-- what a try of a call leaves, by its answer
abbrev pub Tries : {D : Type 0} → DurableMap D → Record → Asked → Result Held Refusal → Record → Type 0
Tries map v (Changing command) (Ok held) w =
    IsHeldOf map held × MakesCall (stripe_count map) v command (position_of held) (reply_of held) w
Tries map v (Changing command) (Err refusal) w = TurnsDown (stripe_count map) v command refusal w
Tries map v (Reading read) (Ok held) w =
    IsHeldOf map held × MakesRead (stripe_count map) v read (position_of held) (reply_of held) w
Tries map v (Reading read) (Err refusal) w = RefusesRead v (stripe_of (stripe_count map) read.key) refusal w
