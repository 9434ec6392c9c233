-- What is done with the messages of a connection.
use Rattle.std.specs.Prelude.{◌≡◌, ◌<◌, true, List, [], ◌∷◌, ◌++◌, length, Option, Some, None, Result, Ok, Err}
use Rattle.map_types.specs.declared.refusals.Refusal.{Refusal}
use Rattle.map_types.specs.declared.refusals.Refusal.TheVariants.{BadFrame}
use Rattle.wire_frames.specs.declared.requests.Request.{Request}
use Rattle.wire_frames.specs.Messages.{Message, AsksWholeMap}
use Rattle.connections.specs.declared.row.Place.{Place}
use Rattle.connections.specs.declared.row.Place.TheVariants.{Held, Refused}
use Rattle.connections.specs.Dialogue.{Answer, Call, ends}

-- one thing that is done with a message
pub data Move (H : Type 0) : Type 0 where
  -- it takes its place: its call is begun, or it is refused
  Starts : Message → Place H → Move H
  -- what is in this place is answered: what is held is finished
  Answers : Place H → Answer → Move H
  -- it gets no reply: what is held is given up
  GivesUp : Place H → Move H

module _ {H : Type 0} where
  -- ---- the row

  -- the first of the moves takes no place
  abbrev pub StartsNone : List (Move H) → Type 0
  StartsNone [] = Unit {0}
  StartsNone (Starts message place ∷ moves) = ⊥
  StartsNone (Answers place answer ∷ moves) = Unit {0}
  StartsNone (GivesUp place ∷ moves) = Unit {0}

  -- a request of the whole map takes its place in an empty row, and no other is taken before that one is left
  abbrev pub IsAlone : List (Place H) → Message → List (Move H) → Type 0
  IsAlone before message moves = AsksWholeMap message → (before ≡ []) × StartsNone moves

  -- The places before and after the moves, the first begun first. A message takes its place at the end, and only if
  -- fewer than 64 are taken. A request of the whole map is alone in the row. Only the first place is answered or given
  -- up, and then it is left.
  abbrev pub IsRow : List (Place H) → List (Move H) → List (Place H) → Type 0
  IsRow before [] after = after ≡ before
  IsRow before (Starts message place ∷ moves) after =
      (length before < 64) × IsAlone before message moves × IsRow (before ++ place ∷ []) moves after
  IsRow before (Answers place answer ∷ moves) after =
      (others : List (Place H)) × (before ≡ place ∷ others) × IsRow others moves after
  IsRow before (GivesUp place ∷ moves) after =
      (others : List (Place H)) × (before ≡ place ∷ others) × IsRow others moves after

  -- ---- the ends

  -- each of these moves gives up
  abbrev pub AllGiveUp : List (Move H) → Type 0
  AllGiveUp [] = Unit {0}
  AllGiveUp (Starts message place ∷ moves) = ⊥
  AllGiveUp (Answers place answer ∷ moves) = ⊥
  AllGiveUp (GivesUp place ∷ moves) = AllGiveUp moves

  -- the messages that take their places, in order
  abbrev pub messages_of : List (Move H) → List Message
  messages_of [] = []
  messages_of (Starts message place ∷ moves) = message ∷ messages_of moves
  messages_of (Answers place answer ∷ moves) = messages_of moves
  messages_of (GivesUp place ∷ moves) = messages_of moves

  -- behind a message refused with `BadFrame` no other takes its place; behind an answer that ends the connection, and
  -- behind one that gives up, each move gives up
  abbrev pub Stops : List (Move H) → Type 0
  Stops [] = Unit {0}
  Stops (Starts message place ∷ moves) = (message ≡ Err BadFrame → messages_of moves ≡ []) × Stops moves
  Stops (Answers place answer ∷ moves) = (ends answer ≡ true → AllGiveUp moves) × Stops moves
  Stops (GivesUp place ∷ moves) = AllGiveUp moves

  -- ---- the calls

  -- the answer of what is given up: a refusal is its own answer, and what was held has none
  abbrev pub left_answer : Place H → Option Answer
  left_answer (Held held) = None
  left_answer (Refused refusal) = Some (Err refusal)

  -- what came of the places, in order
  abbrev pub outcomes : List (Move H) → List (Option Answer)
  outcomes [] = []
  outcomes (Starts message place ∷ moves) = outcomes moves
  outcomes (Answers place answer ∷ moves) = Some answer ∷ outcomes moves
  outcomes (GivesUp place ∷ moves) = left_answer place ∷ outcomes moves

-- the calls of the messages in order, each with what came of its message
abbrev pub calls_of : List Message → List (Option Answer) → List Call
calls_of [] came = []
calls_of (message ∷ messages) [] = []
calls_of (Err refusal ∷ messages) (outcome ∷ came) = calls_of messages came
calls_of (Ok request ∷ messages) (outcome ∷ came) =
    record { request = request; answer = outcome } ∷ calls_of messages came

module _ {S H : Type 0} (began : S → Request → Result H Refusal → S → Type 0) (finished : S → H → Answer → S → Type 0)
    (gave_up : S → H → S → Type 0) where
  -- the move leads from one state to the other, as `Calls` says of it; a refusal makes no call
  abbrev pub Makes : S → Move H → S → Type 0
  Makes before (Starts (Ok request) (Held held)) after = began before request (Ok held) after
  Makes before (Starts (Ok request) (Refused refusal)) after = began before request (Err refusal) after
  Makes before (Starts (Err refusal) (Held held)) after = ⊥
  Makes before (Starts (Err refusal) (Refused other)) after = (other ≡ refusal) × (after ≡ before)
  Makes before (Answers (Held held) answer) after = finished before held answer after
  Makes before (Answers (Refused refusal) answer) after = (answer ≡ Err refusal) × (after ≡ before)
  Makes before (GivesUp (Held held)) after = gave_up before held after
  Makes before (GivesUp (Refused refusal)) after = after ≡ before

  -- the moves lead from one state to the other, one behind the other
  abbrev pub Leads : S → List (Move H) → S → Type 0
  Leads before [] after = after ≡ before
  Leads before (move ∷ moves) after = (between : S) × Makes before move between × Leads between moves after

  -- The messages took their places in order, and the calls made are theirs, each begun once. What was held of each was
  -- finished or given up once, in the order in which they were begun. At most 64 were held at any moment, and none is
  -- held at the end. While a request of the whole map was held, no other call was.
  pub record Runs (before : S) (messages : List Message) (made : List Call) (after : S) : Type 0 where
    pub moves : List (Move H)
    pub leads : Leads before moves after
    pub in_row : IsRow [] moves []
    pub stops : Stops moves
    pub taken : messages ≡ messages_of moves
    pub calls : made ≡ calls_of messages (outcomes moves)
