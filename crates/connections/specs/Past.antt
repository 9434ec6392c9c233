-- What came of a connection so far, and what it is left with.
use Rattle.std.specs.Prelude.{◌≡◌, ◌≢◌, ◌⊎◌, ℕ, true, false, List, [], ◌∷◌, ◌++◌, Option, Some, None, Result, Ok, Err}
use Rattle.std.specs.List.{flat_map, AllByRecursion}
use Rattle.map_types.specs.declared.refusals.Refusal.{Refusal}
use Rattle.map_types.specs.declared.refusals.Refusal.TheVariants.{BadFrame}
use Rattle.wire_frames.specs.declared.requests.Request.{Request}
use Rattle.wire_frames.specs.Messages.{Message, Begins, FirstMessages}
use Rattle.wire_frames.specs.Replies.{reply_frame}
use Rattle.wire_frames.specs.Held.{Feed}
use Rattle.wire_frames.specs.Feed.{HasMessage}
use Rattle.connections.specs.declared.row.Place.{Place}
use Rattle.connections.specs.declared.row.Place.TheVariants.{Held, Refused}
use Rattle.connections.specs.declared.exchange.Stage.{Stage}
use Rattle.connections.specs.declared.exchange.Stage.TheVariants.{Open, Ended, GivenUp}
use Rattle.connections.specs.declared.exchange.Answered.{Answered}
use Rattle.connections.specs.declared.exchange.Answered.TheVariants.{All, Paused, Late}
use Rattle.connections.specs.declared.exchange.Connection.{Connection}
use Rattle.connections.specs.Dialogue.{Answer, Dialogue, ends}
use Rattle.connections.specs.Moves.{Move, Starts, Answers, GivesUp, IsRow, Stops, Leads, messages_of, outcomes}
use Rattle.connections.specs.Moves.{calls_of}

-- what a connection has received, what was done with its messages, and what of its replies is written
pub record Past (H : Type 0) : Type 0 where
  pub received : List ℕ
  pub moves : List (Move H)
  pub written : List ℕ

-- what a connection is left with: what no message was taken of, what is held, how it stands, and the replies that
-- aren't written
pub record Standing (H : Type 0) : Type 0 where
  pub feed : Feed
  pub places : List (Place H)
  pub stage : Stage
  pub unsent : List ℕ

-- the last of the answers ends the connection, and no other does
abbrev pub LastEnds : List Answer → Type 0
LastEnds [] = ⊥
LastEnds (answer ∷ answers) = ((ends answer ≡ true) × (answers ≡ [])) ⊎ ((ends answer ≡ false) × LastEnds answers)

-- how it stands once what is held is given up
abbrev pub closed : Stage → Stage
closed Open = GivenUp
closed Ended = Ended
closed GivenUp = GivenUp

-- the messages are the first of what was received, and the rest is in hand; or the last of them is refused with
-- `BadFrame`
abbrev pub Taken : List ℕ → List Message → Feed → Type 0
Taken received messages feed =
    ((feed.ended ≡ false) × Begins received messages feed.left)
    ⊎ (FirstMessages received messages × ((front : List Message) × (messages ≡ front ++ Err BadFrame ∷ [])))

-- a reply that its caller is handed, since no memory was found for it
abbrev pub late_of : Answered → Option Answer
late_of All = None
late_of Paused = None
late_of (Late answer) = Some answer

module _ {H : Type 0} where
  -- what a connection is left with
  abbrev pub standing : Connection H → Standing H
  standing connection =
      record {
        feed = connection.feeder;
        places = connection.row.items;
        stage = connection.stage;
        unsent = connection.out;
      }

  -- what it is left with once this reply is written behind the others
  abbrev pub with_late : Standing H → Option Answer → Standing H
  with_late left None = left
  with_late left (Some answer) = record left { unsent = left.unsent ++ reply_frame answer }

  -- nothing was received, done or written
  abbrev pub no_past : Past H
  no_past = record { received = []; moves = []; written = [] }

  -- a connection that has received nothing
  abbrev pub fresh : Standing H
  fresh = record { feed = record { left = []; ended = false }; places = []; stage = Open; unsent = [] }

  -- it is open, none of its calls is held, and a message is in hand: some is begun, if it has a row
  abbrev pub MayBegin : Standing H → Type 0
  MayBegin left = (left.stage ≡ Open) × (left.places ≡ []) × HasMessage left.feed

  -- ---- the moves

  -- the answers, in order
  abbrev pub answers_of : List (Move H) → List Answer
  answers_of [] = []
  answers_of (Starts message place ∷ moves) = answers_of moves
  answers_of (Answers place answer ∷ moves) = answer ∷ answers_of moves
  answers_of (GivesUp place ∷ moves) = answers_of moves

  -- a refusal stands for its message, and is its own answer
  abbrev pub KeepsRefusal : Move H → Type 0
  KeepsRefusal (Starts (Ok request) place) = Unit {0}
  KeepsRefusal (Starts (Err refusal) place) = place ≡ Refused refusal
  KeepsRefusal (Answers (Held held) answer) = Unit {0}
  KeepsRefusal (Answers (Refused refusal) answer) = answer ≡ Err refusal
  KeepsRefusal (GivesUp place) = Unit {0}

  -- no answer ends the connection, and nothing is given up
  abbrev pub IsOpen : List (Move H) → Type 0
  IsOpen [] = Unit {0}
  IsOpen (Starts message place ∷ moves) = IsOpen moves
  IsOpen (Answers place answer ∷ moves) = (ends answer ≡ false) × IsOpen moves
  IsOpen (GivesUp place ∷ moves) = ⊥

  -- how the connection stands after these moves; what has ended or was given up holds nothing
  abbrev pub StandsAt : Stage → List (Move H) → List (Place H) → Type 0
  StandsAt Open moves places = IsOpen moves
  StandsAt Ended moves places = LastEnds (answers_of moves) × (places ≡ [])
  StandsAt GivenUp moves places = places ≡ []

  -- ---- the past

  -- This came of the connection that is left so. Its messages are those of what was received. Its moves keep the rules
  -- of a row, of which these places are held. What is written and what isn't are the replies, each in its place, and
  -- nothing else.
  pub record IsPast (past : Past H) (left : Standing H) : Type 0 where
    pub taken : Taken past.received (messages_of past.moves) left.feed
    pub in_row : IsRow [] past.moves left.places
    pub stops : Stops past.moves
    pub refusals : AllByRecursion KeepsRefusal past.moves
    pub stands : StandsAt left.stage past.moves left.places
    pub text : past.written ++ left.unsent ≡ flat_map reply_frame (answers_of past.moves)

  -- these moves behind the others
  abbrev pub with_moves : Past H → List (Move H) → Past H
  with_moves past moves = record past { moves = past.moves ++ moves }

  -- what was read of a connection that holds nothing, and that wasn't given up, has its whole dialogue
  abbrev pub IsAnswered : Past H → Standing H → Type 0
  IsAnswered past left =
      let messages = messages_of past.moves in
      (left.places ≡ []) → (left.stage ≢ GivenUp) → Dialogue messages (calls_of messages (outcomes past.moves))
      (past.written ++ left.unsent)

module _ {S H : Type 0} (began : S → Request → Result H Refusal → S → Type 0) (finished : S → H → Answer → S → Type 0)
    (gave_up : S → H → S → Type 0) where
  -- these moves were made with the calls, and no others; whatever came of the connection before, they stand behind it
  abbrev pub Grew : S → S → Standing H → Standing H → Type 0
  Grew s0 s1 old new =
      (moves : List (Move H))
      × Leads began finished gave_up s0 moves s1
      × ((past : Past H) → IsPast past old → IsPast (with_moves past moves) new)
