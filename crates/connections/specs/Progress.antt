-- What a part of a connection did.
use Rattle.std.specs.Prelude.{◌≡◌, ◌≢◌, ◌⊎◌, ◌<◌, ℕ, Bool, true, false, cond, suc, List, [], ◌∷◌, ◌++◌, length, map}
use Rattle.std.specs.Prelude.{take, Option, Some, Result, Ok, Err}
use Rattle.std.specs.Io.KnownBytes.{Consumes, Keeps, IsAtEnd}
use Rattle.std.specs.IoError.{error_kind}
use Rattle.std.specs.declared.io.ErrorKind.TheVariants.{Interrupted}
use Rattle.map_types.specs.declared.refusals.Refusal.{Refusal}
use Rattle.map_types.specs.declared.refusals.Refusal.TheVariants.{BadFrame}
use Rattle.wire_frames.specs.declared.requests.Request.{Request}
use Rattle.wire_frames.specs.Messages.{Message, AsksWholeMap, Begins, FirstMessages, IsPartial}
use Rattle.wire_frames.specs.Feed.{BeginsBulk, Takes}
use Rattle.wire_frames.specs.Held.{Feed}
use Rattle.connections.specs.declared.connection.ConnectionError.{ConnectionError}
use Rattle.connections.specs.declared.connection.ConnectionError.TheVariants.{Reader, Writer, NoMemory}
use Rattle.connections.specs.declared.row.Place.{Place}
use Rattle.connections.specs.Dialogue.{Answer, Call, ends}
use Rattle.connections.specs.Moves.{Move, Starts, Answers, GivesUp, IsRow, Stops, Makes, Leads}
use Rattle.connections.specs.Connection.{GoesOn}
use Rattle.connections.specs.Past.{LastEnds}

-- the reader gave the first bytes of the room, none only at its end; or it failed, and gave none
abbrev pub Gave : Option (List ℕ) → Option (List ℕ) → List ℕ → Result ℕ ConnectionError → Type 0
Gave r0 r1 room (Ok len) = Consumes r0 r1 (take len room) × (len ≡ 0 → 0 < length room → IsAtEnd r1)
Gave r0 r1 room (Err (Reader error)) = Keeps r0 r1 × (error_kind error ≢ Interrupted)
Gave r0 r1 room (Err NoMemory) = ⊥
Gave r0 r1 room (Err (Writer error)) = ⊥

-- each message has its answer, none ends the connection, and no other call was made
abbrev pub IsFull : List Message → List Call → Type 0
IsFull [] [] = Unit {0}
IsFull [] (call ∷ made) = ⊥
IsFull (Err refusal ∷ messages) made = (ends (Err refusal) ≡ false) × IsFull messages made
IsFull (Ok request ∷ messages) [] = ⊥
IsFull (Ok request ∷ messages) (call ∷ made) =
    (answer : Answer) × (call ≡ record { request = request; answer = Some answer }) × (ends answer ≡ false)
    × IsFull messages made

-- the moves neither give up nor end the connection, and no message is refused with `BadFrame`
abbrev pub IsSteady : {H : Type 0} → List (Move H) → Type 0
IsSteady [] = Unit {0}
IsSteady (Starts message place ∷ moves) = (message ≢ Err BadFrame) × IsSteady moves
IsSteady (Answers place answer ∷ moves) = (ends answer ≡ false) × IsSteady moves
IsSteady (GivesUp place ∷ moves) = ⊥

-- whether the last of the answers ends the connection; no other does
abbrev pub EndsAt : Bool → List Answer → Type 0
EndsAt false answers = GoesOn answers
EndsAt true answers = LastEnds answers

-- how much a feeder may still give: each message takes some of it
abbrev pub work : Feed → ℕ
work feed = cond feed.ended 0 (suc (length feed.left))

-- what the feeder gave: nothing, as no whole message was left; or these messages, of which the last may be refused with
-- `BadFrame`
abbrev pub Gives : Feed → Feed → List Message → Type 0
Gives old new messages =
    ((messages ≡ []) × (new ≡ old) × ((old.ended ≡ true) ⊎ IsPartial old.left))
    ⊎ ((old.ended ≡ false)
    × (work new < work old)
    × (((new.ended ≡ false) × Begins old.left messages new.left)
    ⊎ (FirstMessages old.left messages × ((front : List Message) × (messages ≡ front ++ Err BadFrame ∷ [])))))

-- ---- a row

module _ {H : Type 0} where
  -- the messages that take these places
  abbrev pub begin_moves : List (Message × Place H) → List (Move H)
  begin_moves begun = map (λ one. Starts one.0 one.1) begun

  -- these places are answered so
  abbrev pub answer_moves : List (Place H × Answer) → List (Move H)
  answer_moves answered = map (λ one. Answers one.0 one.1) answered

  -- these places are given up
  abbrev pub give_up_moves : List (Place H) → List (Move H)
  give_up_moves places = map GivesUp places

  abbrev pub messages_in : List (Message × Place H) → List Message
  messages_in begun = map (λ one. one.0) begun

  abbrev pub places_in : List (Message × Place H) → List (Place H)
  places_in begun = map (λ one. one.1) begun

  abbrev pub answered_in : List (Place H × Answer) → List (Place H)
  answered_in answered = map (λ one. one.0) answered

  abbrev pub answers_in : List (Place H × Answer) → List Answer
  answers_in answered = map (λ one. one.1) answered

module _ {S H : Type 0} (began : S → Request → Result H Refusal → S → Type 0) (finished : S → H → Answer → S → Type 0)
    (gave_up : S → H → S → Type 0) where
  -- no whole message was left, or the next is to be alone in the row; or it took a place. No other is to follow one
  -- that is refused with `BadFrame`, or that came out of a frame of the whole map
  abbrev pub BeginsNext : S → S → Feed → Feed → List (Place H) → List (Place H) → Bool → Type 0
  BeginsNext s0 s1 old new before after is_last =
      ((is_last ≡ true)
      × (new ≡ old)
      × (((old.ended ≡ true) ⊎ IsPartial old.left) ⊎ ((before ≢ []) × BeginsBulk old))
      × (after ≡ before)
      × (s1 ≡ s0))
      ⊎ ((message : Message) × (place : Place H)
      × Takes old new message
      × Makes began finished gave_up s0 (Starts message place) s1
      × (after ≡ before ++ place ∷ [])
      × (AsksWholeMap message → before ≡ [])
      × (is_last ≡ true → (message ≡ Err BadFrame) ⊎ ((message ≢ Err BadFrame) × BeginsBulk old))
      × (is_last ≡ false → (message ≢ Err BadFrame) × (AsksWholeMap message → ⊥)))

  -- messages took their places in the row, in order, and no call was made but theirs
  abbrev pub BeginsRow : S → S → Feed → Feed → List (Place H) → Type 0
  BeginsRow s0 s1 old new row =
      (begun : List (Message × Place H))
      × (row ≡ places_in begun)
      × IsRow [] (begin_moves begun) row
      × Leads began finished gave_up s0 (begin_moves begun) s1
      × Stops (begin_moves begun)
      × Gives old new (messages_in begun)
