-- What a reader gave of a reply.
use Rattle.std.specs.Prelude.{◌≡◌, ◌≢◌, ◌<◌, ◌≤◌, ℕ, ◌+◌, ◌*◌, ◌^◌, List, [], ◌∷◌, length, take, Option, Result, Ok}
use Rattle.std.specs.Prelude.{Err}
use Rattle.std.specs.Int.{w16, to_be_bytes}
use Rattle.std.specs.Io.KnownBytes.{Consumes, IsAtEnd}
use Rattle.std.specs.IoError.{error_kind}
use Rattle.std.specs.declared.io.ErrorKind.TheVariants.{Interrupted}
use Rattle.wire_frames.specs.declared.receiving.ReplyError.{ReplyError}
use Rattle.wire_frames.specs.declared.receiving.ReplyError.TheVariants.{Reader, Ended, NotAReply, NoMemory}
use Rattle.wire_frames.specs.Messages.{frame}
use Rattle.wire_frames.specs.Replies.{reply_frame}
use Rattle.wire_frames.specs.Answers.{Answer, IsAnswered, IsReply}

-- ---- parts of a frame

-- less than a whole frame
abbrev pub IsUnfinished : List ℕ → Type 0
IsUnfinished [] = Unit {0}
IsUnfinished (high ∷ []) = Unit {0}
IsUnfinished (high ∷ low ∷ body) = length body < 256 * high + low

-- at most a whole frame
abbrev pub IsWithinFrame : List ℕ → Type 0
IsWithinFrame [] = Unit {0}
IsWithinFrame (high ∷ []) = Unit {0}
IsWithinFrame (high ∷ low ∷ body) = length body ≤ 256 * high + low

-- ---- what was read

module _ (old new : Option (List ℕ)) where
  -- the reader gave these bytes, and then ended or failed
  abbrev pub Stops : List ℕ → ReplyError → Type 0
  Stops front Ended = Consumes old new front × IsAtEnd new
  Stops front (Reader error) = Consumes old new front × (error_kind error ≢ Interrupted)
  Stops front NotAReply = ⊥
  Stops front NoMemory = ⊥

  -- the reader gave the first bytes of the room, at least one
  abbrev pub GivesSome : List ℕ → Result ℕ ReplyError → Type 0
  GivesSome room (Ok len) = (0 < len) × (len ≤ length room) × Consumes old new (take len room)
  GivesSome room (Err error) = Stops [] error

  -- the reader filled the room
  abbrev pub Fills : {X : Type 0} → List ℕ → Result X ReplyError → Type 0
  Fills room (Ok x) = Consumes old new room
  Fills room (Err error) = (front : List ℕ) × (length front < length room) × Stops front error

  -- the reader gave the two bytes of this length
  abbrev pub ReadsLength : Result ℕ ReplyError → Type 0
  ReadsLength (Ok len) = (len < 2 ^ 16) × Consumes old new (to_be_bytes w16 len)
  ReadsLength (Err error) = (front : List ℕ) × (length front < 2) × Stops front error

  -- fewer bytes were read; or no memory was found for them, and none was
  abbrev pub LacksBody : ℕ → ReplyError → Type 0
  LacksBody len NoMemory = Consumes old new []
  LacksBody len error = (front : List ℕ) × (length front < len) × Stops front error

  -- the reader gave `len` bytes, seen by `view`
  abbrev pub FillsBody : {X : Type 0} → (X → List ℕ) → ℕ → Result X ReplyError → Type 0
  FillsBody view len (Ok body) = (length (view body) ≡ len) × Consumes old new (view body)
  FillsBody view len (Err error) = LacksBody len error

  -- the reader gave the frame of this answer, and nothing behind it
  abbrev pub ReadsReply : Result Answer ReplyError → Type 0
  ReadsReply (Ok answer) = IsAnswered answer × Consumes old new (reply_frame answer)
  ReadsReply (Err Ended) = (front : List ℕ) × IsUnfinished front × Consumes old new front × IsAtEnd new
  ReadsReply (Err (Reader error)) =
      (front : List ℕ) × IsUnfinished front × Consumes old new front × (error_kind error ≢ Interrupted)
  ReadsReply (Err NotAReply) =
      (body : List ℕ) × Consumes old new (frame body) × ((answer : Answer) → IsReply body answer → ⊥)
  ReadsReply (Err NoMemory) = (front : List ℕ) × IsWithinFrame front × Consumes old new front
