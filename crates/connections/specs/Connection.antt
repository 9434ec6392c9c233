-- What passed over a connection: what was read, what was called, what was written.
use Rattle.std.specs.Prelude.{◌≡◌, ◌≢◌, ◌⊎◌, ◌≤◌, ℕ, false, List, ◌++◌, length, Option, Result, Ok, Err}
use Rattle.std.specs.List.{AllByRecursion}
use Rattle.std.specs.Io.KnownBytes.{Appends, Consumes, IsAtEnd}
use Rattle.std.specs.IoError.{error_kind}
use Rattle.std.specs.declared.io.ErrorKind.TheVariants.{Interrupted}
use Rattle.map_types.specs.declared.refusals.Refusal.{Refusal}
use Rattle.wire_frames.specs.declared.requests.Request.{Request}
use Rattle.wire_frames.specs.Messages.{Message, FirstMessages, AllMessages}
use Rattle.wire_frames.specs.Replies.{IsCut}
use Rattle.connections.specs.declared.connection.ConnectionError.{ConnectionError}
use Rattle.connections.specs.declared.connection.ConnectionError.TheVariants.{Reader, Writer, NoMemory}
use Rattle.connections.specs.Dialogue.{Answer, Call, Dialogue, IsFront, IsEnded, ends, row, replies}
use Rattle.connections.specs.Moves.{Runs}

-- none of the answers ends the connection
abbrev pub GoesOn : List Answer → Type 0
GoesOn answers = AllByRecursion (λ answer. ends answer ≡ false) answers

module _ {S H : Type 0} (began : S → Request → Result H Refusal → S → Type 0) (finished : S → H → Answer → S → Type 0)
    (gave_up : S → H → S → Type 0)
    (r0 r1 w0 w1 : Option (List ℕ)) (s0 s1 : S) where
  -- a reply of status 86 or 89 ended the connection: the whole dialogue of the messages, which ends with it, was
  -- written, and what was held of calls behind it was given up
  pub record EndedByReply : Type 0 where
    pub input : List ℕ
    pub messages : List Message
    pub made : List Call
    pub bytes : List ℕ
    pub read : Consumes r0 r1 input
    pub first : FirstMessages input messages
    pub ran : Runs began finished gave_up s0 messages made s1
    pub dialogue : Dialogue messages made bytes
    pub ended : IsEnded (row messages made)
    pub wrote : Appends w0 w1 bytes

  -- Each whole message of what was read was answered, and the answer was written. None of these answers ends the
  -- connection. Behind the messages at most `most` bytes were read that no memory was found for.
  pub record AllAnswered (most : ℕ) : Type 0 where
    pub input : List ℕ
    pub lost : List ℕ
    pub messages : List Message
    pub made : List Call
    pub bytes : List ℕ
    pub read : Consumes r0 r1 (input ++ lost)
    pub few : length lost ≤ most
    pub all : AllMessages input messages
    pub ran : Runs began finished gave_up s0 messages made s1
    pub dialogue : Dialogue messages made bytes
    pub goes_on : GoesOn (row messages made)
    pub wrote : Appends w0 w1 bytes

  -- the writer failed: a beginning of the replies was written, and not all that was to be written by then;
  -- each call that was begun was finished or given up
  pub record CutOff : Type 0 where
    pub input : List ℕ
    pub messages : List Message
    pub made : List Call
    pub bytes : List ℕ
    pub read : Consumes r0 r1 input
    pub first : FirstMessages input messages
    pub calls : IsFront made messages
    pub ran : Runs began finished gave_up s0 messages made s1
    pub beginning : IsCut bytes (replies messages made)
    pub wrote : Appends w0 w1 bytes

  -- the connection ended by a reply or with its reader, or broke off
  abbrev pub Connection : Result (Unit {0}) ConnectionError → Type 0
  Connection (Ok done) = EndedByReply ⊎ (IsAtEnd r1 × AllAnswered 0)
  Connection (Err (Reader error)) = AllAnswered 0 × (error_kind error ≢ Interrupted)
  Connection (Err NoMemory) = AllAnswered 65536
  Connection (Err (Writer error)) = CutOff
