-- What a client asks of a server, and what it prints of the answer.
use Rattle.std.specs.Prelude.{◌≡◌, ◌≢◌, ◌⊎◌, ℕ, List, ◌++◌, codes, Option, Result, Ok, Err}
use Rattle.std.specs.Io.KnownBytes.{Appends}
use Rattle.std.specs.declared.io.Error.{Error}
use Rattle.map_types.specs.declared.commands.Reply.{Reply}
use Rattle.call_text.specs.declared.asked.Asked.{Asked}
use Rattle.call_text.specs.declared.asked.Asked.TheVariants as asked
use Rattle.call_text.specs.declared.bad_word.BadWord.{BadWord}
use Rattle.call_text.specs.declared.called.Called.{Called}
use Rattle.call_text.specs.declared.called.Called.TheVariants as called
use Rattle.call_text.specs.Answers.{IsReplyText}
use Rattle.call_text.specs.Printing.{Prints, PrintsNothing}
use Rattle.wire_frames.specs.declared.requests.Bulk.TheVariants as bulk
use Rattle.wire_frames.specs.declared.requests.Request.{Request}
use Rattle.wire_frames.specs.declared.requests.Request.TheVariants as request
use Rattle.wire_frames.specs.declared.receiving.ReplyError.{ReplyError}
use Rattle.wire_frames.specs.declared.receiving.ReplyError.TheVariants as lost
use Rattle.wire_frames.specs.Messages.{frame}
use Rattle.wire_frames.specs.Requests.{request_bytes}
use Rattle.wire_frames.specs.Replies.{IsCut}
use Rattle.wire_frames.specs.Answers.{Answer}
use Rattle.wire_frames.specs.Receiving.{ReadsReply}
use Rattle.cmd_call.specs.declared.client.Unanswered.{Unanswered}
use Rattle.cmd_call.specs.declared.client.Unanswered.TheVariants.{NoReply, NoMemory}
use Rattle.cmd_call.specs.declared.places.PlaceWords.{PlaceWords}
use Rattle.cmd_call.specs.declared.servers.Server.{Server}
use Rattle.cmd_call.specs.Places.{NamesNoServer, NamesServer}

-- the bytes that a reader has left, or that a writer holds, if they are known
abbrev pub Known : Type 0
Known = Option (List ℕ)

-- ---- a request and its answer

abbrev pub request_frame : Request → List ℕ
request_frame request = frame (request_bytes request)

-- the reader gave no whole reply, and memory wasn't missing
abbrev pub GivesNoReply : Known → Known → Type 0
GivesNoReply r0 r1 = (error : ReplyError) × (error ≢ lost.NoMemory) × ReadsReply r0 r1 (Err error)

module _ (r0 r1 w0 w1 : Known) (request : Request) where
  -- If the writer failed, not all of the request was written, and nothing was read; else all of it was written.
  -- If memory was missing, it was for the request, or else for the reply.
  abbrev pub Exchanges : Result Answer Unanswered → Type 0
  Exchanges (Ok answer) = Appends w0 w1 (request_frame request) × ReadsReply r0 r1 (Ok answer)
  Exchanges (Err NoReply) =
      ((r1 ≡ r0) × ((front : List ℕ) × IsCut front (request_frame request) × Appends w0 w1 front))
      ⊎ (Appends w0 w1 (request_frame request) × GivesNoReply r0 r1)
  Exchanges (Err NoMemory) =
      ((r1 ≡ r0) × (w1 ≡ w0)) ⊎ (Appends w0 w1 (request_frame request) × ReadsReply r0 r1 (Err lost.NoMemory))

-- ---- what is printed

-- the text of the reply, as a line
abbrev pub IsReplyLine : Reply → List ℕ → Type 0
IsReplyLine reply line = (text : List ℕ) × IsReplyText reply text × (line ≡ text ++ codes "\n")

-- a line with the text of the reply, or nothing if no memory was found for it
abbrev pub PrintsReply : Reply → Known → Known → ℕ → Type 0
PrintsReply reply o0 o1 status =
    ((line : List ℕ) × IsReplyLine reply line × Prints line o0 o1 status) ⊎ PrintsNothing o0 o1 status

-- a reply is printed; a refusal, as what has no answer, prints nothing, with status 1
abbrev pub Shows : Result Answer Unanswered → Known → Known → ℕ → Type 0
Shows (Ok (Ok reply)) o0 o1 status = PrintsReply reply o0 o1 status
Shows (Ok (Err refusal)) o0 o1 status = PrintsNothing o0 o1 status
Shows (Err lacking) o0 o1 status = PrintsNothing o0 o1 status

-- the request was sent, and its answer printed
pub record AsksServer (r0 r1 w0 w1 o0 o1 : Known) (request : Request) (status : ℕ) : Type 0 where
  pub answer : Result Answer Unanswered
  pub exchanges : Exchanges r0 r1 w0 w1 request answer
  pub shows : Shows answer o0 o1 status

-- ---- the words of a call

abbrev pub keyed_request : Asked → Request
keyed_request (asked.Read read) = request.Read read
keyed_request (asked.Change command) = request.Change command

abbrev pub request_of : Called → Request
request_of (called.Keyed asked) = keyed_request asked
request_of called.Count = request.Bulk bulk.Count
request_of (called.Reduce func threshold) = request.Bulk (bulk.Reduce func threshold)
request_of (called.Search threshold value) = request.Bulk (bulk.Search threshold value)

-- nothing was printed, with status 2
abbrev pub PrintsMisuse : Known → Known → ℕ → Type 0
PrintsMisuse o0 o1 status = (o1 ≡ o0) × (status ≡ 2)

-- IsConnected says of a reader and a writer that they are the ends of a new connection to a server. IsUnreachable says
-- that a connection to a server was tried, and there was none, for an error.
module _ {R W : Type 0} (remaining : R → Known) (contents : W → Known) (IsConnected : Server → R → W → Type 0)
    (IsUnreachable : Server → Error → Type 0) where
  -- a server was asked, and its answer printed
  pub record AsksAt (server : Server) (request : Request) (o0 o1 : Known) (status : ℕ) : Type 0 where
    pub reader : R
    pub reader_after : R
    pub writer : W
    pub writer_after : W
    pub connected : IsConnected server reader writer
    pub asks : AsksServer (remaining reader) (remaining reader_after) (contents writer)
        (contents writer_after) o0 o1 request status

  -- no connection to the server could be had, and nothing was printed, with status 1
  abbrev pub CannotConnect : Server → Known → Known → ℕ → Type 0
  CannotConnect server o0 o1 status = (error : Error) × IsUnreachable server error × PrintsNothing o0 o1 status

  -- a server was asked, or no connection to it could be had
  abbrev pub CallsAt : Server → Request → Known → Known → ℕ → Type 0
  CallsAt server request o0 o1 status = AsksAt server request o0 o1 status ⊎ CannotConnect server o0 o1 status

  -- For the words of a call: if `at` names no server, nothing is printed, with status 2; else one is asked for what the
  -- words say, or can't be reached. If no memory was found to read the words, nothing is printed, with status 1.
  -- Words that are no call print nothing, with status 2; or 1 if no memory was found to read them.
  abbrev pub CallsServer : PlaceWords → Result Called BadWord → Known → Known → ℕ → Type 0
  CallsServer at (Ok called) o0 o1 status =
      (NamesNoServer at × PrintsMisuse o0 o1 status)
      ⊎ ((server : Server) × NamesServer at server × (CallsAt server (request_of called) o0 o1 status
      ⊎ PrintsNothing o0 o1 status))
  CallsServer at (Err bad) o0 o1 status =
      PrintsMisuse o0 o1 status ⊎ ((server : Server) × NamesServer at server × PrintsNothing o0 o1 status)
