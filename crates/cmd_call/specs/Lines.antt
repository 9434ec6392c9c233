-- Lines of calls: what they ask, and what comes of them.
use Rattle.std.specs.Prelude.{◌≡◌, ◌≢◌, ◌⊎◌, ℕ, List, [], ◌∷◌, ◌++◌, length, not, ◌==◌, if◌then◌else◌, codes}
use Rattle.std.specs.Prelude.{option_map, Option, None, Some, Result, Ok, Err}
use Rattle.std.specs.List.{AllByRecursion, AllZip, filter, flat_map, slice_split}
use Rattle.std.specs.Str.{is_utf8}
use Rattle.std.specs.Io.KnownBytes.{Appends, Consumes}
use Rattle.call_text.specs.Names.{Text}
use Rattle.call_text.specs.Whole.{parse_words}
use Rattle.call_text.specs.declared.bad_word.BadWord.{BadWord}
use Rattle.call_text.specs.declared.called.Called.{Called}
use Rattle.wire_frames.specs.declared.requests.Request.{Request}
use Rattle.wire_frames.specs.declared.receiving.ReplyError.{ReplyError}
use Rattle.wire_frames.specs.declared.receiving.ReplyError.TheVariants as reply_error
use Rattle.wire_frames.specs.Replies.{IsBeginning, IsCut, reply_frame}
use Rattle.wire_frames.specs.Answers.{IsAnswered}
use Rattle.wire_frames.specs.Receiving.{ReadsReply}
use Rattle.cmd_call.specs.Client.{Known, IsReplyLine, request_frame, request_of}
use Rattle.cmd_call.specs.declared.lines.BadLine.{BadLine}
use Rattle.cmd_call.specs.declared.lines.BadLine.TheVariants.{NotText, Word}
use Rattle.cmd_call.specs.declared.outcomes.Outcome.{Outcome}
use Rattle.cmd_call.specs.declared.outcomes.Outcome.TheVariants.{Answered, Misused, NoReply}

-- ---- what a line asks

-- a request, or why the line is no call
abbrev pub Asked : Type 0
Asked = Result Request BadLine

-- what stands between spaces, but for what is empty
abbrev pub words_of : Text → List Text
words_of line = filter (λ word. not (length word == 0)) (slice_split (λ byte. byte == 32) line)

abbrev pub asked_by : Result Called BadWord → Asked
asked_by (Ok called) = Ok (request_of called)
asked_by (Err bad) = Err (Word bad)

-- the words of a line are those of a call
unfoldable pub asked_in : Text → Asked
asked_in line = if is_utf8 line then asked_by (parse_words (words_of line)) else Err NotText

-- ---- the lines of an input

abbrev pub IsLine : Text → Type 0
IsLine line = AllByRecursion (λ byte. byte ≢ 10) line

abbrev pub ended : Text → List ℕ
ended line = line ++ 10 ∷ []

-- the bytes are these lines, and a part of a line behind them
pub record Divides (bytes : List ℕ) (lines : List Text) (part : Text) : Type 0 where
  pub parts : bytes ≡ flat_map ended lines ++ part
  pub each : AllByRecursion IsLine lines
  pub last : IsLine part

-- at the end of the input such a part is a line too
abbrev pub last_line : Text → List Text
last_line [] = []
last_line part = part ∷ []

-- ---- what comes of a line

abbrev pub asked_frame : Asked → List ℕ
asked_frame (Ok request) = request_frame request
asked_frame (Err bad) = []

-- the frames of the requests, one behind another
abbrev pub asked_frames : List Asked → List ℕ
asked_frames asked = flat_map asked_frame asked

abbrev pub answer_frame : Outcome → List ℕ
answer_frame (Answered answer) = reply_frame answer
answer_frame outcome = []

abbrev pub answer_frames : List Outcome → List ℕ
answer_frames outcomes = flat_map answer_frame outcomes

-- a line that is no call is told so, and any other is answered or not
abbrev pub Suits : Asked → Outcome → Type 0
Suits (Ok request) (Answered answer) = IsAnswered answer
Suits (Ok request) (Misused bad) = ⊥
Suits (Ok request) NoReply = Unit {0}
Suits (Err bad) (Answered answer) = ⊥
Suits (Err bad) (Misused told) = told ≡ bad
Suits (Err bad) NoReply = ⊥

abbrev pub HasReply : Outcome → Type 0
HasReply NoReply = ⊥
HasReply outcome = Unit {0}

abbrev pub HasNoAnswer : Outcome → Type 0
HasNoAnswer (Answered answer) = ⊥
HasNoAnswer outcome = Unit {0}

-- the exit status that goes with it
abbrev pub status_of : Outcome → ℕ
status_of (Answered (Ok reply)) = 0
status_of (Answered (Err refusal)) = 1
status_of (Misused bad) = 2
status_of NoReply = 1

abbrev pub first_of : ℕ → ℕ → ℕ
first_of first next = if first == 0 then next else first

-- the status of the first line that isn't a reply; 0 if all are
abbrev pub status_of_all : List Outcome → ℕ
status_of_all [] = 0
status_of_all (outcome ∷ outcomes) = first_of (status_of outcome) (status_of_all outcomes)

-- ---- over a connection

-- what the reader of a connection has left, and what its writer took; none if no connection is there
abbrev pub Ends : Type 0
Ends = Option (Known × Known)

abbrev pub ends_of : {R W : Type 0} → (R → Known) → (W → Known) → Option (R × W) → Ends
ends_of remaining contents server = option_map (λ ends. (remaining ends.0, contents ends.1)) server

-- each request was sent, in order, and its reply is the one that came in its place
pub record Replied (r0 r1 w0 w1 : Known) (asked : List Asked) (outcomes : List Outcome) : Type 0 where
  pub suit : AllZip Suits asked outcomes
  pub all : AllByRecursion HasReply outcomes
  pub sent : Appends w0 w1 (asked_frames asked)
  pub received : Consumes r0 r1 (answer_frames outcomes)

-- no request has a reply
pub record Unanswered (asked : List Asked) (outcomes : List Outcome) : Type 0 where
  pub suit : AllZip Suits asked outcomes
  pub none : AllByRecursion HasNoAnswer outcomes

-- Fails says that reading a reply ended with an error, of what the reader had left before and has left then.
module _ (Fails : Known → Known → ReplyError → Type 0) where
  -- reading a reply ended with such an error, and memory wasn't missing
  pub record LosesReply (reader : Known) : Type 0 where
    pub error : ReplyError
    pub after : Known
    pub fails : Fails reader after error
    pub other : error ≢ reply_error.NoMemory
    pub reads : ReadsReply reader after (Err error)

  -- the request of the first of these lines was sent whole, and no whole reply came
  pub record IsUnread (reader : Known) (front : List ℕ) (asked : List Asked) : Type 0 where
    pub request : Request
    pub more : List Asked
    pub asked_are : asked ≡ Ok request ∷ more
    pub whole : IsBeginning (request_frame request) front
    pub loses : LosesReply reader

  -- The connection was lost: the first lines have their replies, and none behind them has one. Of the requests of those
  -- a beginning was sent. It isn't the whole, as the writer failed; or no whole reply came to the first of them.
  pub record Loses (r0 w0 : Known) (asked : List Asked) (outcomes : List Outcome) : Type 0 where
    pub first : List Asked
    pub behind : List Asked
    pub replied : List Outcome
    pub lost : List Outcome
    pub reader : Known
    pub writer : Known
    pub writer_after : Known
    pub front : List ℕ
    pub asked_are : asked ≡ first ++ behind
    pub outcomes_are : outcomes ≡ replied ++ lost
    pub have : Replied r0 reader w0 writer first replied
    pub have_none : Unanswered behind lost
    pub beginning : IsBeginning front (asked_frames behind)
    pub sent : Appends writer writer_after front
    pub cause : IsCut front (asked_frames behind) ⊎ IsUnread reader front behind

  -- what came of these lines
  abbrev pub Exchanged : Ends → Ends → List Asked → List Outcome → Type 0
  Exchanged None None asked outcomes = Unanswered asked outcomes
  Exchanged None (Some new) asked outcomes = ⊥
  Exchanged (Some old) None asked outcomes = Loses old.0 old.1 asked outcomes
  Exchanged (Some old) (Some new) asked outcomes = Replied old.0 new.0 old.1 new.1 asked outcomes

-- ---- what is printed

-- the text of the reply; `refused` and the refusal; `misuse` and what is wrong; or `no reply`
abbrev pub IsLineOf : Outcome → List ℕ → Type 0
IsLineOf (Answered (Ok reply)) line = IsReplyLine reply line
IsLineOf (Answered (Err refusal)) line = (name : List ℕ) × (line ≡ codes "refused " ++ (name ++ codes "\n"))
IsLineOf (Misused bad) line = (cause : List ℕ) × (line ≡ codes "misuse " ++ (cause ++ codes "\n"))
IsLineOf NoReply line = line ≡ codes "no reply\n"

-- a line for each outcome, in order
pub record Tells (outcomes : List Outcome) (text : List ℕ) : Type 0 where
  pub lines : List (List ℕ)
  pub each : AllZip IsLineOf outcomes lines
  pub is : text ≡ flat_map (λ line. line) lines

-- Fails says that reading a reply ended with an error, of what the reader had left before and has left then.
module _ (Fails : Known → Known → ReplyError → Type 0) where
  -- what came of these lines was printed, and the status goes on with it
  pub record Answers (e0 e1 : Ends) (o0 o1 : Known) (asked : List Asked) (s0 s1 : ℕ) : Type 0 where
    pub outcomes : List Outcome
    pub text : List ℕ
    pub exchanged : Exchanged Fails e0 e1 asked outcomes
    pub tells : Tells outcomes text
    pub printed : Appends o0 o1 text
    pub status_is : s1 ≡ first_of s0 (status_of_all outcomes)

  -- a beginning of what came of these lines was printed
  pub record BreaksOff (e0 : Ends) (o0 o1 : Known) (asked : List Asked) : Type 0 where
    pub after : Ends
    pub outcomes : List Outcome
    pub text : List ℕ
    pub front : List ℕ
    pub exchanged : Exchanged Fails e0 after asked outcomes
    pub tells : Tells outcomes text
    pub beginning : IsBeginning front text
    pub printed : Appends o0 o1 front
