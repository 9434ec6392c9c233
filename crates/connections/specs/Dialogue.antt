-- The replies to messages, given what each call answered.
use Rattle.std.specs.Prelude.{◌≡◌, ◌⊎◌, ℕ, Bool, true, false, cond, List, [], ◌∷◌, ◌++◌, length, map, Option, Some}
use Rattle.std.specs.Prelude.{None, Ok, Err}
use Rattle.std.specs.List.{flat_map}
use Rattle.map_types.specs.declared.refusals.Refusal.TheVariants.{NullValue, KeyTooLong, ValueTooLong, UnknownMethod}
use Rattle.map_types.specs.declared.refusals.Refusal.TheVariants.{UnknownFunction, BadFrame, NoMemory, Busy, Failed}
use Rattle.map_types.specs.declared.refusals.Refusal.TheVariants.{TicketsSpent, NotFormatted, Damaged, WrongVersion}
use Rattle.map_types.specs.declared.refusals.Refusal.TheVariants.{LogFull, AlreadyFormatted, WrongPhase, TooEarly}
use Rattle.map_types.specs.declared.refusals.Refusal.TheVariants.{NotText, SeatsSpent}
use Rattle.wire_frames.specs.declared.requests.Request.{Request}
pub use Rattle.wire_frames.specs.Answers.{Answer}
use Rattle.wire_frames.specs.Messages.{Message}
use Rattle.wire_frames.specs.Replies.{reply_frame}

-- a call that was made, and what it answered, or that it has no answer yet
pub record Call : Type 0 where
  pub request : Request
  pub answer : Option Answer

-- after `BadFrame` (status 86) and `Failed` (status 89) the connection ends
abbrev pub ends : Answer → Bool
ends (Ok reply) = false
ends (Err NullValue) = false
ends (Err KeyTooLong) = false
ends (Err ValueTooLong) = false
ends (Err UnknownMethod) = false
ends (Err UnknownFunction) = false
ends (Err BadFrame) = true
ends (Err NoMemory) = false
ends (Err (Busy stripe)) = false
ends (Err Failed) = true
ends (Err TicketsSpent) = false
ends (Err NotFormatted) = false
ends (Err (Damaged file offset)) = false
ends (Err WrongVersion) = false
ends (Err LogFull) = false
ends (Err AlreadyFormatted) = false
ends (Err WrongPhase) = false
ends (Err TooEarly) = false
ends (Err NotText) = false
ends (Err SeatsSpent) = false

-- an answer, and the others behind it if the connection goes on
abbrev pub then_answers : Answer → List Answer → List Answer
then_answers answer others = answer ∷ cond (ends answer) [] others

abbrev pub when_answered : Option Answer → List Answer → List Answer
when_answered None others = []
when_answered (Some answer) others = then_answers answer others

-- the answers to the messages in order: a refusal is its own answer, a request has that of its call;
-- up to and with the first that ends the connection, or up to a request whose call has no answer
unfoldable pub row : List Message → List Call → List Answer
row [] made = []
row (Err refusal ∷ messages) made = then_answers (Err refusal) (row messages made)
row (Ok request ∷ messages) [] = []
row (Ok request ∷ messages) (call ∷ made) = when_answered call.answer (row messages made)

-- the bytes of these answers
abbrev pub replies : List Message → List Call → List ℕ
replies messages made = flat_map reply_frame (row messages made)

unfoldable pub requests : List Message → List Request
requests [] = []
requests (Err refusal ∷ messages) = requests messages
requests (Ok request ∷ messages) = request ∷ requests messages

abbrev pub asked : List Call → List Request
asked made = map (λ call. call.request) made

-- the calls made are a front of the requests, in order, each once
abbrev pub IsFront : List Call → List Message → Type 0
IsFront made messages = (others : List Request) × (requests messages ≡ asked made ++ others)

-- the last of the answers ends the connection
abbrev pub IsEnded : List Answer → Type 0
IsEnded answers = (front : List Answer) × (last : Answer) × (answers ≡ front ++ last ∷ []) × (ends last ≡ true)

-- each message has its answer, up to and with the first that ends the connection
abbrev pub IsWhole : List Message → List Call → Type 0
IsWhole messages made = IsEnded (row messages made) ⊎ (length (row messages made) ≡ length messages)

-- the bytes are the whole dialogue over the messages, given what each call answered
pub record Dialogue (messages : List Message) (made : List Call) (bytes : List ℕ) : Type 0 where
  pub calls : IsFront made messages
  pub whole : IsWhole messages made
  pub text : bytes ≡ replies messages made
