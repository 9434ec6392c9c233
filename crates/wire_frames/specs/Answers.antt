-- What a client reads of a reply.
use Rattle.std.specs.Prelude.{◌≡◌, ℕ, ◌+◌, pos, List, Option, Some, None, Result, Ok, Err}
use Rattle.std.specs.Int.{from_bool}
use Rattle.map_types.specs.declared.refusals.Refusal.{Refusal}
use Rattle.map_types.specs.declared.refusals.Refusal.TheVariants.{Busy, Damaged}
use Rattle.map_types.specs.declared.texts.Value.{Value}
use Rattle.map_types.specs.declared.texts.Value.TheVariants.{Int}
use Rattle.map_types.specs.declared.commands.Reply.{Reply}
use Rattle.map_types.specs.declared.commands.Reply.TheVariants.{Was, Now, Did, Fault}
use Rattle.map_types.specs.Numbers.{fault_number}
use Rattle.map_types.specs.Refusals.{refusal_number}
use Rattle.log_records.specs.Spelling.{IsArgument}
use Rattle.wire_frames.specs.Replies.{reply_body}

-- a reply, or a refusal
abbrev pub Answer : Type 0
Answer = Result Reply Refusal

-- a refusal that a reply says whole: it names no stripe and no file
abbrev pub IsPlain : Refusal → Type 0
IsPlain (Busy stripe) = ⊥
IsPlain (Damaged file offset) = ⊥
IsPlain refusal = Unit {0}

-- an answer that a reply says whole: its value is within its bounds
abbrev pub IsAnswered : Answer → Type 0
IsAnswered (Ok (Was value)) = IsArgument value
IsAnswered (Ok (Now value)) = IsArgument value
IsAnswered (Ok (Did done)) = Unit {0}
IsAnswered (Ok (Fault fault)) = Unit {0}
IsAnswered (Err refusal) = IsPlain refusal

-- the bytes are this answer, and nothing else
pub record IsReply (body : List ℕ) (answer : Answer) : Type 0 where
  pub fits : IsAnswered answer
  pub spelled : body ≡ reply_body answer

-- ---- the parts of a reply

abbrev pub reply_status : Answer → ℕ
reply_status (Ok (Was value)) = 0
reply_status (Ok (Now value)) = 1
reply_status (Ok (Did done)) = 2
reply_status (Ok (Fault fault)) = 3
reply_status (Err refusal) = 128 + refusal_number refusal

abbrev pub reply_value : Answer → Option Value
reply_value (Ok (Was value)) = value
reply_value (Ok (Now value)) = value
reply_value (Ok (Did done)) = Some (Int (pos (from_bool done)))
reply_value (Ok (Fault fault)) = Some (Int (pos (fault_number fault)))
reply_value (Err refusal) = None

-- the status and the value are those of this answer
pub record AreParts (status : ℕ) (value : Option Value) (answer : Answer) : Type 0 where
  pub fits : IsAnswered answer
  pub status_is : status ≡ reply_status answer
  pub value_is : value ≡ reply_value answer
