-- The one spelling of each reply, and what a writer took of it.
use Rattle.std.specs.Prelude.{◌≡◌, ℕ, ◌+◌, pos, List, ◌∷◌, ◌++◌, Option, Some, None, Result, Ok, Err}
use Rattle.std.specs.Int.{from_bool}
use Rattle.std.specs.Io.KnownBytes.{Appends}
use Rattle.map_types.specs.declared.refusals.Refusal.{Refusal}
use Rattle.map_types.specs.declared.texts.Value.TheVariants.{Int}
use Rattle.map_types.specs.declared.commands.Reply.{Reply}
use Rattle.map_types.specs.declared.commands.Reply.TheVariants.{Was, Now, Did, Fault}
use Rattle.map_types.specs.Numbers.{fault_number}
use Rattle.map_types.specs.Refusals.{refusal_number}
use Rattle.log_records.specs.Spelling.{value_bytes}
use Rattle.wire_frames.specs.Messages.{frame}

-- the status, and the value: for `Did` the number 1 or 0, for `Fault` the fault's number
abbrev pub reply_body : Result Reply Refusal → List ℕ
reply_body (Ok (Was value)) = 0 ∷ value_bytes value
reply_body (Ok (Now value)) = 1 ∷ value_bytes value
reply_body (Ok (Did done)) = 2 ∷ value_bytes (Some (Int (pos (from_bool done))))
reply_body (Ok (Fault fault)) = 3 ∷ value_bytes (Some (Int (pos (fault_number fault))))
reply_body (Err refusal) = (128 + refusal_number refusal) ∷ value_bytes None

abbrev pub reply_frame : Result Reply Refusal → List ℕ
reply_frame answer = frame (reply_body answer)

abbrev pub IsBeginning : List ℕ → List ℕ → Type 0
IsBeginning front bytes = (rest : List ℕ) × (bytes ≡ front ++ rest)

-- a beginning that isn't the whole
abbrev pub IsCut : List ℕ → List ℕ → Type 0
IsCut front bytes = (next : ℕ) × (rest : List ℕ) × (bytes ≡ front ++ next ∷ rest)

-- all of the bytes were written, or not all of them if the writer failed
abbrev pub Writes : {X E : Type 0} → Option (List ℕ) → Option (List ℕ) → Result X E → List ℕ → Type 0
Writes old new (Ok x) bytes = Appends old new bytes
Writes old new (Err e) bytes = (front : List ℕ) × IsCut front bytes × Appends old new front
