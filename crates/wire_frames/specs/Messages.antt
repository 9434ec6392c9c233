-- The division of a stream into request frames, and what each says.
use Rattle.std.specs.Prelude.{◌≡◌, ◌⊎◌, ℕ, ◌+◌, ◌*◌, ◌<◌, ◌≤◌, List, [], ◌∷◌, ◌++◌, length, Result, Ok, Err}
use Rattle.std.specs.Int.{w16, to_be_bytes}
use Rattle.std.specs.List.{flat_map, AllByRecursion, AllZip}
use Rattle.map_types.specs.declared.refusals.Refusal.{Refusal}
use Rattle.map_types.specs.declared.refusals.Refusal.TheVariants.{BadFrame, NoMemory}
use Rattle.wire_frames.specs.declared.requests.Bulk.{Bulk as WholeMap}
use Rattle.wire_frames.specs.declared.requests.Request.{Request}
use Rattle.wire_frames.specs.declared.requests.Request.TheVariants.{Bulk}
use Rattle.wire_frames.specs.Requests.{request_of}

-- a length of two bytes, and that many bytes
abbrev pub frame : List ℕ → List ℕ
frame body = to_be_bytes w16 (length body) ++ body

-- ---- the division

-- what may stand behind the length of a request frame
abbrev pub IsBody : List ℕ → Type 0
IsBody body = (0 < length body) × (length body ≤ 16384)

-- less than a whole request frame
abbrev pub IsPartial : List ℕ → Type 0
IsPartial [] = Unit {0}
IsPartial (high ∷ []) = Unit {0}
IsPartial (high ∷ low ∷ bytes) = let len = 256 * high + low in (0 < len) × (len ≤ 16384) × (length bytes < len)

-- a length that is refused, and anything behind it
abbrev pub IsRefusedLength : List ℕ → Type 0
IsRefusedLength [] = ⊥
IsRefusedLength (high ∷ []) = ⊥
IsRefusedLength (high ∷ low ∷ bytes) = let len = 256 * high + low in (len ≡ 0) ⊎ (16384 < len)

-- the stream is the frames of these bodies, and then less than a frame, or a refused length
pub record Splits (stream : List ℕ) (bodies : List (List ℕ)) (rest : List ℕ) : Type 0 where
  pub parts : stream ≡ flat_map frame bodies ++ rest
  pub each : AllByRecursion IsBody bodies
  pub ended : IsPartial rest ⊎ IsRefusedLength rest

-- the elements are bytes
abbrev pub AreBytes : List ℕ → Type 0
AreBytes stream = AllByRecursion (λ byte. byte < 256) stream

-- two divisions of one stream are the same
abbrev pub OneDivision : Type 0
OneDivision = (stream : List ℕ) (bodies others : List (List ℕ)) (rest left : List ℕ) → Splits stream bodies rest
    → Splits stream others left → (bodies ≡ others) × (rest ≡ left)

-- every list of bytes has a division
abbrev pub EveryDivision : Type 0
EveryDivision =
    (stream : List ℕ) → AreBytes stream → (bodies : List (List ℕ)) × (rest : List ℕ) × Splits stream bodies rest

-- ---- the messages

-- a request, or the refusal that stands in its place
abbrev pub Message : Type 0
Message = Result Request Refusal

-- the message asks something of the whole map
abbrev pub AsksWholeMap : Message → Type 0
AsksWholeMap message = (bulk : WholeMap) × (message ≡ Ok (Bulk bulk))

-- what a frame says: what its bytes say, or that no memory was found to read it
abbrev pub Says : List ℕ → Message → Type 0
Says body message = (message ≡ Err NoMemory) ⊎ (message ≡ request_of body)

-- the stream begins with these messages, and the rest stands behind them
pub record Begins (stream : List ℕ) (messages : List Message) (rest : List ℕ) : Type 0 where
  pub bodies : List (List ℕ)
  pub parts : stream ≡ flat_map frame bodies ++ rest
  pub each : AllByRecursion IsBody bodies
  pub said : AllZip Says bodies messages

-- the first messages of the stream; if a length is refused, the last of them may stand for it
abbrev pub FirstMessages : List ℕ → List Message → Type 0
FirstMessages stream messages =
    ((rest : List ℕ) × Begins stream messages rest)
    ⊎ ((front : List Message) × (rest : List ℕ) × Begins stream front rest × IsRefusedLength rest
    × (messages ≡ front ++ Err BadFrame ∷ []))

-- all messages of the stream, if it has no refused length
abbrev pub AllMessages : List ℕ → List Message → Type 0
AllMessages stream messages = (rest : List ℕ) × Begins stream messages rest × IsPartial rest
