-- What was read of a request, and its spelling at the front of the bytes.
use Rattle.std.proofs.Common.{◌≡◌, ◌⊎◌, ℕ, suc, Bool, true, false, cond, List, ◌∷◌, ◌++◌, Result, Ok, refl, subst, inl, inr}
use Rattle.map_types.specs.declared.refusals.Refusal.{Refusal}
use Rattle.map_types.specs.declared.texts.Value.{Value}
use Rattle.log_records.specs.Agreement.{IsBytes, Agrees}
use Rattle.log_records.specs.Spelling.{IsValue, value_bytes}
use Rattle.log_records.specs.Reading.{some_value_at}
use Rattle.std.proofs.Common.{Some}
use Rattle.wire_frames.specs.declared.requests.Request.{Request}
use Rattle.wire_frames.specs.Requests.{request_bytes, IsAsked}

abbrev pub ValuesAgree : Type 0
ValuesAgree = Agrees some_value_at (λ (value : Value). value_bytes (Some value)) IsValue

-- what was read, and what stands behind it
abbrev pub Reading : Type 0
Reading = Result (Request × List ℕ) Refusal

abbrev pub done : Request × List ℕ → Reading
done read = Ok read

pub bytes_behind : (byte : ℕ) (bytes : List ℕ) → IsBytes (byte ∷ bytes) → IsBytes bytes
bytes_behind byte bytes are i = are (suc i)

-- a test that chose between two readings
pub chosen : {A : Type 0} (b : Bool) (r s read : A) → cond b r s ≡ read → ((b ≡ true) × (r ≡ read)) ⊎ ((b ≡ false) × (s ≡ read))
chosen true r s read e = inl (refl, e)
chosen false r s read e = inr (refl, e)

-- the spelling of what was read stands at the front
abbrev pub Front : List ℕ → Request × List ℕ → Type 0
Front bytes read = (bytes ≡ request_bytes read.0 ++ read.1) × IsAsked read.0

pub front_is : (bytes : List ℕ) (made read : Request × List ℕ) → done made ≡ done read → Front bytes made → Front bytes read
front_is bytes made read e front = let is : made ≡ read = cc in subst (Front bytes) is front
