-- Readers and spellings that fit together.
use Rattle.std.specs.Prelude.{◌≡◌, ◌<◌, ℕ, List, ◌++◌, length, take, slice_index, Result, Ok, Err}
use Rattle.map_types.specs.declared.refusals.Refusal.{Refusal}
use Rattle.map_types.specs.declared.refusals.Refusal.TheVariants.{BadFrame}

-- each item is a byte
abbrev pub IsBytes : List ℕ → Type 0
IsBytes bytes = (i : ℕ) → slice_index bytes i < 256

-- this text stands at the front of the bytes, and the rest behind it
pub record Takes (bytes text rest : List ℕ) : Type 0 where
  pub parts : bytes ≡ text ++ rest
  pub rest_fits : IsBytes rest

-- What is read was spelled so, and what is spelled so is read again, whatever follows it.
pub record Agrees {A : Type 0} (read : List ℕ → Result (A × List ℕ) Refusal) (bytes_of : A → List ℕ)
    (Fits : A → Type 0) : Type 0 where
  pub takes : (bytes : List ℕ) (x : A) (rest : List ℕ) → IsBytes bytes → read bytes ≡ Ok (x, rest)
      → Takes bytes (bytes_of x) rest × Fits x
  pub again : (x : A) (rest : List ℕ) → Fits x → read (bytes_of x ++ rest) ≡ Ok (x, rest)

-- If bytes are missing at the end, reading refuses just that.
abbrev pub RefusesCuts : {A : Type 0} → (List ℕ → Result (A × List ℕ) Refusal) → (A → List ℕ) → (A → Type 0) → Type 0
RefusesCuts {A = A} read bytes_of Fits =
    (x : A) (n : ℕ) → Fits x → n < length (bytes_of x) → read (take n (bytes_of x)) ≡ Err BadFrame
