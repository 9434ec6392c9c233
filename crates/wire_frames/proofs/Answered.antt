-- A value that is all of the bytes, and a reply by its parts.
use Rattle.std.proofs.Common.{◌≡◌, ◌<◌, ℕ, true, false, List, [], ◌∷◌, length, Option, Result, Ok, Err, refl, sym, ap, ◌∙◌, arith}
use Rattle.std.proofs.lemmas.List.{append-nil}
use Rattle.map_types.specs.declared.refusals.Refusal.{Refusal}
use Rattle.map_types.specs.declared.texts.Value.{Value}
use Rattle.map_types.specs.declared.commands.Reply.TheVariants.{Was, Now, Did, Fault}
use Rattle.map_types.specs.declared.commands.FuncError.TheVariants.{WrongKind, TooLong, Overflow}
use Rattle.log_records.specs.Agreement.{IsBytes, Agrees}
use Rattle.log_records.specs.Spelling.{IsArgument, value_bytes}
use Rattle.log_records.specs.Reading.{value_at}
use Rattle.wire_frames.specs.Replies.{reply_body}
use Rattle.wire_frames.specs.Answers.{Answer, IsAnswered, IsReply, reply_status, reply_value}

abbrev pub ArgumentsAgree : Type 0
ArgumentsAgree = Agrees value_at value_bytes IsArgument

-- a value, and what stands behind it
abbrev Reading : Type 0
Reading = Option Value × List ℕ

one_reading : (r : Result Reading Refusal) (a b : Reading) → r ≡ Ok a → r ≡ Ok b → a ≡ b
one_reading r a b p q = cc

module _ (agrees : ArgumentsAgree) (bytes : List ℕ) where
  -- nothing stands behind it
  pub spelled_whole : (value : Option Value) (rest : List ℕ) → IsBytes bytes → length rest < 1 → value_at bytes ≡ Ok (value, rest) → IsArgument value × (bytes ≡ value_bytes value)
  spelled_whole value [] are none read =
      let taken = agrees.takes bytes value [] are read in
      (taken.1, taken.0.parts ∙ append-nil (value_bytes value))
  spelled_whole value (byte ∷ rest) are none read = absurd (omega (arith, none))

  -- what is spelled so is read, and nothing is left
  pub reads_whole : (value : Option Value) → IsArgument value → bytes ≡ value_bytes value → value_at bytes ≡ Ok (value, [])
  reads_whole value fits spelled =
      ap value_at (spelled ∙ sym (append-nil (value_bytes value))) ∙ agrees.again value [] fits

  pub one_value : (found value : Option Value) (rest : List ℕ) → value_at bytes ≡ Ok (found, rest) → IsArgument value → bytes ≡ value_bytes value → found ≡ value
  one_value found value rest read fits spelled =
      ap (λ (reading : Reading). reading.0) (one_reading (value_at bytes) (found, rest) (value, []) read (reads_whole value fits spelled))

  pub none_behind : (found value : Option Value) (rest : List ℕ) → value_at bytes ≡ Ok (found, rest) → IsArgument value → bytes ≡ value_bytes value → rest ≡ []
  none_behind found value rest read fits spelled =
      ap (λ (reading : Reading). reading.1) (one_reading (value_at bytes) (found, rest) (value, []) read (reads_whole value fits spelled))

  pub not_refused : (refusal : Refusal) (value : Option Value) → value_at bytes ≡ Err refusal → IsArgument value → bytes ≡ value_bytes value → ⊥
  not_refused refusal value read fits spelled = let whole = reads_whole value fits spelled in absurd cc

-- ---- the parts of a reply

parts_of : (answer : Answer) → reply_body answer ≡ reply_status answer ∷ value_bytes (reply_value answer)
parts_of (Ok (Was value)) = refl
parts_of (Ok (Now value)) = refl
parts_of (Ok (Did done)) = refl
parts_of (Ok (Fault fault)) = refl
parts_of (Err refusal) = refl

pub value_fits : (answer : Answer) → IsAnswered answer → IsArgument (reply_value answer)
value_fits (Ok (Was value)) fits = fits
value_fits (Ok (Now value)) fits = fits
value_fits (Ok (Did true)) fits = omega arith
value_fits (Ok (Did false)) fits = omega arith
value_fits (Ok (Fault WrongKind)) fits = omega arith
value_fits (Ok (Fault TooLong)) fits = omega arith
value_fits (Ok (Fault Overflow)) fits = omega arith
value_fits (Err refusal) fits = tt

pub value_is : (body : List ℕ) (answer : Answer) (status : ℕ) (rest : List ℕ) → IsReply body answer → body ≡ status ∷ rest → rest ≡ value_bytes (reply_value answer)
value_is body answer status rest is e = let parts = sym e ∙ is.spelled ∙ parts_of answer in cc
