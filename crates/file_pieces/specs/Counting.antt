-- How many device calls a reader's pieces took.
use Rattle.std.specs.Prelude.{◌≡◌, ◌≤◌, ℕ, ◌+◌, List, length}
use Rattle.disk_model.specs.Files.{Files}
use Rattle.file_pieces.specs.Pieces.{ReaderState, end_of, pieces_in}

-- `count` device calls were made
abbrev pub Made : {D : Type 0} → (D → List Files) → ℕ → D → D → Type 0
Made states count old new = length (states new) ≡ length (states old) + count

-- at most `most` device calls were made
abbrev pub MadeAtMost : {D : Type 0} → (D → List Files) → ℕ → D → D → Type 0
MadeAtMost states most old new = length (states new) ≤ length (states old) + most

-- one device call was made for each piece that was read since the reader stood so
abbrev pub ReadsPieces : {D : Type 0} → (D → List Files) → D → D → ReaderState → ReaderState → Type 0
ReadsPieces states old new before after =
    length (states new) + pieces_in (end_of before) ≡ length (states old) + pieces_in (end_of after)

-- not more of them than for reading on as far as this place
abbrev pub ReadsAtMost : {D : Type 0} → (D → List Files) → D → D → ReaderState → ℕ → Type 0
ReadsAtMost states old new before end =
    length (states new) + pieces_in (end_of before) ≤ length (states old) + pieces_in end
