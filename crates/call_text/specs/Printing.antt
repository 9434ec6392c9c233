-- What is printed on a stream, and the status that goes with it.
use Rattle.std.specs.Prelude.{◌≡◌, ◌⊎◌, ℕ, List, Option}
use Rattle.std.specs.Io.KnownBytes.{Appends}
use Rattle.wire_frames.specs.Replies.{IsCut}

-- nothing was printed, or the text, or not all of it if the writer failed
abbrev pub PrintsAtMost : List ℕ → Option (List ℕ) → Option (List ℕ) → Type 0
PrintsAtMost text w0 w1 = (w1 ≡ w0) ⊎ (Appends w0 w1 text ⊎ ((front : List ℕ) × IsCut front text × Appends w0 w1 front))

-- The text was written, with status 0. Or the status is 1: nothing was written if no memory was found for it, or a part
-- of it if the writer failed.
abbrev pub Prints : List ℕ → Option (List ℕ) → Option (List ℕ) → ℕ → Type 0
Prints text w0 w1 status =
    ((status ≡ 0) × Appends w0 w1 text) ⊎ ((status ≡ 1)
    × ((w1 ≡ w0) ⊎ ((front : List ℕ) × IsCut front text × Appends w0 w1 front)))

-- nothing was written, with status 1
abbrev pub PrintsNothing : Option (List ℕ) → Option (List ℕ) → ℕ → Type 0
PrintsNothing w0 w1 status = (w1 ≡ w0) × (status ≡ 1)
