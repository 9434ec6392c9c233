-- The files that a disk has, as the calls that it makes of them know them.
use Rattle.std.specs.Prelude.{ℕ, ◌<◌, List, Option, Bool, IsTrue, slice_index_or}
use Rattle.disk_model.specs.declared.file_calls.OpenFile.{OpenFile}

-- Each of the four is the file of its number, or that one is absent. is_file says it of a number and a file.
abbrev pub AreFiles : (ℕ → Option OpenFile → Bool) → List (Option OpenFile) → Type 0
AreFiles is_file files = (n : ℕ) → (other : Option OpenFile) → n < 4 → IsTrue (is_file n (slice_index_or files n other))
