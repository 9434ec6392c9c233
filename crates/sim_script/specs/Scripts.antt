-- Whole scripts as they are written.
use Rattle.std.specs.Prelude.{◌≡◌, ◌+◌, ℕ, Bool, ◌==◌, not, List, [], ◌∷◌, length, filter, Result, Ok, Err}
use Rattle.std.specs.List.{slice_split}
use Rattle.call_text.specs.Names.{Text}
use Rattle.sim_script.specs.declared.bad_line.BadLine.{BadLine}
use Rattle.sim_script.specs.declared.bad_line.ScriptError.{ScriptError}
use Rattle.sim_script.specs.declared.bad_line.ScriptError.TheVariants as script_error
use Rattle.sim_script.specs.declared.line.Line.{Line}
use Rattle.sim_script.specs.Lines.{line_of}

-- the words of a line, between single spaces
abbrev pub words_of : Text → List Text
words_of line = slice_split (λ byte. byte == 32) line

-- the lines of a text
abbrev pub lines_of : Text → List Text
lines_of text = slice_split (λ byte. byte == 10) text

abbrev pub is_written : Text → Bool
is_written line = not (length line == 0)

unfoldable pub read_line : Text → Result Line BadLine
read_line line = line_of (words_of line)

-- the number of a bad line, and what is wrong with it
abbrev pub Fault : Type 0
Fault = ℕ × BadLine

-- a line, and then the others
abbrev pub followed : Line → Result (List Line) Fault → Result (List Line) Fault
followed line (Ok lines) = Ok (line ∷ lines)
followed line (Err fault) = Err fault

abbrev pub numbered : ℕ → Result Line BadLine → Result (List Line) Fault → Result (List Line) Fault
numbered number (Ok line) lines = followed line lines
numbered number (Err bad) lines = Err (number, bad)

-- the lines of these texts, none of which is empty, counted from this number on, or the first fault
abbrev pub lines_from : ℕ → List Text → Result (List Line) Fault
lines_from number [] = Ok []
lines_from number (text ∷ texts) = numbered number (read_line text) (lines_from (number + 1) texts)

-- the lines of a script, without the empty ones
unfoldable pub script_of : Text → Result (List Line) Fault
script_of text = lines_from 1 (filter is_written (lines_of text))

-- these lines were read, or the first bad one is refused; or memory ran out
abbrev pub Reads : {X : Type 0} → (X → List Line) → Result X ScriptError → Result (List Line) Fault → Type 0
Reads view (Ok lines) read = read ≡ Ok (view lines)
Reads view (Err script_error.NoMemory) read = Unit {0}
Reads view (Err (script_error.Bad number bad)) read = read ≡ Err (number, bad)
