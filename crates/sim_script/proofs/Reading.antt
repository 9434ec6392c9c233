-- A script is read line by line.
use Rattle.std.proofs.Common.{◌≡◌, ℕ, ◌+◌, ◌<◌, List, ◌∷◌, ◌++◌, length, drop, map, Result, Ok, Err, Bor, sym, ◌∙◌, ap, get_or, ◌≤◌, Bool, true, false, inl, inr}
use Rattle.std.proofs.lemmas.List.{append-nil, at_drop_all, at_drop_more}
use Rattle.std.specs.Prelude.{filter, if◌then◌else◌}
use Rattle.call_text.specs.Names.{Text}
use Rattle.std.proofs.lemmas.Bool.{false≢true}
use Rattle.sim_script.specs.LineWords.{Gives}
use Rattle.sim_script.specs.declared.bad_line.BadLine.{BadLine}
use Rattle.sim_script.specs.declared.bad_line.BadLine.TheVariants.{Unknown}
use Rattle.sim_script.specs.declared.bad_line.LineError.{LineError}
use Rattle.sim_script.specs.declared.bad_line.LineError.TheVariants.{Bad, NoMemory}
use Rattle.sim_script.specs.declared.line.Line.{Line}
use Rattle.sim_script.specs.Scripts.{Fault, is_written, lines_from, lines_of, numbered, read_line, script_of}

-- what is left, behind the lines that were read
abbrev pub behind : List Line → Result (List Line) Fault → Result (List Line) Fault
behind lines (Ok others) = Ok (lines ++ others)
behind lines (Err fault) = Err fault

abbrev pub lines_left : ℕ → List (Bor Text) → Result (List Line) Fault
lines_left number texts = lines_from number (filter is_written (map (λ text. text.now) texts))

-- an item is the next line
line_at : (number i : ℕ) (texts : List (Bor Text)) (d : Bor Text) → i < length texts → is_written (get_or texts i d).now ≡ true
    → lines_left number (drop i texts) ≡ numbered number (read_line (get_or texts i d).now) (lines_left (number + 1) (drop (i + 1) texts))
line_at number i texts d h some =
    at_drop_more (lines_left number) texts i d h
    ∙ ap (λ b. lines_from number (if b then (get_or texts i d).now ∷ filter is_written (map (λ text. text.now) (drop (i + 1) texts)) else filter is_written (map (λ text. text.now) (drop (i + 1) texts)))) some

pub bad_line_at : (lines : List Line) (number i : ℕ) (texts : List (Bor Text)) (d : Bor Text) (bad : BadLine) → i < length texts → is_written (get_or texts i d).now ≡ true → read_line (get_or texts i d).now ≡ Err bad
    → behind lines (lines_left number (drop i texts)) ≡ Err (number, bad)
bad_line_at lines number i texts d bad h some e =
    ap (behind lines) (line_at number i texts d h some ∙ ap (λ r. numbered number r (lines_left (number + 1) (drop (i + 1) texts))) e)

pub all_lines : (lines : List Line) (number i : ℕ) (texts : List (Bor Text)) → length texts ≤ i → behind lines (lines_left number (drop i texts)) ≡ Ok lines
all_lines lines number i texts h = at_drop_all (λ rest. behind lines (lines_left number rest)) texts i h ∙ ap Ok (append-nil lines)

-- the texts that were collected are all of the script's
pub written : (text : Text) (found texts : List (Bor Text)) → found ≡ texts → map (λ line. line.now) texts ≡ lines_of text → script_of text ≡ lines_left 1 found
unfolding script_of
written text found texts same all = ap (λ lines. lines_from 1 (filter is_written lines)) (sym (ap (map (λ line. line.now)) same ∙ all))

bad_of : LineError → BadLine
bad_of (Bad bad) = bad
bad_of NoMemory = Unknown

is_bad : LineError → Bool
is_bad (Bad bad) = true
is_bad NoMemory = false

-- a line that is called bad is bad
pub called_bad : {read : Result Line BadLine} (error : LineError) (bad : BadLine) → error ≡ Bad bad → Gives (λ line. line) (Err error) read → read ≡ Err bad
unfolding bad_of is_bad
called_bad error bad is (inl e) = absurd (let no : true ≡ false = ap is_bad (sym is ∙ e) in false≢true (sym no))
called_bad error bad is (inr (other, e, r)) = r ∙ ap Err (sym (ap bad_of (sym is ∙ e)))
