-- The lines of a script.
use Rattle.std.specs.Prelude.{ℕ, List, [], ◌∷◌, if◌then◌else◌, Some, None, Result, Ok, Err, codes}
use Rattle.std.specs.Str.{bytes_eq}
use Rattle.sim_rules.specs.declared.event.Ending.{Ending}
use Rattle.sim_rules.specs.declared.event.Ending.TheVariants.{Done, Fails}
use Rattle.sim_rules.specs.declared.event.Event.{Event}
use Rattle.sim_rules.specs.declared.event.Event.TheVariants as event
use Rattle.sim_rules.specs.declared.event.Side.{Side}
use Rattle.sim_rules.specs.declared.event.Side.TheVariants as side
use Rattle.call_text.specs.Calls.{parse_call}
use Rattle.call_text.specs.Names.{Text}
use Rattle.call_text.specs.Values.{◌>>=◌}
use Rattle.call_text.specs.declared.asked.Asked.{Asked}
use Rattle.call_text.specs.declared.asked.Asked.TheVariants as asked
use Rattle.call_text.specs.declared.bad_word.BadWord.{BadWord}
use Rattle.sim_script.specs.declared.bad_line.BadLine.{BadLine}
use Rattle.sim_script.specs.declared.bad_line.BadLine.TheVariants.{Unknown, Call}
use Rattle.sim_script.specs.declared.line.Form.{Form}
use Rattle.sim_script.specs.declared.line.Form.TheVariants.{Single, Start, Step, Go, Release, Sweep, Capture}
use Rattle.sim_script.specs.declared.line.Line.{Line}
use Rattle.sim_script.specs.LineWords.{fill_of, number_word, stripes_of, worker_of}

abbrev pub line : Form → Event → Line
line form event = record { form = form; event = event }

abbrev pub single : Event → Result Line BadLine
single event = Ok (line Single event)

-- ---- what stands behind the first word

-- nothing
abbrev pub alone : Event → List Text → Result Line BadLine
alone event [] = single event
alone event (word ∷ words) = Err Unknown

-- the number of stripes, and `fail` and the number of the device call that fails, or nothing
unfoldable pub open_of : List Text → Result Line BadLine
open_of (count ∷ []) = do
  stripes ← stripes_of count
  single (event.Open stripes None)
open_of (count ∷ word ∷ number ∷ []) = if bytes_eq word (codes "fail") then (do
  stripes ← stripes_of count
  fails_at ← number_word 64 number
  single (event.Open stripes (Some fails_at))) else Err Unknown
open_of words = Err Unknown

-- what a worker begins
abbrev pub asking : ℕ → Asked → Event
asking worker (asked.Change command) = event.Change worker command
asking worker (asked.Read read) = event.Read worker read

abbrev pub call_in : Result Asked BadWord → Result Asked BadLine
call_in (Ok asked) = Ok asked
call_in (Err word) = Err (Call word)

-- a worker, and the words of a call
unfoldable pub start_of : List Text → Result Line BadLine
start_of [] = Err Unknown
start_of (word ∷ words) = do
  worker ← worker_of word
  call ← call_in (parse_call words)
  Ok (line (Start worker) (asking worker call))

-- a worker
unfoldable pub only_worker : List Text → Result ℕ BadLine
only_worker (word ∷ []) = worker_of word
only_worker words = Err Unknown

unfoldable pub step_of : List Text → Result Line BadLine
step_of words = do
  worker ← only_worker words
  Ok (line (Step worker) (event.Step worker))

unfoldable pub go_of : List Text → Result Line BadLine
go_of words = do
  worker ← only_worker words
  Ok (line (Go worker) (event.Step worker))

unfoldable pub release_of : List Text → Result Line BadLine
release_of words = do
  worker ← only_worker words
  Ok (line (Release worker) (event.Release worker))

abbrev pub sweep_of : List Text → Result Line BadLine
sweep_of [] = Ok (line Sweep event.Sweep)
sweep_of (word ∷ words) = Err Unknown

unfoldable pub stage_of : List Text → Result Line BadLine
stage_of (word ∷ []) = do
  most ← number_word 32 word
  single (event.Stage most)
stage_of words = Err Unknown

unfoldable pub capture_of : List Text → Result Line BadLine
capture_of (word ∷ []) = do
  stripe ← number_word 64 word
  Ok (line Capture (event.Capture stripe))
capture_of words = Err Unknown

-- `ok`, or `fail` and a fill
unfoldable pub ending_of : List Text → Result Ending BadLine
ending_of (word ∷ []) = if bytes_eq word (codes "ok") then Ok Done else Err Unknown
ending_of (word ∷ fill ∷ []) = if bytes_eq word (codes "fail") then (do
  left ← fill_of fill
  Ok (Fails left)) else Err Unknown
ending_of words = Err Unknown

unfoldable pub device_of : Side → List Text → Result Line BadLine
device_of side words = do
  ending ← ending_of words
  single (event.Device side ending)

unfoldable pub stop_of : List Text → Result Line BadLine
stop_of (word ∷ []) = do
  fill ← fill_of word
  single (event.Stop None fill)
stop_of words = Err Unknown

-- the side of a word
abbrev pub side_of : Text → Result Side BadLine
side_of word = if bytes_eq word (codes "log") then Ok side.Log else if bytes_eq word
    (codes "ckpt") then Ok side.Checkpoint else Err Unknown

unfoldable pub stop_in_of : List Text → Result Line BadLine
stop_in_of (word ∷ fill ∷ []) = do
  within ← side_of word
  left ← fill_of fill
  single (event.Stop (Some within) left)
stop_in_of words = Err Unknown

-- ---- whole lines

abbrev pub line_named : Text → List Text → Result Line BadLine
line_named name words =
    if bytes_eq name (codes "old") then alone event.Old words
    else if bytes_eq name (codes "open") then open_of words
    else if bytes_eq name (codes "start") then start_of words
    else if bytes_eq name (codes "step") then step_of words
    else if bytes_eq name (codes "go") then go_of words
    else if bytes_eq name (codes "release") then release_of words
    else if bytes_eq name (codes "sweep") then sweep_of words
    else if bytes_eq name (codes "stage") then stage_of words
    else if bytes_eq name (codes "log") then device_of side.Log words
    else if bytes_eq name (codes "publish") then alone event.Publish words
    else if bytes_eq name (codes "fail") then alone event.Fail words
    else if bytes_eq name (codes "begin") then alone event.Begin words
    else if bytes_eq name (codes "capture") then capture_of words
    else if bytes_eq name (codes "seal") then alone event.Seal words
    else if bytes_eq name (codes "ckpt") then device_of side.Checkpoint words
    else if bytes_eq name (codes "stop") then stop_of words
    else if bytes_eq name (codes "stop-in") then stop_in_of words
    else if bytes_eq name (codes "leave") then alone event.Leave words
    else Err Unknown

-- the line of these words
unfoldable pub line_of : List Text → Result Line BadLine
line_of [] = Err Unknown
line_of (name ∷ words) = line_named name words
