-- The command lines that are known, as the library that reads them sees them.
use Rattle.std.specs.Prelude.{◌≡◌, ◌⊎◌, ℕ, Bool, true, false, List, [], map, Option, None, Some, codes, option_map}
use Rattle.std.specs.Prelude.{unwrap_or}
use Rattle.clap.specs.Words.{App, Row, Rule, Text, IsAmong, Kinds, all_of, fault_of, first_of, new_app, new_rule}
use Rattle.clap.specs.Words.{one_of, subcommand_of, with_rule, with_subcommand}
use Rattle.clap.specs.Simple.{on_top}
use Rattle.clap.specs.Lexer.{usize_max}
use Rattle.clap.specs.declared.builder.action.ArgAction.TheVariants.{Set, Append, SetTrue}
use Rattle.std.specs.Borrow.{Bor}
use Rattle.cmd_call.specs.declared.places.PlaceWords.{PlaceWords}
use Rattle.cmd_serve.specs.declared.settings.ServerWords.{ServerWords}
use Rattle.map_server.specs.declared.order.Order.{Order}
use Rattle.map_server.specs.declared.order.Order.TheVariants.{Mem, Init, Check, Serve, Call, Sim}
use Rattle.clap.specs.declared.error.kind.ErrorKind.{ErrorKind}
use Rattle.clap.specs.declared.error.kind.ErrorKind.TheVariants.{DisplayHelp, DisplayVersion, OutOfMemory}

-- the directory's name, which is wanted
abbrev pub directory_rule : Rule
directory_rule = record (new_rule (codes "DIR")) { required = true; action = Some Set }

-- an option of this name that takes a value
abbrev pub option_rule : Text → Rule
option_rule name = record (new_rule name) { long = Some name; action = Some Set; value_names = 1 }

-- an option of this name that takes no value
abbrev pub flag_rule : Text → Rule
flag_rule name = record (new_rule name) { long = Some name; action = Some SetTrue }

-- the words of a call, at least one: with the first of them they begin, and each behind it is one, whatever it looks
-- like
abbrev pub words_rule : Rule
words_rule = record (new_rule (codes "METHOD")) {
  required = true;
  action = Some Append;
  range = Some (record { start_inclusive = 1; end_inclusive = usize_max });
  value_names = 2;
  trailing_var_arg = true;
}

-- a file's name, which is wanted
abbrev pub file_rule : Rule
file_rule = record (new_rule (codes "FILE")) { required = true; action = Some Set }

abbrev pub mem_line : App
mem_line = new_app (codes "mem")

abbrev pub init_line : App
init_line = with_rule (with_rule (new_app (codes "init")) directory_rule) (option_rule (codes "stripes"))

abbrev pub check_line : App
check_line = with_rule (new_app (codes "check")) directory_rule

-- the line, with the options that name the places of a server
abbrev pub with_places : App → App
with_places line = with_rule (with_rule (with_rule line (option_rule (codes "port"))) (option_rule (codes "socket")))
    (option_rule (codes "socket-mode"))

abbrev pub serve_line : App
serve_line =
    with_rule (with_rule (with_rule (with_rule
    (with_rule (with_rule (with_rule (with_rule
    (with_rule (with_rule (with_rule (with_rule (new_app (codes "serve")) directory_rule)
    (option_rule (codes "port"))) (option_rule (codes "socket"))) (option_rule (codes "socket-mode")))
    (option_rule (codes "stripes"))) (option_rule (codes "workers"))) (option_rule (codes "connections")))
    (option_rule (codes "checkpoint-bytes"))) (option_rule (codes "idle-seconds"))) (option_rule (codes "log-ahead")))
    (option_rule (codes "report-seconds"))) (flag_rule (codes "standby"))

abbrev pub call_line : App
call_line = with_rule (with_rule (with_rule (with_rule (new_app (codes "call")) (option_rule (codes "port")))
    (option_rule (codes "socket"))) (option_rule (codes "timeout-ms"))) words_rule

abbrev pub sim_line : App
sim_line = with_rule (new_app (codes "sim")) file_rule

-- `dchm` with no subcommand, which it wants; it has a version
abbrev pub bare_line : App
bare_line = on_top (λ s. record s { subcommand_required = true; has_version = true }) (new_app (codes "dchm"))

-- `dchm`, which wants one of its subcommands
abbrev pub command_line : App
command_line =
    with_subcommand (with_subcommand (with_subcommand
    (with_subcommand
    (with_subcommand (with_subcommand bare_line mem_line.top) init_line.top) check_line.top) serve_line.top)
    call_line.top) sim_line.top

-- what is wrong with the words, the program's name first, or help if they ask for it; nothing if they are known
abbrev pub faults : List Text → Kinds
faults words = fault_of command_line words

-- the subcommand that the words name, and what they give its arguments
abbrev pub named_by : List Text → Option (Text × List Row)
named_by words = subcommand_of command_line words

abbrev pub name_of : Option (Text × List Row) → Option Text
name_of named = option_map (λ line. line.0) named

-- ---- what is asked for

-- the word that is given for an argument, or another if none is
abbrev pub word_or : Text → Text → List Row → Text
word_or other id rows = unwrap_or (first_of id rows) other

abbrev pub directory_in : List Row → Text
directory_in rows = word_or [] (codes "DIR") rows

-- `--stripes S`, which is 16 if left out
abbrev pub stripes_in : List Row → Text
stripes_in rows = word_or (codes "16") (codes "stripes") rows

-- the words from METHOD on
abbrev pub call_in : List Row → List Text
call_in rows = unwrap_or (all_of (codes "METHOD") rows) []

abbrev pub word_of : Option (Bor Text) → Option Text
word_of word = option_map (λ w. w.now) word

-- the option that takes no value is given, or it isn't
pub record GivesFlag (id : Text) (rows : List Row) (is_given : Bool) : Type 0 where
  pub absent : one_of id rows ≡ None → is_given ≡ false
  pub default : one_of id rows ≡ Some (codes "false") → is_given ≡ false
  pub given : one_of id rows ≡ Some (codes "true") → is_given ≡ true

-- What `serve` is given. The port, the path and the seconds of records may be left out; then 600, 4 workers, 10000
-- connections, 67108864 bytes, 0 seconds and 1048576 zeros, each if it is left out.
pub record GivesServer (rows : List Row) (words : ServerWords) : Type 0 where
  pub directory : words.directory.now ≡ directory_in rows
  pub standby : GivesFlag (codes "standby") rows words.standby
  pub port : word_of words.port ≡ first_of (codes "port") rows
  pub socket : word_of words.socket ≡ first_of (codes "socket") rows
  pub mode : words.mode.now ≡ word_or (codes "600") (codes "socket-mode") rows
  pub stripes : words.stripes.now ≡ stripes_in rows
  pub workers : words.workers.now ≡ word_or (codes "4") (codes "workers") rows
  pub connections : words.connections.now ≡ word_or (codes "10000") (codes "connections") rows
  pub bytes : words.checkpoint_bytes.now ≡ word_or (codes "67108864") (codes "checkpoint-bytes") rows
  pub idle : words.idle_seconds.now ≡ word_or (codes "0") (codes "idle-seconds") rows
  pub ahead : words.log_ahead.now ≡ word_or (codes "1048576") (codes "log-ahead") rows
  pub report : word_of words.report_seconds ≡ first_of (codes "report-seconds") rows

-- where the server of a call is, by a port or a path, each of which may be left out; and for how many milliseconds it
-- is waited for, 10000 if that is left out
pub record GivesPlace (rows : List Row) (at : PlaceWords) : Type 0 where
  pub port : word_of at.port ≡ first_of (codes "port") rows
  pub socket : word_of at.socket ≡ first_of (codes "socket") rows
  pub timeout : at.timeout_ms.now ≡ word_or (codes "10000") (codes "timeout-ms") rows

-- this subcommand is named, and its arguments are given so
abbrev pub Names : Option (Text × List Row) → Text → (List Row → Type 0) → Type 0
Names named name Given = (rows : List Row) × (named ≡ Some (name, rows)) × Given rows

-- the subcommand that is named, with what it is given, asks for this
abbrev pub Asks : Option (Text × List Row) → Order → Type 0
Asks named Mem = Names named (codes "mem") (λ rows. Unit {0})
Asks named (Init directory stripes) =
    Names named (codes "init") (λ rows. (directory.now ≡ directory_in rows) × (stripes.now ≡ stripes_in rows))
Asks named (Check directory) = Names named (codes "check") (λ rows. directory.now ≡ directory_in rows)
Asks named (Serve words) = Names named (codes "serve") (λ rows. GivesServer rows words)
Asks named (Call at words) =
    Names named (codes "call") (λ rows. GivesPlace rows at × (map (λ word. word.now) words.items ≡ call_in rows))
Asks named (Sim file) = Names named (codes "sim") (λ rows. file.now ≡ word_or [] (codes "FILE") rows)

-- ---- words that have a fault

-- no memory was found, and nothing was written to the output
abbrev pub FindsNoMemory : Option (List ℕ) → Option (List ℕ) → ℕ → Type 0
FindsNoMemory w0 w1 status = (status ≡ 1) × (w1 ≡ w0)

-- What the program does with words of this fault: it writes help to the output, with status 0; for another fault it
-- writes nothing there, and the status is 2.
abbrev pub Advises : ErrorKind → Option (List ℕ) → Option (List ℕ) → ℕ → Type 0
Advises DisplayHelp w0 w1 status = (status ≡ 0) ⊎ FindsNoMemory w0 w1 status
Advises DisplayVersion w0 w1 status = (status ≡ 0) ⊎ FindsNoMemory w0 w1 status
Advises OutOfMemory w0 w1 status = FindsNoMemory w0 w1 status
Advises fault w0 w1 status = ((status ≡ 2) × (w1 ≡ w0)) ⊎ FindsNoMemory w0 w1 status

-- the words have one of these faults, or no memory was found to read them
pub record Misuses (kinds : Kinds) (w0 w1 : Option (List ℕ)) (status : ℕ) : Type 0 where
  pub fault : ErrorKind
  pub is : (fault ≡ OutOfMemory) ⊎ IsAmong fault kinds
  pub advises : Advises fault w0 w1 status
