-- What the words of `dchm call` ask for, and what came of it.
use Rattle.std.specs.Prelude.{◌≡◌, ◌⊎◌, ℕ, Bool, true, false, List, [], ◌∷◌, None, Some, Result, MatchResult, codes}
use Rattle.std.specs.Str.{bytes_eq}
use Rattle.std.specs.declared.io.Error.{Error}
use Rattle.call_text.specs.Names.{Text}
use Rattle.call_text.specs.Whole.{parse_words}
use Rattle.wire_frames.specs.declared.receiving.ReplyError.{ReplyError}
use Rattle.cmd_call.specs.declared.places.PlaceWords.{PlaceWords}
use Rattle.cmd_call.specs.declared.servers.Server.{Server}
use Rattle.cmd_call.specs.Places.{NamesNoServer, NamesServer}
use Rattle.cmd_call.specs.Client.{CallsServer, Known, PrintsMisuse}
use Rattle.cmd_call.specs.Lines.{Ends}
use Rattle.cmd_call.specs.Inputs.{AnswersInput}
use Rattle.cmd_call.specs.declared.rounds.Stop.{Stop}

-- `-` alone asks for the lines of the input
abbrev pub asks_lines : List Text → Bool
asks_lines [] = false
asks_lines (word ∷ []) = bytes_eq word (codes "-")
asks_lines (word ∷ next ∷ words) = false

-- IsConnected says of a reader and a writer that they are the ends of a new connection to a server. IsUnreachable says
-- that a connection to a server was tried, and there was none, for an error. Fails says that reading a reply ended with
-- an error, of what the reader had left before and has left then.
module _ {R W : Type 0} (Fails : Known → Known → ReplyError → Type 0) (remaining : R → Known) (contents : W → Known)
    (IsConnected : Server → R → W → Type 0)
    (IsUnreachable : Server → Error → Type 0) where
  -- a new connection to the server; or none, as one was tried and couldn't be had, for an error
  abbrev pub Connects : Server → Ends → Type 0
  Connects server None = (error : Error) × IsUnreachable server error
  Connects server (Some ends) =
      (reader : R) × (writer : W) × IsConnected server reader writer × (ends ≡ (remaining reader, contents writer))

  -- the lines of the input were answered over such a connection, or without one; if memory, the input or the output
  -- failed, the status is 1
  pub record AnswersAt (server : Server) (i0 i1 o0 o1 : Known) (status : ℕ) : Type 0 where
    pub ends : Ends
    pub result : Result ℕ Stop
    pub connects : Connects server ends
    pub answers : AnswersInput Fails i0 i1 ends o0 o1 result
    pub status_is : MatchResult result (λ first. status ≡ first) (λ stop. status ≡ 1)

  -- If the words name no server, nothing is read or printed, with status 2.
  abbrev pub CallsLines : PlaceWords → Known → Known → Known → Known → ℕ → Type 0
  CallsLines at i0 i1 o0 o1 status =
      (NamesNoServer at × (i1 ≡ i0) × PrintsMisuse o0 o1 status)
      ⊎ ((server : Server) × NamesServer at server × AnswersAt server i0 i1 o0 o1 status)

  -- for one call nothing is read of the input
  pub record MakesCalls (at : PlaceWords) (words : List Text) (i0 i1 o0 o1 : Known) (status : ℕ) : Type 0 where
    pub lines : asks_lines words ≡ true → CallsLines at i0 i1 o0 o1 status
    pub one : asks_lines words ≡ false → (i1 ≡ i0) × CallsServer remaining contents IsConnected IsUnreachable at
        (parse_words words) o0 o1 status
