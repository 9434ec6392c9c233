-- An input whose lines are answered while it is read.
use Rattle.std.specs.Prelude.{◌≡◌, ◌⊎◌, ℕ, List, [], ◌++◌, map, take, length, ◌<◌, Result, Ok, Err}
use Rattle.std.specs.List.{AllByRecursion, flat_map}
use Rattle.std.specs.Io.KnownBytes.{Consumes, IsAtEnd}
use Rattle.call_text.specs.Names.{Text}
use Rattle.wire_frames.specs.declared.receiving.ReplyError.{ReplyError}
use Rattle.cmd_call.specs.Client.{Known}
use Rattle.cmd_call.specs.Lines.{Answers, Asked, BreaksOff, Divides, Ends, IsLine, asked_in, ended, last_line}
use Rattle.cmd_call.specs.declared.rounds.Stop.{Stop}

-- ---- what is read

-- the reader gave the first bytes of the room, none only at its end; or it failed, and gave none
abbrev pub Gave : Known → Known → List ℕ → Result ℕ Stop → Type 0
Gave i0 i1 room (Ok len) = Consumes i0 i1 (take len room) × (len ≡ 0 → 0 < length room → IsAtEnd i1)
Gave i0 i1 room (Err stop) = Consumes i0 i1 []

-- Fails says that reading a reply ended with an error, of what the reader had left before and has left then.
module _ (Fails : Known → Known → ReplyError → Type 0) where
  -- ---- while it is read

  -- the first of these whole lines were answered, and the others are still to be asked
  pub record Underway (e0 e1 : Ends) (o0 o1 : Known) (whole : List Text) (asked : List Asked)
      (status : ℕ) : Type 0 where
    pub answered : List Text
    pub waiting : List Text
    pub are : whole ≡ answered ++ waiting
    pub answers : Answers Fails e0 e1 o0 o1 (map asked_in answered) 0 status
    pub asked_are : asked ≡ map asked_in waiting

  -- the bytes are whole lines that are answered or still to be asked, and a part of a line
  pub record Reads (bytes : List ℕ) (part : Text) (e0 e1 : Ends) (o0 o1 : Known) (asked : List Asked)
      (status : ℕ) : Type 0 where
    pub whole : List Text
    pub divides : Divides bytes whole part
    pub underway : Underway e0 e1 o0 o1 whole asked status

  -- for the first of these lines a beginning of what came of them was printed
  pub record Breaks (e0 : Ends) (o0 o1 : Known) (lines : List Text) : Type 0 where
    pub first : List Text
    pub others : List Text
    pub are : lines ≡ first ++ others
    pub breaks : BreaksOff Fails e0 o0 o1 (map asked_in first)

  -- the same for the first lines of the bytes
  pub record StopsAt (bytes : List ℕ) (e0 : Ends) (o0 o1 : Known) : Type 0 where
    pub lines : List Text
    pub rest : List ℕ
    pub parts : bytes ≡ flat_map ended lines ++ rest
    pub each : AllByRecursion IsLine lines
    pub breaks : BreaksOff Fails e0 o0 o1 (map asked_in lines)

  -- ---- what came of it

  -- each line of the input was asked, and what came of it printed; what stands behind the last whole line is a line too
  pub record AnswersAll (i0 i1 : Known) (e0 : Ends) (o0 o1 : Known) (status : ℕ) : Type 0 where
    pub bytes : List ℕ
    pub whole : List Text
    pub part : Text
    pub after : Ends
    pub read : Consumes i0 i1 bytes
    pub at_end : IsAtEnd i1
    pub divides : Divides bytes whole part
    pub answers : Answers Fails e0 after o0 o1 (map asked_in (whole ++ last_line part)) 0 status

  -- memory, the input or the output failed: for the first lines that were read a beginning of what came of them was
  -- printed
  pub record AnswersSome (i0 i1 : Known) (e0 : Ends) (o0 o1 : Known) : Type 0 where
    pub bytes : List ℕ
    pub read : Consumes i0 i1 bytes
    pub stops : StopsAt bytes e0 o0 o1 ⊎ StopsAt (ended bytes) e0 o0 o1

  abbrev pub AnswersInput : Known → Known → Ends → Known → Known → Result ℕ Stop → Type 0
  AnswersInput i0 i1 e0 o0 o1 (Ok status) = AnswersAll i0 i1 e0 o0 o1 status
  AnswersInput i0 i1 e0 o0 o1 (Err stop) = AnswersSome i0 i1 e0 o0 o1
