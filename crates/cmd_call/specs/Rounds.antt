-- Lines that are asked together: their requests are sent, and then their replies are read.
use Rattle.std.specs.Prelude.{◌≡◌, ℕ, List, [], ◌∷◌, ◌++◌, None, Some, Ok, Err}
use Rattle.std.specs.Io.KnownBytes.{Appends, Consumes}
use Rattle.wire_frames.specs.declared.receiving.ReplyError.{ReplyError}
use Rattle.wire_frames.specs.Replies.{IsCut, reply_frame}
use Rattle.wire_frames.specs.Answers.{Answer, IsAnswered}
use Rattle.cmd_call.specs.Client.{Known}
use Rattle.cmd_call.specs.Lines.{Asked, Ends, IsLineOf, LosesReply, Tells, first_of, status_of_all}
use Rattle.cmd_call.specs.declared.outcomes.Outcome.{Outcome}
use Rattle.cmd_call.specs.declared.outcomes.Outcome.TheVariants.{Answered, Misused, NoReply}

-- the bytes were sent; or not all of them, and the connection is given up
abbrev pub Sends : Ends → Ends → List ℕ → Type 0
Sends None None bytes = Unit {0}
Sends None (Some new) bytes = ⊥
Sends (Some old) None bytes = (after : Known) × (front : List ℕ) × IsCut front bytes × Appends old.1 after front
Sends (Some old) (Some new) bytes = (new.0 ≡ old.0) × Appends old.1 new.1 bytes

-- the line of an outcome stands behind the text
abbrev pub TellsNext : Outcome → List ℕ → List ℕ → Type 0
TellsNext outcome old new = (line : List ℕ) × IsLineOf outcome line × (new ≡ old ++ line)

-- Fails says that reading a reply ended with an error, of what the reader had left before and has left then.
module _ (Fails : Known → Known → ReplyError → Type 0) where
  -- the next reply came; or reading it failed, and the connection is given up
  abbrev pub Receives : Ends → Ends → Outcome → Type 0
  Receives None None outcome = outcome ≡ NoReply
  Receives None (Some new) outcome = ⊥
  Receives (Some old) None outcome = (outcome ≡ NoReply) × LosesReply Fails old.0
  Receives (Some old) (Some new) outcome =
      (answer : Answer) × (outcome ≡ Answered answer) × IsAnswered answer × Consumes old.0 new.0 (reply_frame answer)
      × (new.1 ≡ old.1)

  -- a request has what is received, and what is no call is told so
  abbrev pub Comes : Ends → Ends → Asked → Outcome → Type 0
  Comes e0 e1 (Ok request) outcome = Receives e0 e1 outcome
  Comes e0 e1 (Err bad) outcome = (e1 ≡ e0) × (outcome ≡ Misused bad)

  -- this came of each, one after another
  abbrev pub ComeAll : Ends → Ends → List Asked → List Outcome → Type 0
  ComeAll e0 e1 [] [] = e1 ≡ e0
  ComeAll e0 e1 [] (outcome ∷ outcomes) = ⊥
  ComeAll e0 e1 (line ∷ asked) [] = ⊥
  ComeAll e0 e1 (line ∷ asked) (outcome ∷ outcomes) = (e : Ends) × Comes e0 e line outcome × ComeAll e e1 asked outcomes

  -- what came of each line is told behind the text, and the status goes on with it
  pub record TellsRound (e0 e1 : Ends) (t0 t1 : List ℕ) (asked : List Asked) (s0 s1 : ℕ) : Type 0 where
    pub outcomes : List Outcome
    pub text : List ℕ
    pub come : ComeAll e0 e1 asked outcomes
    pub tells : Tells outcomes text
    pub told : t1 ≡ t0 ++ text
    pub status_is : s1 ≡ first_of s0 (status_of_all outcomes)
