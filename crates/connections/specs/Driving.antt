-- What a blocking reader and writer do with a connection.
use Rattle.std.specs.Prelude.{◌≡◌, ◌≢◌, ℕ, List, [], ◌++◌, Option, Result, Ok, Err}
use Rattle.std.specs.Io.KnownBytes.{Appends}
use Rattle.map_types.specs.declared.refusals.Refusal.{Refusal}
use Rattle.wire_frames.specs.declared.requests.Request.{Request}
use Rattle.wire_frames.specs.Messages.{IsPartial}
use Rattle.connections.specs.declared.exchange.Stage.TheVariants.{Open, GivenUp}
use Rattle.connections.specs.Dialogue.{Answer}
use Rattle.connections.specs.Moves.{Move, Leads}
use Rattle.connections.specs.Past.{Past, Standing, IsPast}

module _ {H : Type 0} where
  -- the connection goes on from here: nothing is held or unsent, and if it is open, no whole message is in hand
  abbrev pub IsServed : Standing H → Past H → Type 0
  IsServed left past =
      IsPast past left × (left.places ≡ []) × (left.unsent ≡ []) × (left.stage ≢ GivenUp)
      × (left.stage ≡ Open → IsPartial left.feed.left)

  -- the writer failed: nothing is held, and not all replies were written
  abbrev pub IsBroken : Past H → Type 0
  IsBroken past = (left : Standing H) × IsPast past left × (left.places ≡ []) × (left.unsent ≢ [])

module _ {S H : Type 0} (began : S → Request → Result H Refusal → S → Type 0) (finished : S → H → Answer → S → Type 0)
    (gave_up : S → H → S → Type 0) where
  module _ (w0 w1 : Option (List ℕ)) (s0 s1 : S) where
    -- moves were made and bytes written, behind whatever came of the connection before, and of all this that holds
    abbrev pub Drives : Standing H → (Past H → Type 0) → Type 0
    Drives old holds =
        (moves : List (Move H))
        × (bytes : List ℕ)
        × Leads began finished gave_up s0 moves s1
        × Appends w0 w1 bytes
        × ((past : Past H) → IsPast past old → holds (record past {
          moves = past.moves ++ moves;
          written = past.written
              ++ bytes;
        }))

    -- all that was held was answered, and the replies were written
    abbrev pub AnswersAll : {X E : Type 0} → Standing H → Standing H → Result X E → Type 0
    AnswersAll old new (Ok done) = Drives old (λ past. IsPast past new) × (new.places ≡ []) × (new.unsent ≡ [])
    AnswersAll old new (Err error) = Drives old IsBroken

    -- all whole messages in hand were answered, and the replies were written
    abbrev pub TakesTurns : {X E : Type 0} → Standing H → Standing H → Result X E → Type 0
    TakesTurns old new (Ok done) = Drives old (IsServed new)
    TakesTurns old new (Err error) = Drives old IsBroken
