-- What a step of one pass does to the words, and to what other passes did and saw.
use Rattle.std.specs.Prelude.{◌≡◌, ◌≢◌, ◌⊎◌, ℕ, ◌+◌, max, List, [], ◌∷◌, ◌++◌, length, true, not}
use Rattle.map_types.specs.declared.commands.Command.{Command}
use Rattle.map_types.specs.declared.commands.Reply.{Reply}
use Rattle.ticket_order.specs.declared.stripe.Entry.{Entry}
use Rattle.ticket_order.specs.declared.record.StepMade.{StepMade}
use Rattle.ticket_order.specs.declared.record.StepMade.TheVariants.{Took, FoundHeld, Gave, Drew, Looked, Published, Saw}
use Rattle.ticket_order.specs.declared.record.StepMade.TheVariants.{Failed, FoundAlive}
use Rattle.ticket_order.specs.declared.record.Asked.TheVariants.{Changing}
use Rattle.ticket_order.specs.declared.record.Call.{Call}
use Rattle.ticket_order.specs.declared.record.Record.{Record}
use Rattle.ticket_order.specs.Records.{call, past, reach}
use Rattle.ticket_order.specs.Legality.{entries_from, entries_of, last_of}
use Rattle.ticket_order.specs.StepRules.{Rises}
use Rattle.one_history.specs.declared.book.Book.{Book}
use Rattle.one_history.specs.Turns.{record_of, pass_step}
use Rattle.one_history.specs.OneHistory.{HoldsStripe}

-- no pass holds the stripe
abbrev pub IsFree : ℕ → Book → Type 0
IsFree i b = (j : ℕ) → HoldsStripe b j i → ⊥

-- another pass than j holds the stripe
pub record IsHeldByAnother (j i : ℕ) (b : Book) : Type 0 where
  pub holder : ℕ
  pub other : holder ≢ j
  pub holds : HoldsStripe b holder i

pub record SameHistory (b b' : Book) : Type 0 where
  pub history : b'.history ≡ b.history
  pub authors : b'.authors ≡ b.authors

-- no word changes but a stripe's
pub record SameWords (b b' : Book) : Type 0 where
  pub same : SameHistory b b'
  pub effects : b'.effects ≡ b.effects

-- the history gains at its end the change of this call, which is the pass's next
pub record GainsOne (j t : ℕ) (b b' : Book) : Type 0 where
  pub command : Command
  pub reply : Reply
  pub history : b'.history ≡ b.history ++ command ∷ []
  pub authors : b'.authors ≡ b.authors ++ j ∷ []
  pub effects : b'.effects ≡ b.effects
  pub ticket_is : t ≡ b.opening.first + length b.history
  pub calls : (record_of j b').calls ≡ (record_of j b).calls ++ call (t + 1) (Changing command) reply ∷ []

-- the entries that this GIVE kept for a sweep are those that the pass's record gained
pub record GainsTaken (j : ℕ) (b b' : Book) : Type 0 where
  pub entries : List Entry
  pub effects : b'.effects ≡ record b.effects { taken = b.effects.taken ++ entries }
  pub taken : (record_of j b').taken ≡ (record_of j b).taken ++ entries

abbrev pub WordsMove : ℕ → StepMade → Book → Book → Type 0
WordsMove j (Took i es last) b b' = SameWords b b' × IsFree i b
WordsMove j (FoundHeld i) b b' = SameWords b b' × IsHeldByAnother j i b
WordsMove j (Gave i) b b' = SameHistory b b' × GainsTaken j b b'
WordsMove j (Drew t) b b' = GainsOne j t b b'
WordsMove j (Looked q) b b' = SameWords b b' × (q ≡ b.opening.first + length b.history)
WordsMove j (Published x) b b' =
    SameHistory b b' × (b'.effects ≡ record b.effects { durable = max b.effects.durable x })
WordsMove j (Saw d) b b' = SameWords b b' × (d ≡ b.effects.durable)
WordsMove j Failed b b' = SameHistory b b' × (b'.effects ≡ record b.effects { failed = true })
WordsMove j (FoundAlive is_alive) b b' = SameWords b b' × (is_alive ≡ not b.effects.failed)

-- the entries of the stripe's changes that no sweep took
abbrev pub IsOutbox : Book → ℕ → List Entry → Type 0
IsOutbox b i es =
    entries_of b.stripes i (entries_from b.opening.first b.history) ≡ entries_of b.stripes i b.effects.taken ++ es

-- one past the greatest ticket of the stripe's changes
abbrev pub IsLastOf : Book → ℕ → ℕ → Type 0
IsLastOf b i last = last ≡ last_of b.stripes i b.opening.first b.history

-- the pass has made no further call, and seen no more
pub record SeesNoMore (v w : Record) : Type 0 where
  pub calls : w.calls ≡ v.calls
  pub reach : reach w ≡ reach v

-- the pass has made one call more, and seen up to n if that was more
pub record SeesRead (v : Record) (n : ℕ) (w : Record) : Type 0 where
  pub read : Call
  pub calls : w.calls ≡ v.calls ++ read ∷ []
  pub rises : Rises v n w

-- How a step of the pass j raises the greatest position that it has seen. A TAKE raises it to one past the greatest
-- ticket in the outbox, and finds the stripe's `last`. A LOOK and a SEE raise it to what they found, and a TICKET to
-- one past its ticket. A GIVE that makes a read raises it to one past the last ticket of its stripe.
abbrev pub Raises : ℕ → StepMade → Book → Book → Type 0
Raises j (Took i es last) b b' = Rises (record_of j b) (past es) (record_of j b') × IsOutbox b i es × IsLastOf b i last
Raises j (Drew t) b b' = reach (record_of j b') ≡ t + 1
Raises j (Looked q) b b' = reach (record_of j b') ≡ q
Raises j (Saw d) b b' = Rises (record_of j b) d (record_of j b')
Raises j (Gave i) b b' = SeesNoMore (record_of j b) (record_of j b')
    ⊎ SeesRead (record_of j b) (last_of b.stripes i b.opening.first b.history) (record_of j b')
Raises j step b b' = reach (record_of j b') ≡ reach (record_of j b)

-- One step of the pass j. It stands last in the one order, behind all that were made before it.
pub record BookMoves (j : ℕ) (made : StepMade) (b b' : Book) : Type 0 where
  pub opening : b'.opening ≡ b.opening
  pub stripes : b'.stripes ≡ b.stripes
  pub passes : length b'.passes ≡ length b.passes
  pub others : (l : ℕ) → l ≢ j → record_of l b' ≡ record_of l b
  pub order : b'.interleaving ≡ b.interleaving ++ pass_step j made ∷ []
  pub words : WordsMove j made b b'
  pub raises : Raises j made b b'
