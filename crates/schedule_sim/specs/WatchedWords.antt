-- What the watched words show.
use Rattle.std.specs.Prelude.{ℕ, List, [], ◌∷◌}
use Rattle.ticket_order.specs.declared.record.Record.{Record}
use Rattle.ticket_order.specs.declared.record.StepMade.{StepMade}
use Rattle.one_history.specs.Turns.{record_of}
use Rattle.schedule_sim.specs.declared.watched.Watched.{Watched}
use Rattle.schedule_sim.specs.Watching.{Moves}

abbrev pub watched_record : Watched → Record
watched_record watched = record_of watched.pass watched.words.now

abbrev pub watched_stripes : Watched → ℕ
watched_stripes watched = watched.words.now.stripes

abbrev pub watched_place : Watched → List ℕ
watched_place watched = watched.words.ghost_name ∷ watched.pass ∷ []

abbrev pub watched_moves : Watched → StepMade → Watched → Type 0
watched_moves watched made after = Moves watched.pass made watched.words.now after.words.now after.made
