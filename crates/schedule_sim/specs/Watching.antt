-- The steps of a walk, as they are told.
use Rattle.std.specs.Prelude.{◌≡◌, ℕ, ◌++◌, ◌∷◌, [], Option, Some}
use Rattle.ticket_order.specs.declared.record.StepMade.{StepMade}
use Rattle.ticket_order.specs.Walks.{Kind, Durable, Fail, Take, Give, Ticket, Look, See, Alive, kind_of}
use Rattle.sim_rules.specs.declared.outcome.Made.{Made}
use Rattle.one_history.specs.declared.book.Book.{Book}
use Rattle.one_history.specs.Moves.{BookMoves}
use Rattle.one_history.specs.Turns.{record_of}
use Rattle.sim_rules.specs.Told.{told_of}

-- one step of the pass j was made, and it was told
pub record Moves (j : ℕ) (made : StepMade) (old new : Book) (last : Option Made) : Type 0 where
  pub book : BookMoves j made old new
  pub told_is : last ≡ told_of made

-- steps of this kind are told
abbrev pub IsTold : Kind → Type 0
IsTold Durable = ⊥
IsTold Fail = ⊥
IsTold (Take i) = Unit {0}
IsTold (Give i) = Unit {0}
IsTold Ticket = Unit {0}
IsTold Look = Unit {0}
IsTold See = Unit {0}
IsTold Alive = Unit {0}

-- exactly one step of the pass j was made, of this kind, and it is told so
pub record MakesStep (j : ℕ) (kind : Kind) (old new : Book) (made : Made) : Type 0 where
  pub step : StepMade
  pub steps : (record_of j new).steps ≡ (record_of j old).steps ++ step ∷ []
  pub kind_is : kind_of step ≡ kind
  pub moved : BookMoves j step old new
  pub told_is : told_of step ≡ Some made
