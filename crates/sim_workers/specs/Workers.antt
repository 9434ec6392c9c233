-- How the 64 workers of a life stand against its world, and what a step of one of them is.
use Rattle.std.specs.Prelude.{◌≡◌, ◌≢◌, ◌↔◌, ℕ, ◌<◌, [], ◌∷◌, ◌++◌, length, Option, Some, None, true}
use Rattle.ticket_order.specs.declared.record.Holding.{Holding}
use Rattle.ticket_order.specs.declared.record.StepMade.{StepMade}
use Rattle.ticket_order.specs.declared.record.StepMade.TheVariants.{Drew}
use Rattle.ticket_order.specs.declared.walk.Walk.{Walk}
use Rattle.ticket_order.specs.declared.walk.Stepped.{Stepped}
use Rattle.ticket_order.specs.declared.record.Record.{Record}
use Rattle.ticket_order.specs.Records.{reach}
use Rattle.ticket_order.specs.Walks.{Task, Fits, Next}
use Rattle.one_history.specs.declared.book.Book.{Book}
use Rattle.one_history.specs.Turns.{record_of}
use Rattle.one_history.specs.OneHistory.{IsOneHistory, HoldApart, HoldsStripe}
use Rattle.one_history.specs.Moves.{BookMoves}
use Rattle.sim_rules.specs.declared.outcome.Made.{Made}
use Rattle.sim_rules.specs.World.{World, Life, job_of, keeper_holds, seen_by}
use Rattle.sim_rules.specs.After.{places_swept}
use Rattle.sim_rules.specs.Told.{told_of}
use Rattle.sim_workers.specs.Doings.{Doing, JobStands}
use Rattle.sim_workers.specs.WordsInWorld.{WordsStand, PlacesStand}

-- What each worker does is its job, in a life of this world. The workers have the passes 0 to 63, and the keeper has
-- the one after them.
pub record WorkersStand (b : Book) (w : World) (l : Life) (doings : ℕ → Doing) : Type 0 where
  pub words : WordsStand b w l
  pub passes : length b.passes ≡ 65
  pub keeper : b.effects.keeper ≡ 64
  pub jobs : length l.jobs ≡ 64
  pub each : (j : ℕ) → j < 64 → JobStands b.stripes (record_of j b) (doings j) (job_of l j)
  -- the life says of each worker's pass the greatest position that it has seen
  pub seen_count : length l.seen ≡ 64
  pub seen : (j : ℕ) → j < 64 → seen_by l j ≡ reach (record_of j b)
  pub places : PlacesStand b l
  -- the keeper's walk has the word of a stripe exactly if its pass holds that stripe
  pub held : (i : ℕ) → (keeper_holds l i l.walk ≡ true) ↔ HoldsStripe b 64 i

abbrev pub StandWith : Book → World → Option Life → (ℕ → Doing) → Type 0
StandWith b w None doings = ⊥
StandWith b w (Some l) doings = WorkersStand b w l doings

-- the world has a life, and so it is there
abbrev pub Stand : Book → World → (ℕ → Doing) → Type 0
Stand b w doings = StandWith b w w.life doings

-- the worker j does this now, and each other what it did
pub record IsNowDoing (j : ℕ) (doing : Doing) (old new : ℕ → Doing) : Type 0 where
  pub here : new j ≡ doing
  pub there : (i : ℕ) → i ≢ j → new i ≡ old i

-- The pass j made exactly one step, which is told so; and there is one history still.
pub record MakesStep (j : ℕ) (b b' : Book) (made : Made) : Type 0 where
  pub step : StepMade
  pub steps : (record_of j b').steps ≡ (record_of j b).steps ++ step ∷ []
  pub moved : BookMoves j step b b'
  pub told : told_of step ≡ Some made
  pub one : IsOneHistory b'
  pub apart : HoldApart b'

-- What a step leaves of the walk is what its task allows.
abbrev pub StepsWalk : ℕ → Walk → Record → Stepped → Record → Type 0
StepsWalk n walk p stepped p' = (begun : Record) (task : Task) → Fits n begun task walk p → Next n begun task stepped p'

-- ---- the keeper

-- What concerns the workers is in the second world as in the first.
pub record ConcernsNone (w w' : World) (l l' : Life) : Type 0 where
  pub history : w'.history ≡ w.history
  pub stripes : l'.stripes ≡ l.stripes
  pub first : l'.first ≡ l.first
  pub key_limit : l'.key_limit ≡ l.key_limit
  pub jobs : l'.jobs ≡ l.jobs
  pub seen : l'.seen ≡ l.seen
  pub places : l'.places ≡ l.places
  pub durable : l'.durable ≡ l.durable
  pub has_failed : l'.has_failed ≡ l.has_failed
  pub held : (i : ℕ) → keeper_holds l' i l'.walk ≡ keeper_holds l i l.walk

-- it is no TICKET
abbrev pub DrawsNone : StepMade → Type 0
DrawsNone (Drew ticket) = ⊥
DrawsNone step = Unit {0}

-- The keeper's pass made a step, after which the world has the same workers, and the counts and the stripe that the
-- record of that pass has.
pub record KeeperMoves (b b' : Book) (w w' : World) (l l' : Life) : Type 0 where
  pub step : StepMade
  pub undrawn : DrawsNone step
  pub moved : BookMoves 64 step b b'
  pub one : IsOneHistory b'
  pub apart : HoldApart b'
  pub history : w'.history ≡ w.history
  pub stripes : l'.stripes ≡ l.stripes
  pub first : l'.first ≡ l.first
  pub key_limit : l'.key_limit ≡ l.key_limit
  pub jobs : l'.jobs ≡ l.jobs
  pub seen : l'.seen ≡ l.seen
  pub durable : l'.durable ≡ (record_of 64 b').published
  pub has_failed : l'.has_failed ≡ (record_of 64 b').failed
  pub held : (i : ℕ) → (keeper_holds l' i l'.walk ≡ true) ↔ HoldsStripe b' 64 i

-- The whole outbox of the stripe that the keeper held came into hand.
pub record Swept (b b' : Book) (w : World) (l l' : Life) (stripe : ℕ) : Type 0 where
  pub held : Holding
  pub holding : (record_of 64 b).holding ≡ Some held
  pub stripe_is : held.stripe ≡ stripe
  pub taken : (record_of 64 b').taken ≡ (record_of 64 b).taken ++ held.outbox
  pub places : l'.places ≡ places_swept w l stripe

-- what came into hand: nothing, or the outbox of this stripe
abbrev pub Gathers : Book → Book → World → Life → Life → Option ℕ → Type 0
Gathers b b' w l l' None = ((record_of 64 b').taken ≡ (record_of 64 b).taken) × (l'.places ≡ l.places)
Gathers b b' w l l' (Some stripe) = Swept b b' w l l' stripe
