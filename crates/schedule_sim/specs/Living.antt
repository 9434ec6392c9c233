-- How a life stands against the world of its events and outcomes.
use Rattle.std.specs.Prelude.{◌≡◌, ℕ, List, slice_set, length, Bool, true, false}
use Rattle.map_types.specs.declared.commands.Command.{Command}
use Rattle.one_history.specs.declared.book.Book.{Book}
use Rattle.one_history.specs.Turns.{record_of}
use Rattle.flusher.specs.declared.keeper.Keeper.{Keeper}
use Rattle.checkpoint_walk.specs.Walking.{FitsWalking}
use Rattle.store_layout.specs.Opening.{Opened}
use Rattle.sim_rules.specs.declared.event.Event.{Event}
use Rattle.sim_rules.specs.declared.event.Event.TheVariants as event
use Rattle.sim_rules.specs.declared.outcome.Outcome.{Outcome}
use Rattle.sim_rules.specs.World.{World}
use Rattle.sim_rules.specs.After.{after}
use Rattle.sim_rules.specs.Cases.{Meets}
use Rattle.sim_rules.specs.Sound.{AnswersLegally}
use Rattle.sim_workers.specs.Workers.{Stand}
use Rattle.sim_keeper.specs.KeeperInWorld.{HasKeeper}
use Rattle.schedule_sim.specs.declared.traced.Traced.{Traced}
use Rattle.schedule_sim.specs.declared.job.Job.{Job}
use Rattle.schedule_sim.specs.declared.job.Job.TheVariants.{Idle}
use Rattle.schedule_sim.specs.declared.life.Life.{Life}
use Rattle.schedule_sim.specs.Tracing.{traced_states, traced_honest}
use Rattle.schedule_sim.specs.Workers.{doings_of, job_of}

-- The keeper fits its pass, which is the one after the 64 workers'; it stands as the world says, and so do the workers.
pub record IsLifeOf (w : World) (keeper : Keeper Traced) (book : Book) (jobs : List Job) : Type 0 where
  pub done : List Command
  pub fits : FitsWalking traced_states traced_honest book.stripes done keeper (record_of 64 book)
  pub count : length jobs ≡ 64
  pub workers_stand : Stand book w (doings_of jobs)
  pub keeper_stands : HasKeeper traced_states keeper (record_of 64 book) w

abbrev pub IsLife : World → Life → Type 0
IsLife w life = IsLifeOf w life.keeper life.words life.jobs.items

-- the same, but that this job of worker j was taken out
pub record IsLifeBut (w : World) (j : ℕ) (job : Job) (life : Life) : Type 0 where
  pub jobs : List Job
  pub stands : IsLifeOf w life.keeper life.words jobs
  pub was : job_of j jobs ≡ job
  pub taken : life.jobs.items ≡ slice_set jobs j Idle

-- It begins neither a run nor a life, and ends none.
abbrev pub is_of_life : Event → Bool
is_of_life event.Old = false
is_of_life (event.Open stripes fails_at) = false
is_of_life (event.Stop within fill) = false
is_of_life event.Leave = false
is_of_life e = true

-- The outcome meets the case of the event, a reply that it releases is one thread's, and the life stands as the world
-- then says.
pub record Did (w : World) (e : Event) (x : Outcome) (life : Life) : Type 0 where
  pub meets : (found : Opened) → Meets w found e x
  pub answers : AnswersLegally w e x
  pub stands : (found : Opened) → IsLife (after w found e x) life
