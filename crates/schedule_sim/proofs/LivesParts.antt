-- What is there of a life: its world's life, and its keeper between its walks.
use Rattle.std.proofs.Common.{◌≡◌, ◌||◌, Bool, true, false, List, None, Some, Option, is_some, refl, sym, ◌∙◌, subst}
use Rattle.ticket_order.specs.declared.walk.Walk.{Walk}
use Rattle.one_history.specs.declared.book.Book.{Book}
use Rattle.one_history.specs.Turns.{record_of}
use Rattle.flusher.specs.declared.keeper.Keeper.{Keeper}
use Rattle.flusher.specs.Fitting.{Fits}
use Rattle.flusher.specs.KeeperSteps.{is_walking}
use Rattle.checkpoint_walk.specs.Walking.{FitsBy}
use Rattle.sim_rules.specs.World.{World, Life}
use Rattle.sim_workers.specs.Workers.{StandWith, WorkersStand}
use Rattle.sim_keeper.specs.KeeperInWorld.{KeeperStands, StandsIn}
use Rattle.schedule_sim.specs.declared.traced.Traced.{Traced}
use Rattle.schedule_sim.specs.declared.job.Job.{Job}
use Rattle.schedule_sim.specs.Tracing.{traced_states, traced_honest}
use Rattle.schedule_sim.specs.Living.{IsLifeOf}
use Rattle.schedule_sim.specs.Workers.{doings_of}

-- no walk of the keeper is under way
or_false : (a b : Bool) → (a || b) ≡ false → (a ≡ false) × (b ≡ false)
or_false true b e = absurd (let no : true ≡ false = e in cc)
or_false false b e = (refl, e)

none_there : (o : Option Walk) → is_some o ≡ false → o ≡ None
none_there None e = refl
none_there (Some w) e = absurd (let no : true ≡ false = e in cc)

pub rests : (keeper : Keeper Traced) (answer : Bool) → answer ≡ (is_walking keeper.sweeper.walking || is_some keeper.capture) → answer ≡ false
    → (is_walking keeper.sweeper.walking ≡ false) × (keeper.capture ≡ None)
rests keeper answer is e =
    let both = or_false (is_walking keeper.sweeper.walking) (is_some keeper.capture) (sym is ∙ e) in
    (both.0, none_there keeper.capture both.1)

-- where no capture is under way, the keeper fits its pass
pub fits_now : (w : World) (keeper : Keeper Traced) (b : Book) (jobs : List Job) → (a : IsLifeOf w keeper b jobs) → keeper.capture ≡ None
    → Fits traced_states traced_honest b.stripes a.done keeper (record_of 64 b)
fits_now w keeper b jobs a none = subst (λ o. FitsBy o traced_states traced_honest b.stripes a.done keeper (record_of 64 b)) none a.fits

-- What stands against the world's life, wherever that is named.
pub record Parts (w : World) (l : Life) (keeper : Keeper Traced) (b : Book) (jobs : List Job) : Type 0 where
  pub life : w.life ≡ Some l
  pub workers_stand : WorkersStand b w l (doings_of jobs)
  pub keeper_stands : KeeperStands traced_states keeper (record_of 64 b) w l

parts_with : (w : World) (o : Option Life) (keeper : Keeper Traced) (b : Book) (jobs : List Job) → w.life ≡ o → StandWith b w o (doings_of jobs) → StandsIn traced_states keeper (record_of 64 b) w o
    → (l : Life) × Parts w l keeper b jobs
parts_with w None keeper b jobs is workers stands = absurd workers
parts_with w (Some l) keeper b jobs is workers stands = (l, record { life = is; workers_stand = workers; keeper_stands = stands })

-- the world has a life, against which all of it stands
pub life_there : (w : World) (keeper : Keeper Traced) (b : Book) (jobs : List Job) → IsLifeOf w keeper b jobs → (l : Life) × Parts w l keeper b jobs
life_there w keeper b jobs a = parts_with w w.life keeper b jobs refl a.workers_stand a.keeper_stands
