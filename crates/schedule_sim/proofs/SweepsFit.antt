-- When the keeper begins a sweep, and when it goes on with a walk.
use Rattle.std.proofs.Common.{◌≡◌, ◌||◌, not, Bool, true, false, List, Option, None, Some, is_some, refl, sym, ◌∙◌, ap}
use Rattle.ticket_order.specs.declared.walk.Walk.{Walk}
use Rattle.one_history.specs.declared.book.Book.{Book}
use Rattle.one_history.specs.Turns.{record_of}
use Rattle.flusher.specs.declared.keeper.Keeper.{Keeper}
use Rattle.flusher.specs.KeeperSteps.{is_walking}
use Rattle.sim_rules.specs.declared.event.Event.TheVariants as event
use Rattle.sim_rules.specs.World.{World}
use Rattle.sim_rules.specs.Fitting.{fits, fits_with}
use Rattle.sim_keeper.specs.Laws.{WalkIsTold}
use Rattle.schedule_sim.specs.declared.traced.Traced.{Traced}
use Rattle.schedule_sim.specs.declared.job.Job.{Job}
use Rattle.schedule_sim.specs.Tracing.{traced_states}
use Rattle.schedule_sim.specs.Living.{IsLifeOf}
use Rattle.schedule_sim.proofs.LivesParts.{life_there}

-- a sweep may begin where no walk is under way
pub sweep_fits : WalkIsTold traced_states → (w : World) (keeper : Keeper Traced) (b : Book) (jobs : List Job) (walks : Bool) → IsLifeOf w keeper b jobs
    → walks ≡ (is_walking keeper.sweeper.walking || is_some keeper.capture) → fits w event.Sweep ≡ not walks
sweep_fits law w keeper b jobs walks a is =
    let there = life_there w keeper b jobs a in
    ap (λ o. fits_with o event.Sweep) there.1.life ∙ law keeper (record_of 64 b) w there.0 there.1.keeper_stands ∙ ap not (sym is)

-- and a step is made where one is
pub step_fits : WalkIsTold traced_states → (w : World) (keeper : Keeper Traced) (b : Book) (jobs : List Job) (walks : Bool) → IsLifeOf w keeper b jobs
    → walks ≡ (is_walking keeper.sweeper.walking || is_some keeper.capture) → fits w event.KeeperStep ≡ not (not walks)
step_fits law w keeper b jobs walks a is =
    let there = life_there w keeper b jobs a in
    ap (λ o. fits_with o event.KeeperStep) there.1.life ∙ ap not (law keeper (record_of 64 b) w there.0 there.1.keeper_stands ∙ ap not (sym is))

-- ---- a capture, or a sweep

pub capture_there : (o : Option Walk) (answer : Bool) → answer ≡ is_some o → answer ≡ true → (walk : Walk) × (o ≡ Some walk)
capture_there None answer is said = absurd (let no : false ≡ true = sym is ∙ said in cc)
capture_there (Some walk) answer is said = (walk, refl)

pub none_captured : (o : Option Walk) (answer : Bool) → answer ≡ is_some o → answer ≡ false → o ≡ None
none_captured None answer is said = refl
none_captured (Some walk) answer is said = absurd (let no : true ≡ false = sym is ∙ said in cc)

-- else it is a sweep that walks
pub sweep_walks : (a b : Bool) (o : Option Walk) → b ≡ (a || is_some o) → b ≡ true → o ≡ None → a ≡ true
sweep_walks true b o is said none = refl
sweep_walks false b o is said none = absurd (let no : true ≡ false = sym said ∙ is ∙ ap (λ o. is_some o) none in cc)
