use Rattle.std.proofs.Common.{refl}
use Rattle.schedule_sim.proofs.LivesParts.{life_there}
use Rattle.schedule_sim.proofs.Sweeps.{Laws, Sweeps, begins_did, goes_on_did, sweeps}
use Rattle.schedule_sim.proofs.life.Life.step_sweep.Goals as goal

laws : goal.After-end_of_sweep → Laws
laws c = record {
  begins = c.laws_of_sweeps.ensures.begins;
  steps = c.laws_of_sweeps.ensures.steps;
  none = c.laws_of_taking.ensures.none;
  outbox = c.laws_of_taking.ensures.outbox;
  walk = c.laws_of_telling.ensures.walk;
  stripe = c.laws_of_telling.ensures.stripe;
  counts = c.laws_of_telling.ensures.counts;
  sees = c.laws_of_lives.ensures.sees;
  moves = c.steps_of_the_keeper.ensures.steps;
  free = c.words_of_stripes.ensures.free;
  held = c.words_of_stripes.ensures.held;
}

step : (c : goal.After-end_of_sweep) → Sweeps c.args.self.now.keeper c.sweep_step-swept.new.self c.args.self.now.words c.sweep_step-swept.new.steps.words.now c.sweep_step-swept.result c.in-Some.made
step c =
    let k = c.sweep_step-swept.ensures in
    sweeps _ _ _ _ _ _ refl c.requires.no_capture k.one k.steps_on k.fits k.same k.pass.0 c.in-Some.is c.keeps_one_history.ensures.one c.keeps_one_history.ensures.apart

pub returns-clause-begins : goal.returns-clause-begins
returns-clause-begins c rest w a =
    let there = life_there w c.args.self.now.keeper c.args.self.now.words c.args.self.now.jobs.items a in
    rw c.end_of_sweep.ensures (begins_did (laws c) w there.0 _ c.args.self.now.keeper c.args.self.now.words c.sweep_step-swept.result c.in-Some.made a there.1 (step c) rest)

pub returns-clause-goes_on : goal.returns-clause-goes_on
returns-clause-goes_on c walks w a =
    let there = life_there w c.args.self.now.keeper c.args.self.now.words c.args.self.now.jobs.items a in
    rw c.end_of_sweep.ensures (goes_on_did (laws c) w there.0 _ c.args.self.now.keeper c.args.self.now.words c.sweep_step-swept.result c.in-Some.made a there.1 (step c) walks)
