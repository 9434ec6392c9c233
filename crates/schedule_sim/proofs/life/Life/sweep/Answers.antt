use Rattle.std.proofs.Common.{not, ◌∙◌, ap}
use Rattle.sim_rules.specs.declared.event.Event.TheVariants as event
use Rattle.schedule_sim.proofs.Doing.{did_skip}
use Rattle.schedule_sim.proofs.LivesParts.{rests}
use Rattle.schedule_sim.proofs.SweepsFit.{sweep_fits}
use Rattle.schedule_sim.proofs.life.Life.sweep.Goals as goal

pub returns-then-is_walking : goal.returns-then-is_walking
returns-then-is_walking c w a =
    let unfit = sweep_fits c.laws_of_telling.ensures.walk w _ _ _ c.is_walking.result a c.is_walking.ensures ∙ ap not c.if-is_walking.true in
    did_skip w event.Sweep _ unfit a

pub returns : goal.returns
returns c w a = c.step_sweep.ensures.begins (rests c.args.self.now.keeper c.is_walking.result c.is_walking.ensures c.if-is_walking.false).0 w a
