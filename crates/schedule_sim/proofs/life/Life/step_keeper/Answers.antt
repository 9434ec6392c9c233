use Rattle.std.proofs.Common.{not, ◌∙◌, ap}
use Rattle.sim_rules.specs.declared.event.Event.TheVariants as event
use Rattle.schedule_sim.proofs.Doing.{did_skip}
use Rattle.schedule_sim.proofs.SweepsFit.{capture_there, none_captured, step_fits, sweep_walks}
use Rattle.schedule_sim.proofs.life.Life.step_keeper.Goals as goal

pub returns-then-is_some : goal.returns-then-is_some
returns-then-is_some c w a =
    let there = capture_there c.args.self.now.keeper.capture c.is_some.result c.is_some.ensures c.if-is_some.true in
    c.step_capture.ensures.goes_on there.0 there.1 w a

pub returns-then-is_walking : goal.returns-then-is_walking
returns-then-is_walking c w a =
    let none = none_captured c.args.self.now.keeper.capture c.is_some.result c.is_some.ensures c.if-is_some.false in
    c.step_sweep.ensures.goes_on (sweep_walks _ _ c.args.self.now.keeper.capture c.is_walking.ensures c.if-is_walking.true none) w a

pub returns : goal.returns
returns c w a =
    let unfit = step_fits c.laws_of_telling.ensures.walk w _ _ _ c.is_walking.result a c.is_walking.ensures ∙ ap (λ v. not (not v)) c.if-is_walking.false in
    did_skip w event.KeeperStep _ unfit a
