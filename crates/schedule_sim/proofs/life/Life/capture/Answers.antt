use Rattle.schedule_sim.proofs.CapturesMade.{capture_skips}
use Rattle.schedule_sim.proofs.LivesParts.{rests}
use Rattle.schedule_sim.proofs.life.Life.capture.Goals as goal

pub returns-then-is_walking : goal.returns-then-is_walking
returns-then-is_walking c w is = capture_skips c.laws_of_telling.ensures.walk c.args.stripe _ w _ is c.is_walking.ensures c.if-is_walking.true

pub returns : goal.returns
returns c w is = c.step_capture.ensures.begins (rests c.args.self.now.keeper _ c.is_walking.ensures c.if-is_walking.false).1 w is
