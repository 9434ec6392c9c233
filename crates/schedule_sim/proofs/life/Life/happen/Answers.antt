use Rattle.schedule_sim.proofs.Workers.{told_of_life}
use Rattle.schedule_sim.proofs.life.Life.happen.Goals as goal

pub returns-in-Change : goal.returns-in-Change
returns-in-Change c = told_of_life _ _ _ c.args.self.now c.change.new.self c.in-Change.is c.change.ensures

pub returns-in-Read : goal.returns-in-Read
returns-in-Read c = told_of_life _ _ _ c.args.self.now c.read.new.self c.in-Read.is c.read.ensures

pub returns-in-Step : goal.returns-in-Step
returns-in-Step c w a of_life = rw c.in-Step.is (c.step.ensures w a)

pub returns-in-Release : goal.returns-in-Release
returns-in-Release c w a of_life = rw c.in-Release.is (c.release.ensures w a)

pub returns-in-Sweep : goal.returns-in-Sweep
returns-in-Sweep c w a of_life = rw c.in-Sweep.is (c.sweep.ensures w a)

pub returns-in-KeeperStep : goal.returns-in-KeeperStep
returns-in-KeeperStep c w a of_life = rw c.in-KeeperStep.is (c.step_keeper.ensures w a)

pub returns-in-Stage : goal.returns-in-Stage
returns-in-Stage c w a of_life = rw c.in-Stage.is (c.stage.ensures w a)

pub returns-in-Device : goal.returns-in-Device
returns-in-Device c = told_of_life _ _ _ c.args.self.now c.call_device.new.self c.in-Device.is c.call_device.ensures

pub returns-in-Publish : goal.returns-in-Publish
returns-in-Publish c w a of_life = rw c.in-Publish.is (c.publish.ensures w a)

pub returns-in-Fail : goal.returns-in-Fail
returns-in-Fail c w a of_life = rw c.in-Fail.is (c.fail.ensures w a)

pub returns-in-Begin : goal.returns-in-Begin
returns-in-Begin c w a of_life = rw c.in-Begin.is (c.begin.ensures w a)

pub returns-in-Capture : goal.returns-in-Capture
returns-in-Capture c w a of_life = rw c.in-Capture.is (c.capture.ensures w a)

pub returns-in-Seal : goal.returns-in-Seal
returns-in-Seal c w a of_life = rw c.in-Seal.is (c.seal.ensures w a)
