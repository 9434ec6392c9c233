use Rattle.std.proofs.Common.{IfOk, not, sym, ◌∙◌, ap, subst}
use Rattle.disk_model.specs.declared.fill.Fill.TheVariants.{New}
use Rattle.sim_rules.specs.declared.event.Event.TheVariants as event
use Rattle.sim_rules.specs.World.{World}
use Rattle.schedule_sim.specs.Living.{Did, IsLife}
use Rattle.schedule_sim.proofs.CheckpointEnds.{broken_refuses, due_can, none_skip, walks_on}
use Rattle.schedule_sim.proofs.Devices.{told_fits}
use Rattle.schedule_sim.proofs.life.Life.call_device.Goals as goal

pub returns-then-is_walking : goal.returns-then-is_walking
returns-then-is_walking c w a =
    walks_on w c.args.self.now c.args.side c.args.ending.now c.is_walking.result c.laws_of_telling.ensures.walk c.is_walking.ensures
    c.if-is_walking.true a

pub returns-then-self : goal.returns-then-self
returns-then-self c w a =
    broken_refuses w c.args.self.now c.args.side c.args.ending.now c.is_walking.result c.laws_of_telling.ensures.walk
    c.laws_of_log_calls.ensures.broken c.is_walking.ensures c.if-is_walking.false c.if-self.true a

pub returns-then-not-has_call : goal.returns-then-not-has_call
returns-then-not-has_call c w a =
    let told = c.laws_of_telling.ensures in
    let life = c.args.self.now in
    none_skip w life c.args.side c.args.ending.now
    (told_fits told.walk told.log told.checkpoint c.args.side New w life.keeper life.words life.jobs.items a
    ∙ sym (due_can c.args.side life.keeper c.is_walking.result c.is_walking.ensures c.if-is_walking.false (ap not c.if-self.false))
    ∙ sym c.has_call.ensures ∙ c.if-not-has_call.true) c.if-self.false a

pub returns-in-Log : goal.returns-in-Log
returns-in-Log c =
    let life = c.args.self.now in
    let e = c.args.ending.now in
    subst (λ s. IfOk c.call_log.result (λ x. (w : World) → IsLife w life → Did w (event.Device s e) x c.call_log.new.self)) (sym c.in-Log.is)
    c.call_log.ensures

pub returns-in-Checkpoint : goal.returns-in-Checkpoint
returns-in-Checkpoint c =
    let life = c.args.self.now in
    let e = c.args.ending.now in
    subst (λ s. IfOk c.call_checkpoint.result (λ x. (w : World) → IsLife w life → Did w (event.Device s e) x c.call_checkpoint.new.self))
    (sym c.in-Checkpoint.is) c.call_checkpoint.ensures
