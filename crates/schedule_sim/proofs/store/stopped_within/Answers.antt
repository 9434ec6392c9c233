use Rattle.std.proofs.Common.{Some, sym}
use Rattle.sim_rules.specs.After.{entered, without_life}
use Rattle.sim_rules.specs.declared.event.Event.TheVariants as event
use Rattle.schedule_sim.specs.declared.store.Store.TheVariants.{Open}
use Rattle.schedule_sim.proofs.Closings.{both_ok, interrupted_lies, stopped_within_did}
use Rattle.schedule_sim.proofs.Stores.{skipped}
use Rattle.schedule_sim.proofs.store.stopped_within.Goals as goal

pub returns-then-not-may_call : goal.returns-then-not-may_call
returns-then-not-may_call c = λ w least stands.
    skipped w least (event.Stop (Some c.args.side) c.args.fill.now) (Open c.args.life) (sym (c.if-not-may_call.ensures.told w c.args.fill.now stands.0)) stands

pub returns : goal.returns
returns c =
    both_ok _ _ _ c.stopped.result
    (λ x store outcome w least stands.
    let call = c.in_ok-call.call in
    let disk = c.interrupt.new.self.keeper.disk in
    let stopped = c.in_ok-call.ensures w stands.0 in
    stopped_within_did w least c.args.side c.args.fill.now c.args.life call disk x.1 x.0 outcome stands.0 (sym (c.if-not-may_call.ensures.told w c.args.fill.now stands.0)) stands.1 stopped
    (store (without_life w (entered call w.files)) least
    (interrupted_lies w least c.args.side c.args.life call disk c.into_disk.result c.into_disk.ensures.disk stands.0 stands.1 stopped)))
    c.stopped.ensures.store c.stopped.ensures.outcome
