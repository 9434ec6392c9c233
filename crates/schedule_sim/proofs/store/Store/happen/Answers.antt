use Rattle.std.proofs.Common.{sym, subst}
use Rattle.sim_rules.specs.declared.event.Event.TheVariants as event
use Rattle.sim_rules.specs.declared.outcome.Outcome.TheVariants as outcome
use Rattle.schedule_sim.specs.Storing.{DidStore}
use Rattle.schedule_sim.proofs.Stores.{if_did, of_life, skipped_old}
use Rattle.schedule_sim.proofs.store.Store.happen.Goals as goal

pub returns-in-Old : goal.returns-in-Old
returns-in-Old c w least stands = subst (λ e. DidStore w least e outcome.Skipped c.args.self) (sym c.in-Old.is) (skipped_old w least c.args.self stands)

pub returns-in_default : goal.returns-in_default
returns-in_default c =
    if_did c.go_on.result c.args.self c.args.event.now
    (of_life c.args.event.now c.in_default.not-Old c.in_default.not-Open c.in_default.not-Stop c.in_default.not-Leave) c.go_on.ensures
