use Rattle.std.proofs.lemmas.List.Elements.{All-push, All-same}
use Rattle.stripe_locks.specs.Holding.{IsHeldOf}
use Rattle.run_memory.proofs.store.release_one.Goals as goal

pub returns-in_ok-push-in-NotYet-clause-waiting : goal.returns-in_ok-push-in-NotYet-clause-waiting
returns-in_ok-push-in-NotYet-clause-waiting c =
    let P = IsHeldOf c.args.stripes.now in
    All-same P _ _ c.in_ok-push-in-NotYet.ensures.items (All-push P c.args.waiting.now.items c.in-NotYet.held c.requires.waiting c.in-NotYet.ensures.held)
