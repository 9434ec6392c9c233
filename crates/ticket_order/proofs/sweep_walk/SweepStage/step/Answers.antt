use Rattle.std.proofs.Common.{ap, refl}
use Rattle.ticket_order.proofs.Taking.{may_sweep, swept}
use Rattle.ticket_order.proofs.sweep_walk.SweepStage.step.Goals as goal

pub give-requires : goal.give-requires
give-requires g c =
    let h = rw c.in-HasTaken.is at c.requires.2 in
    record { fits = may_sweep _ c.requires.0 _ c.requires.1 c.in-HasTaken.taken _ h refl (rw c.replace-entries.ensures.after c.clear.ensures.items) refl }

pub returns-in-HasTaken-clause-next : goal.returns-in-HasTaken-clause-next
returns-in-HasTaken-clause-next g c = λ b task f.
    let h = rw c.in-HasTaken.is at f in
    rw h.task_is (swept _ b _ _ task c.in-HasTaken.taken _ h c.give.ensures.step (ap (λ outbox. outbox.items) c.replace-entries.ensures.value))
