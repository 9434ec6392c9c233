use Rattle.std.proofs.lemmas.Result.{err_from_is_err_and}
use Rattle.ticket_order.specs.Legality.{history_of}
use Rattle.stripe_locks.specs.Passes.{recorded}
use Rattle.view_walk.specs.Viewing.{IsDone}
use Rattle.durable_map.specs.Maps.{stripe_count}
use Rattle.bulk_tasks.specs.Laws.{maps_of}
use Rattle.bulk_tasks.proofs.Completing.{completes, refused}
use Rattle.bulk_tasks.proofs.Walked.{views_are_parts}
use Rattle.bulk_tasks.proofs.walking.view.Goals as goal

pub new-requires : goal.new-requires
new-requires g c =
    let n = stripe_count c.args.map.now in
    let b = recorded c.args.pass.now in
    let w = recorded c.view_step.new.pass in
    let zs = c.in-Done.captured.items in
    let d : IsDone n b zs w = rw c.in-Done.is at (c.in_ok-next.ensures.next b c.loop-step.invariant.fit) in
    record { parts = (n, maps_of (history_of w) d.views.sections, views_are_parts n b w zs d.views) }

pub returns-in-Done-clause-completes : goal.returns-in-Done-clause-completes
returns-in-Done-clause-completes g c =
    let n = stripe_count c.args.map.now in
    let b = recorded c.args.pass.now in
    let w = recorded c.view_step.new.pass in
    let zs = c.in-Done.captured.items in
    let d : IsDone n b zs w = rw c.in-Done.is at (c.in_ok-next.ensures.next b c.loop-step.invariant.fit) in
    completes n b zs w d c.new.result c.new.ensures.marks c.new.ensures.map c.new.ensures.err

pub returns-in_err-next-clause-completes : goal.returns-in_err-next-clause-completes
returns-in_err-next-clause-completes g c =
    let q = err_from_is_err_and c.from_residual.result c.from_residual.ensures.1 in
    let k = c.in_err-next.ensures.next (recorded c.args.pass.now) c.loop-step.invariant.fit in
    rw (q.1, q.2) (refused _ _ k.0 _ _ k.1)
