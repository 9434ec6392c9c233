use Rattle.ticket_order.specs.Legality.{history_of}
use Rattle.stripe_locks.specs.Passes.{recorded}
use Rattle.view_walk.specs.Viewing.{IsDone}
use Rattle.durable_map.specs.Maps.{stripe_count}
use Rattle.bulk_tasks.specs.Laws.{maps_of}
use Rattle.bulk_tasks.proofs.Walked.{views_are_parts}
use Rattle.bench_map.proofs.sections.sections.Goals as goal

pub returns-in-Done-clause-parts : goal.returns-in-Done-clause-parts
returns-in-Done-clause-parts g c =
    let n = stripe_count c.args.map.now in
    let b = recorded c.args.pass.now in
    let w = recorded c.view_step.new.pass in
    let zs = c.in-Done.captured.items in
    let d : IsDone n b zs w = rw c.in-Done.is at (c.in_ok-next.ensures.next b c.loop-step.invariant.fit) in
    (n, maps_of (history_of w) d.views.sections, views_are_parts n b w zs d.views)
