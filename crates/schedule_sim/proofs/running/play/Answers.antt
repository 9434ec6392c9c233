use Rattle.std.proofs.Common.{[], sym, subst}
use Rattle.std.proofs.lemmas.List.{take_all}
use Rattle.schedule_sim.proofs.Runs.{AreLaws, IsKept, kept_after, kept_at_start, kept_to_end}
use Rattle.schedule_sim.proofs.running.play.Goals as goal

pub loop-event-init : goal.loop-event-init
loop-event-init c =
    let laws : AreLaws = record { life = c.steps_of_a_life.ensures.goes_on; next = c.steps_between_lives.ensures.goes_on; rows = c.laws_of_runs.ensures.rows } in (
      λ from begins. subst (λ xs. IsKept from [] xs c.args.store) (sym c.new-outcomes.ensures.items) (kept_at_start from c.args.store begins),
      laws,
      c.ends_of_runs.ensures.inside,
      c.ends_of_runs.ensures.outside,
    )

pub happen-requires : goal.happen-requires
happen-requires c =
    let kept = c.loop-event.invariant.0 c.requires.0 c.requires.1 in
    (kept.world, kept.least, kept.stands)

pub loop-event-preserved : goal.loop-event-preserved
loop-event-preserved c =
    let going = c.loop-event.invariant in (
      λ from begins.
          let kept = going.0 from begins in
          kept_after going.1 from c.args.events.now c.loop-event.event-index c.loop-event.outcomes.items c.push.new.self.items c.loop-event.store c.in_ok-next.next c.event-item.result c.in_ok-next.outcome
          c.loop-event-test.true c.event-item.is c.in_ok-push.ensures.items kept (c.in_ok-next.ensures kept.world kept.least kept.stands) c.stands_for_a_front.ensures,
      going.1,
      going.2,
      going.3,
    )

pub returns : goal.returns
returns c from begins =
    let going = c.loop-event.invariant in
    kept_to_end going.2 going.3 from c.args.events.now c.loop-event.event-index c.loop-event.outcomes.items c.loop-event.store (take_all c.loop-event.event-index c.args.events.now c.loop-event-test.false) (going.0 from begins)
