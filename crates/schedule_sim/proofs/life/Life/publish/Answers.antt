use Rattle.std.proofs.Common.{ap, refl}
use Rattle.ticket_order.specs.Records.{publishing}
use Rattle.sim_rules.specs.declared.event.Event.TheVariants as event
use Rattle.schedule_sim.proofs.Counting.{failed_skip, lent_fits, lent_moves, lent_record, publishes, undrawn_durable, unfit_walking}
use Rattle.schedule_sim.proofs.LivesParts.{rests}
use Rattle.schedule_sim.proofs.Quiet.{walks_skip}
use Rattle.schedule_sim.proofs.Telling.{second_same}
use Rattle.schedule_sim.proofs.life.Life.publish.Goals as goal
use Rattle.schedule_sim.proofs.life.Life.publish.Goals.{then-is_walking-via-then-is_walking, then-is_walking-via-else-is_walking+then-self}

pub returns-then-is_walking : goal.returns-then-is_walking
returns-then-is_walking c w a = elim c.then-is_walking.branch [
  | then-is_walking-via-then-is_walking b ↦
      walks_skip w event.Publish c.args.self.now c.is_walking.result c.laws_of_telling.ensures.walk unfit_walking c.is_walking.ensures
      b.if-is_walking.true a
  | then-is_walking-via-else-is_walking+then-self b ↦ failed_skip w c.args.self.now b.if-self.true a
]

pub returns : goal.returns
returns c w a =
    let life = c.args.self.now in
    let lent = c.new-steps.result in
    let words = c.publish.new.steps.words.now in
    let is = c.new-steps.ensures.pass in
    let stays = second_same c.publish.ensures.pass.0 in
    let one = c.publish.ensures.one c.if-self.false in
    let record_is = lent_record (λ p. publishing p life.keeper.log.committed) lent.pass c.publish.new.steps.pass lent.words.now life.words words
    c.new-steps.ensures.words is stays (c.publish.ensures.published c.if-self.false).0 in
    publishes w life (record { keeper = c.publish.new.self; words = words; jobs = life.jobs }) c.is_walking.result c.committed.result
    c.laws_of_telling.ensures.walk c.laws_of_telling.ensures.counts c.laws_of_counts.ensures.publish c.steps_of_the_keeper.ensures.steps
    c.is_walking.ensures c.if-is_walking.false (rests life.keeper c.is_walking.result c.is_walking.ensures c.if-is_walking.false).1 c.if-self.false
    (record {
      step = one.made;
      undrawn = undrawn_durable one.made one.kind_is;
      moved = lent_moves lent.pass one.made lent.words.now life.words words c.new-steps.ensures.words is one.moved;
      one = c.keeps_one_history.ensures.one;
      apart = c.keeps_one_history.ensures.apart;
      holding = ap (λ r. r.holding) record_is;
      taken = ap (λ r. r.taken) record_is;
    })
    record_is (c.publish.ensures.published c.if-self.false).1
    (λ done. lent_fits lent.pass c.publish.new.steps.pass lent.words.now life.words words life.keeper c.publish.new.self done
    c.new-steps.ensures.words is stays (c.publish.ensures.fits done))
    c.committed.ensures refl a
