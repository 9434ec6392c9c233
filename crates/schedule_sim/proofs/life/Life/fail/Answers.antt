use Rattle.std.proofs.Common.{ap, refl}
use Rattle.ticket_order.specs.Records.{failing}
use Rattle.sim_rules.specs.declared.event.Event.TheVariants as event
use Rattle.schedule_sim.proofs.Counting.{fails, lent_fits, lent_moves, lent_record, undrawn_fail}
use Rattle.schedule_sim.proofs.LivesParts.{rests}
use Rattle.schedule_sim.proofs.Quiet.{walks_skip}
use Rattle.schedule_sim.proofs.Telling.{second_same}
use Rattle.schedule_sim.proofs.life.Life.fail.Goals as goal

pub returns-then-is_walking : goal.returns-then-is_walking
returns-then-is_walking c w a =
    walks_skip w event.Fail c.args.self.now c.is_walking.result c.laws_of_telling.ensures.walk (λ l e. e) c.is_walking.ensures c.if-is_walking.true a

pub returns : goal.returns
returns c w a =
    let life = c.args.self.now in
    let lent = c.new-steps.result in
    let words = c.fail.new.steps.words.now in
    let is = c.new-steps.ensures.pass in
    let stays = second_same c.fail.ensures.pass.0 in
    let one = c.fail.ensures.one in
    let record_is = lent_record failing lent.pass c.fail.new.steps.pass lent.words.now life.words words c.new-steps.ensures.words is stays
    c.fail.ensures.failed.0 in
    fails w life (record { keeper = c.fail.new.self; words = words; jobs = life.jobs }) c.is_walking.result
    c.laws_of_telling.ensures.walk c.laws_of_telling.ensures.counts c.laws_of_counts.ensures.fail c.steps_of_the_keeper.ensures.steps
    c.is_walking.ensures c.if-is_walking.false (rests life.keeper c.is_walking.result c.is_walking.ensures c.if-is_walking.false).1
    (record {
      step = one.made;
      undrawn = undrawn_fail one.made one.kind_is;
      moved = lent_moves lent.pass one.made lent.words.now life.words words c.new-steps.ensures.words is one.moved;
      one = c.keeps_one_history.ensures.one;
      apart = c.keeps_one_history.ensures.apart;
      holding = ap (λ r. r.holding) record_is;
      taken = ap (λ r. r.taken) record_is;
    })
    record_is c.fail.ensures.failed.1
    (λ done. lent_fits lent.pass c.fail.new.steps.pass lent.words.now life.words words life.keeper c.fail.new.self done c.new-steps.ensures.words
    is stays (c.fail.ensures.fits done))
    refl a
