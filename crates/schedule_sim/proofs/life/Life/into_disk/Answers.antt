use Rattle.one_history.specs.Turns.{record_of}
use Rattle.schedule_sim.proofs.Closings.{life_lies}
use Rattle.schedule_sim.proofs.life.Life.into_disk.Goals as goal

pub returns-clause-lies : goal.returns-clause-lies
returns-clause-lies c = λ w least life durable.
    let old = c.args.self in
    life_lies c.laws_of_known_histories.ensures.stands w least old.keeper old.words old.jobs.items c.into_disk.result c.into_disk.ensures life durable
    (c.stops_while_capturing.ensures old.words.stripes life.done (record_of 64 old.words) life.fits tt)
