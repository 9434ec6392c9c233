use Rattle.std.proofs.Common.{Ok, Err, refl}
use Rattle.one_history.specs.Turns.{record_of}
use Rattle.sim_rules.specs.declared.event.Event.TheVariants as event
use Rattle.schedule_sim.proofs.LivesParts.{fits_now, rests}
use Rattle.schedule_sim.proofs.Quiet.{seals, walks_skip}
use Rattle.schedule_sim.proofs.life.Life.seal.Goals as goal

pub seal-requires : goal.seal-requires
seal-requires c =
    let keeper = c.args.self.now.keeper in
    let words = c.args.self.now.words in
    let a = c.requires.1 in (
      words.stripes,
      a.done,
      record_of 64 words,
      fits_now c.requires.0 keeper words c.args.self.now.jobs.items a
          (rests keeper c.is_walking.result c.is_walking.ensures c.if-is_walking.false).1,
    )

pub returns-then-is_walking : goal.returns-then-is_walking
returns-then-is_walking c w a =
    walks_skip w event.Seal c.args.self.now c.is_walking.result c.laws_of_telling.ensures.walk (λ l e. e) c.is_walking.ensures c.if-is_walking.true a

pub returns-in-Ok : goal.returns-in-Ok
returns-in-Ok c w a =
    seals w c.args.self.now (record { keeper = c.seal.new.keeper; words = c.args.self.now.words; jobs = c.args.self.now.jobs }) c.is_walking.result
    c.seal.result (Ok tt) c.in-Ok.is
    c.laws_of_telling.ensures.walk c.laws_of_seals.ensures.seal c.steps_of_the_keeper.ensures.rests c.is_walking.ensures c.if-is_walking.false
    (rests c.args.self.now.keeper c.is_walking.result c.is_walking.ensures c.if-is_walking.false).1
    (record {
      failed = c.seal.ensures.failed;
      wrong_phase = c.seal.ensures.wrong_phase;
      early = c.seal.ensures.early;
      no_other = c.seal.ensures.no_other;
      ok = c.seal.ensures.ok;
      given = c.seal.ensures.given;
      err = c.seal.ensures.err;
    })
    (λ n done. c.seal.ensures.fits n done (record_of 64 c.args.self.now.words)) refl refl a

pub returns-in-Err : goal.returns-in-Err
returns-in-Err c w a =
    seals w c.args.self.now (record { keeper = c.seal.new.keeper; words = c.args.self.now.words; jobs = c.args.self.now.jobs }) c.is_walking.result
    c.seal.result (Err c.in-Err.refusal) c.in-Err.is
    c.laws_of_telling.ensures.walk c.laws_of_seals.ensures.seal c.steps_of_the_keeper.ensures.rests c.is_walking.ensures c.if-is_walking.false
    (rests c.args.self.now.keeper c.is_walking.result c.is_walking.ensures c.if-is_walking.false).1
    (record {
      failed = c.seal.ensures.failed;
      wrong_phase = c.seal.ensures.wrong_phase;
      early = c.seal.ensures.early;
      no_other = c.seal.ensures.no_other;
      ok = c.seal.ensures.ok;
      given = c.seal.ensures.given;
      err = c.seal.ensures.err;
    })
    (λ n done. c.seal.ensures.fits n done (record_of 64 c.args.self.now.words)) refl refl a
