use Rattle.java_hash.proofs.StripeLaws.{some_stripe}
use Rattle.schedule_sim.proofs.Openings.{AreLaws, life_began}
use Rattle.schedule_sim.proofs.life.Life.new.Goals as goal

pub returns-clause-life : goal.returns-clause-life
returns-clause-life c = λ w contents found limited opening.
    let laws : AreLaws = record { life = c.beginnings_of_lives.ensures.stand; opening = c.laws_of_lives.ensures.opening; parts = c.laws_of_parts.ensures.union } in
    life_began laws w c.args.stripes contents found c.args.keeper c.args.parts.items c.args.first c.args.limit c.in-Ok.words _ (some_stripe c.args.stripes.count c.args.stripes.allowed) c.requires.parts c.requires.fits
    c.requires.start c.keeps_one_history.ensures.one c.keeps_one_history.ensures.apart c.in-Ok.ensures.ok c.in_ok-idle_workers.ensures limited opening
