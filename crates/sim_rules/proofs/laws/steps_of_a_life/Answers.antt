use Rattle.sim_rules.proofs.LifeGoing.{life_goes_on}
use Rattle.sim_rules.proofs.RunLaws.{draws_inside, ends_inside, quiet_inside, releases_inside}
use Rattle.sim_rules.proofs.laws.steps_of_a_life.Goals as goal

pub returns : goal.returns
returns c = record { quiet = quiet_inside; draws = draws_inside; releases = releases_inside; ends = ends_inside; goes_on = life_goes_on }
