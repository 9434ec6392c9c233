use Rattle.sim_rules.proofs.RunLaws.{new_is_run, old_is_run, sound_between_is_run, sound_is_run}
use Rattle.sim_rules.proofs.laws.ends_of_runs.Goals as goal

pub returns : goal.returns
returns c = record { inside = sound_is_run; outside = sound_between_is_run; new = new_is_run; old = old_is_run }
