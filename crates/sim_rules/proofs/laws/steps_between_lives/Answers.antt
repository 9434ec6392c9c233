use Rattle.sim_rules.proofs.NextLife.{front_is_found, next_life_begins, standing_files_open}
use Rattle.sim_rules.proofs.RunLaws.{opens_outside, quiet_outside, sound_at_old_start, sound_at_start, stops_outside}
use Rattle.sim_rules.proofs.laws.steps_between_lives.Goals as goal

pub returns : goal.returns
returns c = record { start = sound_at_start; old = sound_at_old_start; stops = stops_outside; quiet = quiet_outside; opens = opens_outside; goes_on = next_life_begins; front = front_is_found c.laws_of_opening.ensures.one; well = standing_files_open c.laws_of_opening.ensures.never_both }
