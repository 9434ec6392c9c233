use Rattle.sim_rules.proofs.HandLaws.{longest_run_in_hand}
use Rattle.sim_rules.proofs.laws.laws_of_batches.Goals as goal

pub returns : goal.returns
returns c = longest_run_in_hand
