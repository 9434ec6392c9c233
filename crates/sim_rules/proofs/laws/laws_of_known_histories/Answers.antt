use Rattle.sim_rules.proofs.KnownLaws.{known_folds, known_is_legal, known_stands}
use Rattle.sim_rules.proofs.laws.laws_of_known_histories.Goals as goal

pub returns : goal.returns
returns c = record { folds = known_folds; legal = known_is_legal; stands = known_stands }
