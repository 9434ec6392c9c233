use Rattle.gate_log.proofs.StandingLemmas.{reads_in}
use Rattle.gate_log.proofs.laws.stops_of_a_log.Goals as goal

pub returns : goal.returns
returns c = λ log batches staged file content stands ready left. reads_in log batches stands.knows log.phase staged file stands.stands ready content left
