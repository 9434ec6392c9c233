use Rattle.checkpoint_file.proofs.StandingLemmas.{reads_in}
use Rattle.checkpoint_file.proofs.laws.stops_of_a_checkpoint.Goals as goal

pub returns : goal.returns
returns c = λ w old sections file content stands left. reads_in w sections stands.knows w.phase old file stands.stands content left
