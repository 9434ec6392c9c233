use Rattle.wire_frames.proofs.Division.{one_division}
use Rattle.wire_frames.proofs.feeder.one_division.Goals as goal

pub returns : goal.returns
returns c = one_division
