use Rattle.wire_frames.proofs.Division.{every_division}
use Rattle.wire_frames.proofs.feeder.every_division.Goals as goal

pub returns : goal.returns
returns c = every_division
