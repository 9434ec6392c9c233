use Rattle.std.proofs.Common.{[]}
use Rattle.run_data.proofs.log_writing.begun.Goals as goal

pub advance-requires : goal.advance-requires
advance-requires g c = record { stands = λ _ _. ([], [], c.new-log.ensures.stands _) }
