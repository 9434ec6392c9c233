use Rattle.std.proofs.Common.{[]}
use Rattle.run_data.proofs.log_writing.log_written.Goals as goal

pub write_log-requires : goal.write_log-requires
write_log-requires c = λ _ _. ([], [], c.new-log.ensures.stands _)
