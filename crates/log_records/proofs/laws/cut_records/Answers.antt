use Rattle.log_records.proofs.Cuts.{record_cut}
use Rattle.log_records.proofs.laws.cut_records.Goals as goal

pub returns : goal.returns
returns c = record_cut
