use Rattle.log_records.proofs.Records.{record_agrees}
use Rattle.log_records.proofs.laws.record_agrees.Goals as goal

pub returns : goal.returns
returns c = record_agrees
