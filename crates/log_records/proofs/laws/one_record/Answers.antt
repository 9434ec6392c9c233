use Rattle.log_records.proofs.Records.{one_record}
use Rattle.log_records.proofs.laws.one_record.Goals as goal

pub returns : goal.returns
returns c = one_record
