use Rattle.map_model.proofs.HistoryLaws.{legal_change, legal_read}
use Rattle.map_model.proofs.laws.laws_of_histories.Goals as goal

pub returns : goal.returns
returns c = record { changes = legal_change; reads = legal_read }
