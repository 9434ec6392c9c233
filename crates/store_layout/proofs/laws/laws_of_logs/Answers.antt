use Rattle.store_layout.proofs.Growing.{log_begun, log_opened, log_on, log_stays, next_stays}
use Rattle.store_layout.proofs.laws.laws_of_logs.Goals as goal

pub returns : goal.returns
returns c = record { begins = log_begun; opened = log_opened; goes_on = log_on; stays = log_stays; next = next_stays }
