use Rattle.store_layout.proofs.Growing.{restores, restores_on, restores_grown, restores_opened}
use Rattle.store_layout.proofs.laws.laws_of_restoring.Goals as goal

pub returns : goal.returns
returns c = record { begins = restores; goes_on = restores_on; stays = restores_grown; opened = restores_opened }
