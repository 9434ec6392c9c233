use Rattle.store_layout.proofs.NewStores.{first_is_whole, first_stands}
use Rattle.store_layout.proofs.laws.laws_of_new_stores.Goals as goal

pub returns : goal.returns
returns c = record { whole = first_is_whole; stands = first_stands }
