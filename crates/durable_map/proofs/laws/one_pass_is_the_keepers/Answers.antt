use Rattle.durable_map.proofs.Released.{one_keeper}
use Rattle.durable_map.proofs.laws.one_pass_is_the_keepers.Goals as goal

pub returns : goal.returns
returns c = one_keeper
