use Rattle.durable_map.proofs.Answering.{in_turn}
use Rattle.durable_map.proofs.laws.calls_follow_each_other.Goals as goal

pub returns : goal.returns
returns c = λ n v u w first second one other a b. in_turn n v u w first second one other a b
