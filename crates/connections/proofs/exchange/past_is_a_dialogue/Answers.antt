use Rattle.connections.proofs.Pasts.{past_dialogue}
use Rattle.connections.proofs.exchange.past_is_a_dialogue.Goals as goal

pub returns : goal.returns
returns g c = λ past left p. past_dialogue past left p
