use Rattle.durable_map.proofs.Answering.{among}
use Rattle.durable_map.proofs.laws.begun_calls_complete.Goals as goal

pub returns : goal.returns
returns c = λ n v u x w asked held others answer begun between ended. among n v u x w asked held others answer begun between ended
