use Rattle.connections.proofs.Owning.{still_owns_each}
use Rattle.cmd_serve.proofs.turns.Turns.begin.Goals as goal

pub invariant_of-self-2 : goal.invariant_of-self-2
invariant_of-self-2 g c = still_owns_each g.C.Calls.owns _ _ _ c.begin.ensures.others c.self.invariant
