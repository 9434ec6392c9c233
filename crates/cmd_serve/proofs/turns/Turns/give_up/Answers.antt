use Rattle.connections.proofs.Owning.{still_owns_each}
use Rattle.cmd_serve.proofs.turns.Turns.give_up.Goals as goal

pub invariant_of-self : goal.invariant_of-self
invariant_of-self g c = still_owns_each g.C.Calls.owns _ _ _ c.give_up.ensures.others c.self.invariant
