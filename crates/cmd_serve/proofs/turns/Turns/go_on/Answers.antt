use Rattle.connections.proofs.Owning.{still_owns_each}
use Rattle.cmd_serve.proofs.turns.Turns.go_on.Goals as goal

pub invariant_of-self : goal.invariant_of-self
invariant_of-self g c = still_owns_each g.C.Calls.owns _ _ _ c.exchange.ensures.others c.self.invariant

pub invariant_of-self-in-BreaksOff : goal.invariant_of-self-in-BreaksOff
invariant_of-self-in-BreaksOff g c = still_owns_each g.C.Calls.owns _ _ _ c.exchange.ensures.others c.self.invariant

pub invariant_of-self-in-Gone : goal.invariant_of-self-in-Gone
invariant_of-self-in-Gone g c = still_owns_each g.C.Calls.owns _ _ _ c.exchange.ensures.others c.self.invariant
