use Rattle.cmd_serve.proofs.Queueing.{owns_queued}
use Rattle.cmd_serve.proofs.turns.Turns.keep.Goals as goal

pub invariant_of-self-2 : goal.invariant_of-self-2
invariant_of-self-2 g c =
    owns_queued g.C.Calls.owns c.self.inside.calls c.reserve.new.self.items c.push_back_reserved.new.self.items (record { key = c.args.key; connection = c.args.connection }) c.push_back_reserved.ensures.items (rw c.reserve.ensures.items c.self.invariant) (rw c.self.view_is c.requires)
