use Rattle.cmd_mem.specs.Served.{IsIdle}
use Rattle.cmd_mem.proofs.Releasing.{ends, holds_still}
use Rattle.cmd_mem.proofs.Serving.{ended_still}
use Rattle.cmd_mem.proofs.memory.end.Goals as goal

pub returns-clause-ends : goal.returns-clause-ends
returns-clause-ends g c =
    ends (IsIdle c.give_out.new.journal.keeper) _ c.args.held c.give_out.result _ _ c.give_out.ensures.ok c.give_out.ensures.err

pub returns-clause-works : goal.returns-clause-works
returns-clause-works g c = λ still. holds_still _ _ _ (IsIdle c.give_out.new.journal.keeper) c.give_out.result c.give_out.ensures.ok c.give_out.ensures.err still

pub returns-clause-others : goal.returns-clause-others
returns-clause-others g c =
    ended_still _ c.args.held c.give_out.result _ _ (ends (IsIdle c.give_out.new.journal.keeper) _ c.args.held c.give_out.result _ _ c.give_out.ensures.ok c.give_out.ensures.err)
