use Rattle.cmd_mem.proofs.Releasing.{begins}
use Rattle.cmd_mem.proofs.Serving.{begun_made, begun_still}
use Rattle.wire_frames.specs.declared.requests.Request.TheVariants.{Change, Read}
use Rattle.cmd_mem.proofs.memory.make.Goals as goal

pub returns-in-Change-clause-others : goal.returns-in-Change-clause-others
returns-in-Change-clause-others g c =
    begun_still _ _ (Change c.in-Change.command) c.try_call.result _ (begins _ _ (Change c.in-Change.command) c.try_call.result _ c.try_call.ensures.made c.try_call.ensures.refused)

pub returns-in-Read-clause-made : goal.returns-in-Read-clause-made
returns-in-Read-clause-made g c =
    begun_made _ _ (Read c.in-Read.read) c.try_read.result _ (begins _ _ (Read c.in-Read.read) c.try_read.result _ c.try_read.ensures.made c.try_read.ensures.refused)

pub returns-in-Read-clause-others : goal.returns-in-Read-clause-others
returns-in-Read-clause-others g c =
    begun_still _ _ (Read c.in-Read.read) c.try_read.result _ (begins _ _ (Read c.in-Read.read) c.try_read.result _ c.try_read.ensures.made c.try_read.ensures.refused)
