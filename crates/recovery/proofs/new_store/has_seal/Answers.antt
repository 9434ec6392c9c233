use Rattle.std.proofs.Common.{arith}
use Rattle.disk_model.proofs.LookLemmas.{one_look}
use Rattle.recovery.proofs.new_store.has_seal.Goals as goal

pub returns-then-count-eq-BODY_OFFSET-clause-looks : goal.returns-then-count-eq-BODY_OFFSET-clause-looks
returns-then-count-eq-BODY_OFFSET-clause-looks g c =
    one_look g.D.Disk.states g.D.Disk.failures g.D.Disk.honest 0 c.args.disk.now c.read.new.self c.in-Ok.ensures.state (omega (arith, c.in-Ok.ensures.ok)) c.in-Ok.ensures.was_honest

pub returns-else-count-eq-BODY_OFFSET-clause-looks : goal.returns-else-count-eq-BODY_OFFSET-clause-looks
returns-else-count-eq-BODY_OFFSET-clause-looks g c =
    one_look g.D.Disk.states g.D.Disk.failures g.D.Disk.honest 0 c.args.disk.now c.read.new.self c.in-Ok.ensures.state (omega (arith, c.in-Ok.ensures.ok)) c.in-Ok.ensures.was_honest

pub returns-in-Err-clause-looks : goal.returns-in-Err-clause-looks
returns-in-Err-clause-looks g c = one_look g.D.Disk.states g.D.Disk.failures g.D.Disk.honest 1 c.args.disk.now c.read.new.self c.in-Err.ensures.state c.in-Err.ensures.err c.in-Err.ensures.was_honest
