use Rattle.std.proofs.Common.{arith}
use Rattle.disk_model.proofs.LookLemmas.{one_look}
use Rattle.checkpoint_file.proofs.gate.must_close.Goals as goal

pub returns-in-Ok-eq0-clause-looks : goal.returns-in-Ok-eq0-clause-looks
returns-in-Ok-eq0-clause-looks g c =
    one_look g.D.Disk.states g.D.Disk.failures g.D.Disk.honest 0 c.args.disk.now c.read.new.self c.in-Ok-eq0.ensures.state (omega (arith, c.in-Ok-eq0.ensures.ok)) c.in-Ok-eq0.ensures.was_honest

pub returns-in-Ok-clause-looks : goal.returns-in-Ok-clause-looks
returns-in-Ok-clause-looks g c =
    one_look g.D.Disk.states g.D.Disk.failures g.D.Disk.honest 0 c.args.disk.now c.read.new.self c.in-Ok.ensures.state (omega (arith, c.in-Ok.ensures.ok)) c.in-Ok.ensures.was_honest

pub returns-in-Err-clause-failed : goal.returns-in-Err-clause-failed
returns-in-Err-clause-failed g c = one_look g.D.Disk.states g.D.Disk.failures g.D.Disk.honest 1 c.args.disk.now c.read.new.self c.in-Err.ensures.state c.in-Err.ensures.err c.in-Err.ensures.was_honest
