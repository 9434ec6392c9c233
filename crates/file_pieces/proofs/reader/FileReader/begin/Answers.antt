use Rattle.std.proofs.Common.{arith}
use Rattle.disk_model.proofs.LookLemmas.{one_look}
use Rattle.file_pieces.proofs.reader.FileReader.begin.Goals as goal

pub returns-in_default-clause-looks : goal.returns-in_default-clause-looks
returns-in_default-clause-looks g c = one_look g.D.Disk.states g.D.Disk.failures g.D.Disk.honest 1 c.args.disk.now c.len.new.self c.in_default.ensures.state c.in_default.ensures.err c.in_default.ensures.was_honest

pub returns-clause-looks : goal.returns-clause-looks
returns-clause-looks g c = one_look g.D.Disk.states g.D.Disk.failures g.D.Disk.honest 0 c.args.disk.now c.len.new.self c.in-Ok.ensures.state (omega (arith, c.in-Ok.ensures.ok)) c.in-Ok.ensures.was_honest
