use Rattle.disk_model.specs.Files.{now}
use Rattle.checkpoint_walk.proofs.Sealed.{fits_sealing, given_sealing}
use Rattle.checkpoint_walk.proofs.sealing.seal.Goals as goal

pub returns-in-Some-clause-fits : goal.returns-in-Some-clause-fits
returns-in-Some-clause-fits g c = λ n done p f.
    fits_sealing g.D.Disk.states g.D.Disk.honest n done c.args.keeper.now p c.in-Some.writer c.seal_by.new.writer c.seal_by.result c.steps_of_checkpoints.ensures.seals f c.if-keeper.false c.in-Some.is
    c.seal_by.ensures.ok c.seal_by.ensures.reached c.seal_by.ensures.stands c.seal_by.ensures.err

pub returns-in-Some-clause-given : goal.returns-in-Some-clause-given
returns-in-Some-clause-given g c = λ sections k.
    given_sealing (now (g.D.Disk.states c.args.keeper.now.disk)) c.args.keeper.now.checkpoint c.in-Some.writer c.seal_by.new.writer c.seal_by.result sections c.in-Some.is c.seal_by.ensures.ok c.seal_by.ensures.stands c.seal_by.ensures.err k
