use Rattle.ticket_order.proofs.walk.Walk.step.Goals as goal

pub step-requires : goal.step-requires
step-requires g c = (c.requires.0, c.requires.1, rw c.in-Change.is at c.requires.2)

pub step-requires-in-Read : goal.step-requires-in-Read
step-requires-in-Read g c = (c.requires.0, c.requires.1, rw c.in-Read.is at c.requires.2)

pub step-requires-in-Release : goal.step-requires-in-Release
step-requires-in-Release g c = (c.requires.0, c.requires.1, rw c.in-Release.is at c.requires.2)

pub step-requires-in-Sweep : goal.step-requires-in-Sweep
step-requires-in-Sweep g c = (c.requires.0, c.requires.1, rw c.in-Sweep.is at c.requires.2)

pub step-requires-in-Capture : goal.step-requires-in-Capture
step-requires-in-Capture g c = (c.requires.0, c.requires.1, rw c.in-Capture.is at c.requires.2)

pub give_back-requires : goal.give_back-requires
give_back-requires g c =
    let h = rw c.in-GivingBack.is at c.requires.2 in
    h.content
