use Rattle.wire_frames.proofs.replies.write_fault.Goals as goal

pub returns : goal.returns
returns g c = rw (c.from-bits.ensures, c.number.ensures) at c.write_number.ensures
