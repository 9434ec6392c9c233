use Rattle.wire_frames.proofs.replies.write_did.Goals as goal

pub returns : goal.returns
returns g c = rw c.from-bits.ensures at c.write_number.ensures
