use Rattle.wire_frames.proofs.replies.write_number.Goals as goal

pub returns : goal.returns
returns g c = rw c.to_be_bytes-b.ensures at c.write_whole.ensures
