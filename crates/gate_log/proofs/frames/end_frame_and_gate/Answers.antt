use Rattle.std.proofs.Common.{refl}
use Rattle.store_layout.specs.Logs.{end_frame}
use Rattle.gate_log.proofs.frames.end_frame_and_gate.Goals as goal

pub returns : goal.returns
unfolding end_frame
returns c = rw (c.copy_from_slice-2.ensures.after, c.copy_from_slice.ensures.after, c.to_be_bytes-2.ensures, c.to_be_bytes.ensures) refl
