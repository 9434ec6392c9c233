use Rattle.std.proofs.Common.{refl}
use Rattle.store_layout.specs.Checkpoints.{checkpoint_header}
use Rattle.checkpoint_file.proofs.sections.header.Goals as goal

pub returns : goal.returns
unfolding checkpoint_header
returns c = rw (c.copy_from_slice-5.ensures.after, c.copy_from_slice-4.ensures.after, c.copy_from_slice-3.ensures.after, c.copy_from_slice-2.ensures.after, c.copy_from_slice.ensures.after, c.to_be_bytes-5.ensures, c.to_be_bytes-4.ensures, c.to_be_bytes-3.ensures, c.to_be_bytes-2.ensures, c.to_be_bytes.ensures, c.byte-bytes.ensures) refl
