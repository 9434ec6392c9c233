use Rattle.std.proofs.Common.{arith}
use Rattle.log_records.specs.Layout.{layout_of}
use Rattle.store_layout.proofs.LogLemmas.{length-frame}
use Rattle.gate_log.specs.States.{batch_of}
use Rattle.gate_log.proofs.frames.frame_len.Goals as goal

pub returns : goal.returns
returns c = λ first. omega (arith, length-frame (layout_of c.args.version) (batch_of first c.args.entries.now), c.records_len.ensures.len)
