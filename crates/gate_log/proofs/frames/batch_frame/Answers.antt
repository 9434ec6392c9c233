use Rattle.std.proofs.Common.{◌+◌, arith}
use Rattle.log_records.specs.Layout.{layout_of}
use Rattle.gate_log.proofs.RecordLemmas.{frame_pieces}
use Rattle.gate_log.proofs.frames.batch_frame.Goals as goal

pub returns-clause-ok : goal.returns-clause-ok
returns-clause-ok c =
    rw (c.in_ok-push-2.ensures.items, c.in_ok-append_records.ensures.ok, c.in_ok-put_number-3.ensures.ok, c.in_ok-put_number-2.ensures.ok, c.in_ok-put_number.ensures.ok, c.in_ok-push.ensures.items, c.in_ok-bytes.ensures.items)
    (frame_pieces (layout_of c.args.version) c.args.first c.args.entries.now (12 + c.records_len-records.result) _ (omega (arith, c.records_len-records.ensures.len)) (omega arith))
