use Rattle.std.proofs.Common.{length, take, ap, arith, length-append}
use Rattle.log_records.specs.Layout.{layout_of}
use Rattle.log_records.specs.Spelling.{record_bytes}
use Rattle.store_layout.specs.Logs.{records_bytes}
use Rattle.gate_log.specs.States.{commands_of}
use Rattle.gate_log.proofs.RecordLemmas.{key_most, records_more, within_at}
use Rattle.gate_log.proofs.frames.records_len.Goals as goal

pub loop-entry-preserved : goal.loop-entry-preserved
loop-entry-preserved c =
    let before = records_bytes (layout_of c.args.version) (commands_of (take c.loop-entry.entry-index c.args.entries.now)) in
    let more = records_more (layout_of c.args.version) c.args.entries.now c.loop-entry.entry-index c.entry-item.result (omega arith) c.entry-item.is in
    let within = within_at (layout_of c.args.version).key_limit c.args.entries.now c.loop-entry.entry-index c.entry-item.result (omega arith) c.entry-item.is c.requires.within in (
      omega (arith, ap length more, length-append before (record_bytes (layout_of c.args.version) c.entry-item.result.command), c.record_len-len.ensures.len),
      omega (arith, c.record_len-len.ensures.bound, within, key_most c.args.version),
    )

pub overflow_add-len : goal.overflow_add-len
overflow_add-len c =
    let within = within_at (layout_of c.args.version).key_limit c.args.entries.now c.loop-entry.entry-index c.entry-item.result (omega arith) c.entry-item.is c.requires.within in
    omega (arith, c.loop-entry.invariant.1, c.requires.few, c.record_len-len.ensures.bound, within, key_most c.args.version)
