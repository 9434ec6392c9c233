use Rattle.std.proofs.Common.{arith}
use Rattle.log_records.specs.Agreement.{IsBytes}
use Rattle.log_records.specs.Layout.{layout_of}
use Rattle.log_records.proofs.Agreeing.{only_memory}
use Rattle.log_records.proofs.Layouts.{layout_room}
use Rattle.checkpoint_file.proofs.EntryReading.{entry_agrees}
use Rattle.checkpoint_file.proofs.pieces.entry_at.Goals as goal

pub returns-in-Ok-clause-some : goal.returns-in-Ok-clause-some
returns-in-Ok-clause-some c =
    let fits : IsBytes c.args.bytes.now = λ i. omega (arith, c.type_inv.bytes i) in
    let t = (entry_agrees (layout_of c.args.version) (layout_room c.args.version)).takes c.args.bytes.now c.in-Ok.found.0 c.in-Ok.found.1.now fits c.in-Ok.ensures in
    (t.1.0, t.1.1, t.0.parts)

pub returns-in_default : goal.returns-in_default
returns-in_default c = record {
  some = tt;
  none = λ entry rest text value e. c.in_default.not-NoMemory (only_memory _ _ _ (entry_agrees (layout_of c.args.version) (layout_room c.args.version)) c.args.bytes.now rest entry c.in-Err.refusal (text, value) e c.in-Err.ensures);
  err = tt;
}
