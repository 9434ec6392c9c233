use Rattle.disk_model.specs.Fills.{byte_torn}
use Rattle.disk_model.proofs.FillLemmas.{bytes_by_more}
use Rattle.disk_model.proofs.kept.Kept.bytes_torn.Goals as goal

pub loop-i-preserved : goal.loop-i-preserved
loop-i-preserved c = λ file h.
    let before = c.loop-i.invariant file h in
    let next = c.byte_torn.ensures file h in
    let more = bytes_by_more c.loop-i.i (byte_torn c.args.fill.now c.args.at c.args.bytes.now file) in
    cc (c.in_ok-push.ensures.items)
