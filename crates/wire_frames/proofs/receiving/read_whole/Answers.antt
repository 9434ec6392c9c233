use Rattle.std.proofs.Common.{◌≡◌, ◌<◌, ◌-◌, length, take, rules, arith}
use borrow.Rule.Slice.PartMut.{put_mid}
use Rattle.std.proofs.lemmas.List.{length-take}
use Rattle.std.proofs.lemmas.Result.{err_from_is_err_and}
use Rattle.wire_frames.proofs.Received.{filled_then, stops_here}
use Rattle.wire_frames.proofs.receiving.read_whole.Goals as goal

pub returns-in_err-len : goal.returns-in_err-len
returns-in_err-len g c =
    let from = err_from_is_err_and c.from_residual.result c.from_residual.ensures.1 in
    let same : length (put_mid c.reads.filled (length c.reads.room - c.reads.filled) c.reads.room c.read_some.new.room) ≡ length c.reads.room = search rules in
    let short : length (take c.reads.filled c.reads.room) < length c.reads.room = omega (arith, length-take c.reads.filled c.reads.room, c.reads-test.true) in
    rw (from.1, from.2, same) (take c.reads.filled c.reads.room, short, stops_here _ _ _ _ _ c.reads.invariant.2 c.in_err-len.ensures)

pub reads-preserved : goal.reads-preserved
reads-preserved g c =
    let some = c.in_ok-len.ensures in
    (search rules, search rules, filled_then _ _ _ _ _ _ _ c.reads.invariant.1 some.1 c.reads.invariant.2 some.2)
