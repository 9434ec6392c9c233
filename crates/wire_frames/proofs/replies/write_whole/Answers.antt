use Rattle.std.proofs.Common.{◌<◌, length, arith}
use Rattle.std.proofs.lemmas.Bool.Decides.{nat_tests}
use Rattle.std.proofs.lemmas.Result.{err_from_is_err_and}
use Rattle.wire_frames.proofs.Sent.{sent_next, stops_here}
use Rattle.wire_frames.proofs.replies.write_whole.Goals as goal

pub writes-preserved : goal.writes-preserved
writes-preserved g c = sent_next _ _ _ _ _ _ _ c.writes.invariant c.in_ok-taken.ensures.ok c.split_at.ensures.back

pub returns-in_err-taken : goal.returns-in_err-taken
returns-in_err-taken g c =
    let some : 0 < length c.writes.rest.now = grind (arith, nat_tests) in
    let from = err_from_is_err_and c.from_residual.result c.from_residual.ensures.1 in
    rw from.1 (stops_here _ _ _ _ _ c.writes.invariant some c.in_err-taken.ensures.err)
