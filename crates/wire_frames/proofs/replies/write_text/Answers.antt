use Rattle.std.proofs.Common.{◌≡◌, suc, ◌+◌, length, arith}
use Rattle.std.proofs.lemmas.Result.{err_from_is_err_and}
use Rattle.wire_frames.proofs.Sent.{then_writes, stops_within}
use Rattle.wire_frames.proofs.replies.write_text.Goals as goal

pub returns : goal.returns
returns g c =
    let e : length c.args.text.now + 4 ≡ suc (suc (suc (suc (length c.args.text.now)))) = omega arith in
    let head = rw (c.to_be_bytes-all.ensures, c.to_be_bytes-len.ensures) at c.in_ok-write_whole.ensures in
    let text = rw c.as_bytes.ensures.value at c.write_whole-2.ensures in
    rw (← e) (then_writes _ _ _ _ _ _ head text)

pub returns-in_err-write_whole : goal.returns-in_err-write_whole
returns-in_err-write_whole g c =
    let e : length c.args.text.now + 4 ≡ suc (suc (suc (suc (length c.args.text.now)))) = omega arith in
    let from = err_from_is_err_and c.from_residual.result c.from_residual.ensures.1 in
    let cut = rw (c.to_be_bytes-all.ensures, c.to_be_bytes-len.ensures) at c.in_err-write_whole.ensures in
    rw (from.1, ← e) (stops_within _ _ _ c.args.text.now cut)
