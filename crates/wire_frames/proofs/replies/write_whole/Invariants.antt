use Rattle.std.proofs.Common.{length}
use Rattle.wire_frames.proofs.Sent.{Sent}
use Rattle.wire_frames.proofs.replies.write_whole.Given as goal

abbrev pub invariant-writes : goal.invariant-writes
invariant-writes g l =
    Sent (g.W.Write.contents l.initial.writer) (g.W.Write.contents l.writer) l.bytes l.rest

abbrev pub decreases-writes : goal.decreases-writes
decreases-writes g l = length l.rest
