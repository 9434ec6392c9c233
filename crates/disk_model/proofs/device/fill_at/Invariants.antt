use Rattle.std.proofs.Common.{◌≤◌, length}
use Rattle.disk_model.proofs.device.fill_at.Given as goal

abbrev pub invariant-loop-turn : goal.invariant-loop-turn
invariant-loop-turn g l = l.done ≤ length l.buf
