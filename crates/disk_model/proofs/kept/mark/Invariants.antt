use Rattle.std.proofs.Common.{◌≡◌, ◌<◌, ℕ, true, ◌&&◌, ◌||◌, nat_le, nat_lt, length, slice_index_or}
use Rattle.disk_model.proofs.kept.mark.Given as goal

abbrev pub invariant-loop-place : goal.invariant-loop-place
invariant-loop-place l = (i : ℕ) → i < length l.marks → slice_index_or l.marks i true ≡ (nat_le l.at i && nat_lt i l.place) || slice_index_or l.fn.marks i true
