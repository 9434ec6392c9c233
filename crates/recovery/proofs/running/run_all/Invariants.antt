use Rattle.std.proofs.Common.{◌≡◌, ◌<◌, ◌≤◌, ℕ, false, length, get_or}
use Rattle.recovery.specs.declared.lanes.Lane.{Lane}
use Rattle.recovery.specs.Lanes.{HasRun}
use Rattle.recovery.proofs.running.run_all.Given as goal

-- the first lanes have run, and the others stay
abbrev pub invariant-loop-place : goal.invariant-loop-place
invariant-loop-place l = record {
  len : length l.lanes ≡ length l.initial.lanes;
  others : (i : ℕ) (d : Lane) → l.place ≤ i → get_or l.lanes i d ≡ get_or l.initial.lanes i d;
  run : (i : ℕ) (d : Lane) → i < l.place → (get_or l.lanes i d).is_refused ≡ false → HasRun (get_or l.initial.lanes i d) (get_or l.lanes i d);
}
