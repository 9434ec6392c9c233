-- A walk that isn't over has a step left.
use Rattle.std.proofs.Common.{◌≡◌, ◌≤◌, [], Some, false, refl, arith}
use Rattle.map_types.specs.declared.refusals.Refusal.{Refusal}
use Rattle.ticket_order.specs.declared.change_walk.ChangeStage.{ChangeStage}
use Rattle.ticket_order.specs.declared.change_walk.ChangeStage.TheVariants as change
use Rattle.ticket_order.specs.declared.read_walk.ReadStage.{ReadStage}
use Rattle.ticket_order.specs.declared.read_walk.ReadStage.TheVariants as read
use Rattle.ticket_order.specs.declared.release_walk.ReleaseStage.{ReleaseStage}
use Rattle.ticket_order.specs.declared.release_walk.ReleaseStage.TheVariants as release
use Rattle.ticket_order.specs.declared.sweep_walk.SweepStage.{SweepStage}
use Rattle.ticket_order.specs.declared.sweep_walk.SweepStage.TheVariants as sweep
use Rattle.ticket_order.specs.declared.capture_walk.CaptureStage.{CaptureStage}
use Rattle.ticket_order.specs.declared.capture_walk.CaptureStage.TheVariants as capture
use Rattle.ticket_order.specs.declared.walk.Stage.{Stage}
use Rattle.ticket_order.specs.declared.walk.Stage.TheVariants as stage
use Rattle.ticket_order.specs.declared.walk.Walk.{Walk}
use Rattle.ticket_order.specs.Walks.{left_of_change, left_of_read, left_of_release, left_of_sweep, left_of_capture, left_of_stage, steps_left, holds_of_sweep, holds_of_stage, is_holding, entries_of_sweep, entries_of_stage, entries_of_walk, refusal_of_stage, refusal_of_walk}

change_left : (s : ChangeStage) → 1 ≤ left_of_change s
change_left (change.Begins new) = omega arith
change_left (change.HasTaken new t) = omega arith
change_left (change.IsAlive new t) = omega arith
change_left (change.IsReady new t prepared) = omega arith
change_left (change.HasDrawn t h) = omega arith

read_left : (s : ReadStage) → 1 ≤ left_of_read s
read_left (read.Begins r) = omega arith
read_left (read.HasTaken r t) = omega arith
read_left (read.HasRead r t h) = omega arith

release_left : (s : ReleaseStage) → 1 ≤ left_of_release s
release_left (release.Begins h) = omega arith
release_left (release.HasMissed h) = omega arith
release_left (release.FoundFailure h) = omega arith

sweep_left : (s : SweepStage) → 1 ≤ left_of_sweep s
sweep_left (sweep.Begins spare i) = omega arith
sweep_left (sweep.HasTaken spare t) = omega arith

capture_left : (s : CaptureStage) → 1 ≤ left_of_capture s
capture_left (capture.Begins i) = omega arith
capture_left (capture.HasTaken t) = omega arith
capture_left (capture.HasLooked t z) = omega arith

stage_left : (s : Stage) → 1 ≤ left_of_stage s
stage_left (stage.Change s) = change_left s
stage_left (stage.Read s) = read_left s
stage_left (stage.Release s) = release_left s
stage_left (stage.Sweep s) = sweep_left s
stage_left (stage.Capture s) = capture_left s
stage_left (stage.GivingBack t e) = omega arith

pub some_left : (w : Walk) → 1 ≤ steps_left w
some_left w = stage_left w.stage

sweep_empty : (s : SweepStage) → holds_of_sweep s ≡ false → entries_of_sweep s ≡ []
sweep_empty (sweep.Begins spare i) h = refl
sweep_empty (sweep.HasTaken spare t) h = cc

stage_empty : (s : Stage) → holds_of_stage s ≡ false → entries_of_stage s ≡ []
stage_empty (stage.Change s) h = refl
stage_empty (stage.Read s) h = refl
stage_empty (stage.Release s) h = refl
stage_empty (stage.Sweep s) h = sweep_empty s h
stage_empty (stage.Capture s) h = refl
stage_empty (stage.GivingBack t e) h = refl

-- a walk that has more left than its GIVE has no entries to hand out
pub none_to_hand_out : (w : Walk) → is_holding w ≡ false → entries_of_walk w ≡ []
none_to_hand_out w h = stage_empty w.stage h

stage_refusing : (s : Stage) (e : Refusal) → refusal_of_stage s ≡ Some e → left_of_stage s ≡ 1
stage_refusing (stage.Change s) e h = cc
stage_refusing (stage.Read s) e h = cc
stage_refusing (stage.Release s) e h = cc
stage_refusing (stage.Sweep s) e h = cc
stage_refusing (stage.Capture s) e h = cc
stage_refusing (stage.GivingBack t f) e h = refl

-- a walk that is to refuse has only its GIVE left
pub refusing_left : (w : Walk) (e : Refusal) → refusal_of_walk w ≡ Some e → steps_left w ≡ 1
refusing_left w e h = stage_refusing w.stage e h
