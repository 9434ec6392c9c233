-- The walk of a capture is at no stage of another walk.
use Rattle.std.proofs.Common.{◌≡◌, ℕ}
use Rattle.map_types.specs.declared.commands.Command.{Command}
use Rattle.map_types.specs.declared.commands.Read as read_type
use Rattle.map_types.specs.declared.commands.Reply.{Reply}
use Rattle.ticket_order.specs.declared.change_walk.ChangeStage.{ChangeStage}
use Rattle.ticket_order.specs.declared.change_walk.ChangeStage.TheVariants as change
use Rattle.ticket_order.specs.declared.read_walk.ReadStage.{ReadStage}
use Rattle.ticket_order.specs.declared.read_walk.ReadStage.TheVariants as read
use Rattle.ticket_order.specs.declared.release_walk.ReleaseStage.{ReleaseStage}
use Rattle.ticket_order.specs.declared.release_walk.ReleaseStage.TheVariants as release
use Rattle.ticket_order.specs.declared.sweep_walk.SweepStage.{SweepStage}
use Rattle.ticket_order.specs.declared.sweep_walk.SweepStage.TheVariants as sweep
use Rattle.ticket_order.specs.declared.walk.Stage.TheVariants as stage
use Rattle.ticket_order.specs.declared.record.Record.{Record}
use Rattle.ticket_order.specs.Walks.{FitsStage, ToCapture, ToChange, ToRead, ToRelease, ToSweep}

not_change : (i : ℕ) (c : Command) → ToCapture i ≡ ToChange c → ⊥
not_change i c e = cc

not_read : (i : ℕ) (r : read_type.Read) → ToCapture i ≡ ToRead r → ⊥
not_read i r e = cc

not_release : (i q : ℕ) (y : Reply) → ToCapture i ≡ ToRelease q y → ⊥
not_release i q y e = cc

not_sweep : (i j : ℕ) → ToCapture i ≡ ToSweep j → ⊥
not_sweep i j e = cc

pub same_stripe : (i j : ℕ) → ToCapture i ≡ ToCapture j → i ≡ j
same_stripe i j e = cc

pub by_change : (n : ℕ) (b : Record) (i : ℕ) (s : ChangeStage) (p : Record) → FitsStage n b (ToCapture i) (stage.Change s) p → ⊥
by_change n b i (change.Begins new) p k = not_change i new.command k.0.task_is
by_change n b i (change.HasTaken new t) p k = not_change i new.command k.0.task_is
by_change n b i (change.IsAlive new t) p k = not_change i new.command k.0.task_is
by_change n b i (change.IsReady new t prepared) p k = not_change i new.command k.0.task_is
by_change n b i (change.HasDrawn t h) p k = not_change i k.command k.task_is

pub by_read : (n : ℕ) (b : Record) (i : ℕ) (s : ReadStage) (p : Record) → FitsStage n b (ToCapture i) (stage.Read s) p → ⊥
by_read n b i (read.Begins r) p k = not_read i r k.task_is
by_read n b i (read.HasTaken r t) p k = not_read i r k.0.task_is
by_read n b i (read.HasRead r t h) p k = not_read i r k.0.task_is

pub by_release : (n : ℕ) (b : Record) (i : ℕ) (s : ReleaseStage) (p : Record) → FitsStage n b (ToCapture i) (stage.Release s) p → ⊥
by_release n b i (release.Begins h) p k = not_release i h.position h.reply k.0
by_release n b i (release.HasMissed h) p k = not_release i h.position h.reply k.0
by_release n b i (release.FoundFailure h) p k = not_release i h.position h.reply k.0

pub by_sweep : (n : ℕ) (b : Record) (i : ℕ) (s : SweepStage) (p : Record) → FitsStage n b (ToCapture i) (stage.Sweep s) p → ⊥
by_sweep n b i (sweep.Begins alloc j) p k = not_sweep i j k.0.task_is
by_sweep n b i (sweep.HasTaken alloc t) p k = not_sweep i t.stripe k.task_is
