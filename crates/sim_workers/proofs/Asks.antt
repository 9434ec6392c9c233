-- How far the walk of a release has come, told by the record of its pass.
use Rattle.std.proofs.Common.{ℕ, ◌≡◌, ◌<◌, List, [], ◌∷◌, ◌++◌, Bool, true, false, arith, sym, ◌∙◌, ap, append-nil}
use Rattle.map_types.specs.declared.commands.Command.{Command}
use Rattle.map_types.specs.declared.commands.Read as read_type
use Rattle.map_types.specs.declared.commands.Reply.{Reply}
use Rattle.ticket_order.specs.declared.record.StepMade.{StepMade}
use Rattle.ticket_order.specs.declared.record.StepMade.TheVariants.{Saw, FoundAlive}
use Rattle.ticket_order.specs.declared.record.Record.{Record}
use Rattle.ticket_order.specs.declared.change_walk.ChangeStage.{ChangeStage}
use Rattle.ticket_order.specs.declared.change_walk.ChangeStage.TheVariants as change
use Rattle.ticket_order.specs.declared.read_walk.ReadStage.{ReadStage}
use Rattle.ticket_order.specs.declared.read_walk.ReadStage.TheVariants as read
use Rattle.ticket_order.specs.declared.release_walk.ReleaseStage.{ReleaseStage}
use Rattle.ticket_order.specs.declared.release_walk.ReleaseStage.TheVariants as release
use Rattle.ticket_order.specs.declared.sweep_walk.SweepStage.{SweepStage}
use Rattle.ticket_order.specs.declared.sweep_walk.SweepStage.TheVariants as sweep
use Rattle.ticket_order.specs.declared.capture_walk.CaptureStage.{CaptureStage}
use Rattle.ticket_order.specs.declared.capture_walk.CaptureStage.TheVariants as capture
use Rattle.ticket_order.specs.declared.walk.Stage as walk_stage
use Rattle.ticket_order.specs.declared.walk.Stage.TheVariants as stage
use Rattle.ticket_order.specs.Records.{seeing, living}
use Rattle.ticket_order.specs.Calls.{Misses, MissesAlive}
use Rattle.ticket_order.specs.Walks.{ToChange, ToRead, ToRelease, ToSweep, ToCapture, FitsStage, FitsChange, FitsRead, FitsRelease, FitsSweep, FitsCapture}
use Rattle.sim_workers.proofs.Lists.{onto}

-- What the steps of a release were.
pub data Way : Type 0 where
  Starts : Way
  Missed : ℕ → Way
  -- ALIVE said this, after a SEE of that count
  Asked : ℕ → Bool → Way
  -- a second SEE found the second count
  SawAgain : ℕ → ℕ → Way

abbrev pub steps_of : Way → List StepMade
steps_of Starts = []
steps_of (Missed d) = Saw d ∷ []
steps_of (Asked d is_alive) = Saw d ∷ FoundAlive is_alive ∷ []
steps_of (SawAgain d e) = Saw d ∷ FoundAlive false ∷ Saw e ∷ []

-- the record p goes on from b by these steps, with the same stripe in hand and the same calls
pub record GoesBy (b : Record) (way : Way) (p : Record) : Type 0 where
  pub steps : p.steps ≡ b.steps ++ steps_of way
  pub holding : p.holding ≡ b.holding
  pub calls : p.calls ≡ b.calls

pub starts : (b p : Record) → p ≡ b → GoesBy b Starts p
starts b p is = record { steps = ap (λ (r : Record). r.steps) is ∙ sym (append-nil b.steps); holding = ap (λ (r : Record). r.holding) is; calls = ap (λ (r : Record). r.calls) is }

pub saw : (b p : Record) (d : ℕ) (between : List Command) → p ≡ seeing b d between → GoesBy b (Missed d) p
saw b p d between is = record { steps = ap (λ (r : Record). r.steps) is; holding = ap (λ (r : Record). r.holding) is; calls = ap (λ (r : Record). r.calls) is }

pub asked : (b q p : Record) (d : ℕ) (is_alive : Bool) → GoesBy b (Missed d) q → p ≡ living q is_alive → GoesBy b (Asked d is_alive) p
asked b q p d is_alive by is = record {
  steps = ap (λ (r : Record). r.steps) is ∙ onto b.steps (steps_of (Missed d)) q.steps (FoundAlive is_alive) by.steps;
  holding = ap (λ (r : Record). r.holding) is ∙ by.holding;
  calls = ap (λ (r : Record). r.calls) is ∙ by.calls;
}

pub saw_again : (b q p : Record) (d e : ℕ) (between : List Command) → GoesBy b (Asked d false) q → p ≡ seeing q e between → GoesBy b (SawAgain d e) p
saw_again b q p d e between by is = record {
  steps = ap (λ (r : Record). r.steps) is ∙ onto b.steps (steps_of (Asked d false)) q.steps (Saw e) by.steps;
  holding = ap (λ (r : Record). r.holding) is ∙ by.holding;
  calls = ap (λ (r : Record). r.calls) is ∙ by.calls;
}

-- a SEE that was below the position
pub missed : (position : ℕ) (b p : Record) (m : Misses position b p) → GoesBy b (Missed m.durable) p
missed position b p m = saw b p m.durable m.sees.between m.sees.is

pub missed_alive : (position : ℕ) (is_alive : Bool) (b p : Record) (m : MissesAlive position is_alive b p) → GoesBy b (Asked m.misses.durable is_alive) p
missed_alive position is_alive b p m = asked b m.between p m.misses.durable is_alive (missed position b m.between m.misses) m.lives.is

-- the walk goes on from here: it has begun, or a SEE was below the position, or after that ALIVE said no
abbrev pub IsOpen : ℕ → Way → Type 0
IsOpen position Starts = Unit {0}
IsOpen position (Missed d) = d < position
IsOpen position (Asked d true) = ⊥
IsOpen position (Asked d false) = d < position
IsOpen position (SawAgain d e) = ⊥

pub record StandsBy (b : Record) (position : ℕ) (p : Record) : Type 0 where
  pub way : Way
  pub by : GoesBy b way p
  pub is_open : IsOpen position way

module _ (n : ℕ) (b : Record) (position : ℕ) (reply : Reply) (p : Record) where
  releasing : (s : ReleaseStage) → FitsRelease b (ToRelease position reply) s p → StandsBy b position p
  releasing (release.Begins h) fits = record { way = Starts; by = starts b p fits.1; is_open = tt }
  releasing (release.HasMissed h) fits =
      let same : position ≡ h.position = (let e : ToRelease position reply ≡ ToRelease h.position h.reply = fits.0 in cc) in
      record { way = Missed fits.1.durable; by = missed h.position b p fits.1; is_open = omega (arith, fits.1.missed, same) }
  releasing (release.FoundFailure h) fits =
      let same : position ≡ h.position = (let e : ToRelease position reply ≡ ToRelease h.position h.reply = fits.0 in cc) in
      record { way = Asked fits.1.misses.durable false; by = missed_alive h.position false b p fits.1; is_open = omega (arith, fits.1.misses.missed, same) }

  no_change : (c : Command) → ToRelease position reply ≡ ToChange c → ⊥
  no_change c e = cc

  no_read : (r : read_type.Read) → ToRelease position reply ≡ ToRead r → ⊥
  no_read r e = cc

  no_sweep : (i : ℕ) → ToRelease position reply ≡ ToSweep i → ⊥
  no_sweep i e = cc

  no_capture : (i : ℕ) → ToRelease position reply ≡ ToCapture i → ⊥
  no_capture i e = cc

  changing : (s : ChangeStage) → FitsChange n b (ToRelease position reply) s p → ⊥
  changing (change.Begins new) fits = no_change new.command fits.0.task_is
  changing (change.HasTaken new t) fits = no_change new.command fits.0.task_is
  changing (change.IsAlive new t) fits = no_change new.command fits.0.task_is
  changing (change.IsReady new t prepared) fits = no_change new.command fits.0.task_is
  changing (change.HasDrawn t h) fits = no_change fits.command fits.task_is

  reading : (s : ReadStage) → FitsRead n b (ToRelease position reply) s p → ⊥
  reading (read.Begins r) fits = no_read r fits.task_is
  reading (read.HasTaken r t) fits = no_read r fits.0.task_is
  reading (read.HasRead r t h) fits = no_read r fits.0.task_is

  sweeping : (s : SweepStage) → FitsSweep n b (ToRelease position reply) s p → ⊥
  sweeping (sweep.Begins alloc i) fits = no_sweep i fits.0.task_is
  sweeping (sweep.HasTaken alloc t) fits = no_sweep t.stripe fits.task_is

  capturing : (s : CaptureStage) → FitsCapture n b (ToRelease position reply) s p → ⊥
  capturing (capture.Begins i) fits = no_capture i fits.0.task_is
  capturing (capture.HasTaken t) fits = no_capture t.stripe fits.0
  capturing (capture.HasLooked t z) fits = no_capture t.stripe fits.0

  -- The walk of a release that stands at the record p has come to it by such steps.
  pub release_goes : (s : walk_stage.Stage) → FitsStage n b (ToRelease position reply) s p → StandsBy b position p
  release_goes (stage.Change s) fits = absurd (changing s fits)
  release_goes (stage.Read s) fits = absurd (reading s fits)
  release_goes (stage.Release s) fits = releasing s fits
  release_goes (stage.Sweep s) fits = absurd (sweeping s fits)
  release_goes (stage.Capture s) fits = absurd (capturing s fits)
  release_goes (stage.GivingBack t e) fits = absurd fits.refused
