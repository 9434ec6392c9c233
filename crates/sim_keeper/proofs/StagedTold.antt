-- How much is staged.
use Rattle.std.proofs.Common.{◌≡◌, ℕ, List, length, Option, None, Some, Bool, true, false, refl, sym, ◌∙◌, ap}
use Rattle.map_types.specs.declared.commands.Command.{Command}
use Rattle.ticket_order.specs.declared.record.Record.{Record}
use Rattle.ticket_order.specs.declared.stripe.Entry.{Entry}
use Rattle.ticket_order.specs.declared.walk.Walk.{Walk}
use Rattle.disk_model.specs.Files.{Files}
use Rattle.store_layout.specs.declared.log_phase.Phase.{Phase}
use Rattle.store_layout.specs.declared.log_phase.Phase.TheVariants as log_phase
use Rattle.gate_log.specs.States.{LogState}
use Rattle.flusher.specs.declared.keeper.Keeper.{Keeper}
use Rattle.flusher.specs.Fitting.{Fits, IsEmptyIn}
use Rattle.flusher.specs.Rotating.{MayRotate}
use Rattle.checkpoint_walk.specs.Walking.{FitsBy}
use Rattle.sim_rules.specs.World.{World, Life}
use Rattle.sim_rules.specs.Runs.{staged_in}
use Rattle.sim_keeper.specs.Laws.{StagedIsTold}
use Rattle.sim_keeper.specs.Showing.{committing, work_by}
use Rattle.sim_keeper.specs.KeeperInWorld.{KeeperStands}

-- where the log rests nothing is
in_phase : (phase : Phase) (staged : List Entry) → IsEmptyIn phase staged → staged_in (committing phase (length staged)) ≡ length staged
in_phase log_phase.Idle staged none = sym (ap (λ (xs : List Entry). length xs) none)
in_phase phase staged none = refl

-- nor during a rotation
shown : (newest : LogState) (next : Option LogState) (staged : List Entry) → MayRotate next newest staged → IsEmptyIn newest.phase staged → staged_in (work_by newest next (length staged)) ≡ length staged
shown newest None staged rotates none = in_phase newest.phase staged none
shown newest (Some next) staged rotates none = sym (ap (λ (xs : List Entry). length xs) rotates.none_staged)

module _ {D : Type 0} (states : D → List Files) (honest : D → Type 0) (n : ℕ) (done : List Command) (keeper : Keeper D) (p q : Record) (w : World) (l : Life) (f : Fits states honest n done keeper q) (s : KeeperStands states keeper p w l) where
  by_state : (b : Bool) → keeper.is_broken ≡ b → staged_in l.log ≡ length keeper.staged.items
  by_state true broken = s.staged broken
  by_state false works = ap staged_in (s.store works).log ∙ shown keeper.log keeper.next keeper.staged.items f.rotation f.counts.empty

  pub staged_told : staged_in l.log ≡ length keeper.staged.items
  staged_told = by_state keeper.is_broken refl

-- also between the steps of a capture
told_by : {D : Type 0} (states : D → List Files) (honest : D → Type 0) (n : ℕ) (done : List Command) (keeper : Keeper D) (p : Record) (w : World) (l : Life) (o : Option Walk) → FitsBy o states honest n done keeper p
    → KeeperStands states keeper p w l → staged_in l.log ≡ length keeper.staged.items
told_by {D} states honest n done keeper p w l None fits s = staged_told states honest n done keeper p p w l fits s
told_by {D} states honest n done keeper p w l (Some walk) fits s = staged_told states honest n done keeper p fits.begun w l fits.fits s

pub staged_is_told : {D : Type 0} (states : D → List Files) (honest : D → Type 0) → StagedIsTold states honest
staged_is_told {D} states honest n done keeper p w l fits s = told_by states honest n done keeper p w l keeper.capture fits s
