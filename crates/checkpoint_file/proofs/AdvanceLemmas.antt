-- One step of a checkpoint, from the device call that it makes.
use Rattle.std.proofs.Common.{◌≡◌, ◌⊎◌, inl, inr, ⊎_elim, ℕ, true, false, List, ◌∷◌, None, Some, Ok, Err, refl, sym, ◌∙◌, ap, subst}
use Rattle.disk_model.specs.Calls.{Makes, Fails}
use Rattle.disk_model.specs.Files.{File, Files, MayLeave, now, with_file}
use Rattle.disk_model.specs.Gates.{Call, IsPlaced, called}
use Rattle.disk_model.specs.Moments.{AtEachMoment}
use Rattle.disk_model.proofs.FileLemmas.{with_same, with_other}
use Rattle.disk_model.proofs.MomentLemmas.{one_call}
use Rattle.map_types.specs.declared.refusals.Refusal.TheVariants.{Failed}
use Rattle.store_layout.specs.Checkpoints.{Section, checkpoint_file}
use Rattle.store_layout.specs.declared.checkpoint_phase.CheckpointPhase.{CheckpointPhase}
use Rattle.store_layout.specs.declared.checkpoint_phase.CheckpointPhase.TheVariants.{Idle, Gate, GateWritten, GateSynced, Ready, Staged, Header, HeaderWritten, HeaderSynced, Opened, Sealed}
use Rattle.checkpoint_file.specs.States.{CheckpointState, call_in, state_after}
use Rattle.checkpoint_file.specs.CheckpointStates.{Stands, IsKept, MayRead}
use Rattle.checkpoint_file.specs.CheckpointSteps.{Advances, MayAdvance}
use Rattle.checkpoint_file.proofs.StandingLemmas.{reads_in, placed, goes_to, called_reads, failed_reads}

-- a call is due, or none is and the checkpoint stays as it is
cases_due : (phase : CheckpointPhase) (w : CheckpointState) → ((call : Call) × (call_in phase w ≡ Some call)) ⊎ ((call_in phase w ≡ None) × (state_after phase w ≡ w))
cases_due Idle w = inr (refl, refl)
cases_due Gate w = inl (_, refl)
cases_due GateWritten w = inl (_, refl)
cases_due GateSynced w = inl (_, refl)
cases_due Ready w = inr (refl, refl)
cases_due Staged w = inl (_, refl)
cases_due Header w = inl (_, refl)
cases_due HeaderWritten w = inl (_, refl)
cases_due HeaderSynced w = inl (_, refl)
cases_due Opened w = inl (_, refl)
cases_due Sealed w = inr (refl, refl)

module _ {D : Type 0} (states : D → List Files) (failures : D → ℕ) (honest : D → Type 0) (w : CheckpointState) (disk next : D) where
  abbrev start : Files
  start = now (states disk)

  abbrev number : ℕ
  number = checkpoint_file w.generation

  pub placed_if : MayAdvance states honest w disk → w.is_broken ≡ false → honest disk → (call : Call) → call_in w.phase w ≡ Some call → IsPlaced call (start number)
  placed_if may works is_honest call due =
      let (old, sections, stands) = may works is_honest in
      placed w sections stands.knows w.phase old (start number) stands.stands call due

  pub kept_at_start : (old : List ℕ) (sections : List Section) → Stands w old sections (start number) → IsKept w old sections start start
  kept_at_start old sections stands = record {
    others = λ n other. refl;
    reads = λ content left. reads_in w sections stands.knows w.phase old (start number) stands.stands content left;
  }

  -- the device call left the checkpoint's file so
  moved : (file : File) → states next ≡ with_file number file start ∷ states disk → (old : List ℕ) (sections : List Section) → Stands w old sections (start number)
      → ((content : List ℕ) → MayLeave file content → MayRead w.phase w old sections content)
      → AtEachMoment states disk next (IsKept w old sections start)
  moved file is old sections stands reads =
      one_call states disk next (with_file number file start) (IsKept w old sections start) is (kept_at_start old sections stands) (record {
        others = λ n other. with_other number file start n other;
        reads = λ content left. reads content (subst (λ f. MayLeave f content) (with_same number file start) left);
      })

  file_after : (file : File) → states next ≡ with_file number file start ∷ states disk → now (states next) number ≡ file
  file_after file is = ap (λ (all : List Files). now all number) is ∙ with_same number file start

  module _ (call : Call) (due : call_in w.phase w ≡ Some call) (was_honest : honest next → honest disk) where
    pub succeeded : Makes states failures number call disk next → (new : CheckpointState) → new ≡ state_after w.phase w → (phase : CheckpointPhase) → phase ≡ new.phase
        → Advances states failures honest call w new disk next (Ok phase)
    succeeded makes new is phase phase_is = record {
      was_honest = was_honest;
      ok = (is, phase_is, makes);
      err = tt;
      stands = λ old sections stands.
          subst (λ v. Stands v old sections (now (states next) number)) (sym is)
          (subst (λ f. Stands (state_after w.phase w) old sections f) (sym (file_after (called call (start number)) makes.state))
          (goes_to w sections stands.knows w.phase old (start number) refl stands.stands call due));
      any_moment = λ old sections stands. moved (called call (start number)) makes.state old sections stands
          (λ content left. called_reads w sections stands.knows w.phase old (start number) stands.stands call due content left);
    }

    pub failed : Fails states failures number call disk next → (new : CheckpointState) → new ≡ record w { is_broken = true } → Advances states failures honest call w new disk next (Err Failed)
    failed fails new is = record {
      was_honest = was_honest;
      ok = tt;
      err = (refl, is, fails);
      stands = tt;
      any_moment = λ old sections stands. moved fails.left fails.state old sections stands
          (λ content left. failed_reads w sections stands.knows w.phase old (start number) fails.left stands.stands call due
          (fails.may (placed w sections stands.knows w.phase old (start number) stands.stands call due)) content left);
    }

  kept_generation : (phase : CheckpointPhase) → (state_after phase w).generation ≡ w.generation
  kept_generation Idle = refl
  kept_generation Gate = refl
  kept_generation GateWritten = refl
  kept_generation GateSynced = refl
  kept_generation Ready = refl
  kept_generation Staged = refl
  kept_generation Header = refl
  kept_generation HeaderWritten = refl
  kept_generation HeaderSynced = refl
  kept_generation Opened = refl
  kept_generation Sealed = refl

  -- after a step that succeeded, or that made no call, the checkpoint may go on
  pub may_go_on : (call_in w.phase w ≡ None → next ≡ disk) → ((call : Call) → call_in w.phase w ≡ Some call → Makes states failures number call disk next) → (honest next → honest disk) → w.is_broken ≡ false
      → (new : CheckpointState) → new ≡ state_after w.phase w → MayAdvance states honest w disk → MayAdvance states honest new next
  may_go_on rests makes was_honest works new is may = λ works_on honest_on.
      let (old, sections, stands) = may works (was_honest honest_on) in
      ⊎_elim {C = (old : List ℕ) × (sections : List Section) × Stands new old sections (now (states next) (checkpoint_file new.generation))}
      (λ due.
      let step = succeeded due.0 due.1 was_honest (makes due.0 due.1) new is new.phase refl in
      (old, sections, subst (λ g. Stands new old sections (now (states next) (checkpoint_file g))) (sym (ap (λ (v : CheckpointState). v.generation) is ∙ kept_generation w.phase)) (step.stands old sections stands)))
      (λ none_due.
      let same : new ≡ w = is ∙ none_due.1 in
      (old, sections, subst (λ d. Stands new old sections (now (states d) (checkpoint_file new.generation))) (sym (rests none_due.0)) (subst (λ v. Stands v old sections (now (states disk) (checkpoint_file v.generation))) (sym same) stands)))
      (cases_due w.phase w)
