-- One step of a log, from the device call that it makes.
use Rattle.std.proofs.Common.{◌≡◌, ◌≢◌, ◌⊎◌, inl, inr, ⊎_elim, ℕ, true, false, List, ◌∷◌, Some, Ok, Err, refl, sym, ◌∙◌, ap, subst}
use Rattle.disk_model.specs.Calls.{Makes, Fails}
use Rattle.disk_model.specs.Files.{File, Files, MayLeave, now, with_file}
use Rattle.disk_model.specs.Gates.{Call, called}
use Rattle.disk_model.specs.Moments.{AtEachMoment}
use Rattle.disk_model.proofs.FileLemmas.{with_same, with_other}
use Rattle.disk_model.proofs.MomentLemmas.{one_call}
use Rattle.map_types.specs.declared.refusals.Refusal.TheVariants.{Failed}
use Rattle.store_layout.specs.Logs.{Batch, log_file}
use Rattle.store_layout.specs.declared.log_phase.Phase.{Phase}
use Rattle.store_layout.specs.declared.log_phase.Phase.TheVariants.{Idle, Header, HeaderWritten, Staged, Written, Synced, Opened}
use Rattle.gate_log.specs.States.{LogState, call_in, log_after}
use Rattle.gate_log.specs.LogStates.{Stands, IsReady, IsKept, MayRead}
use Rattle.gate_log.specs.LogSteps.{Advances, MayAdvance, committed_after, staged_after}
use Rattle.gate_log.proofs.StandingLemmas.{reads_in, placed, goes_to, called_reads, failed_reads}

pub cases_idle : (phase : Phase) → (phase ≡ Idle) ⊎ (phase ≢ Idle)
cases_idle Idle = inl refl
cases_idle phase = inr (λ e. cc)

-- in each phase but Idle a call is due
pub some_due : (phase : Phase) (log : LogState) → phase ≢ Idle → (call : Call) × (call_in phase log ≡ Some call)
some_due Idle log other = absurd (other refl)
some_due Header log other = (_, refl)
some_due HeaderWritten log other = (_, refl)
some_due Staged log other = (_, refl)
some_due Written log other = (_, refl)
some_due Synced log other = (_, refl)
some_due Opened log other = (_, refl)

module _ {D : Type 0} (states : D → List Files) (failures : D → ℕ) (honest : D → Type 0) (log : LogState) (disk next : D) where
  abbrev start : Files
  start = now (states disk)

  abbrev number : ℕ
  number = log_file log.generation

  pub kept_at_start : (batches staged : List Batch) → Stands log batches staged (start number) → IsKept log batches staged start start
  kept_at_start batches staged stands = record {
    others = λ n other. refl;
    reads = λ ready content left. reads_in log batches stands.knows log.phase staged (start number) stands.stands ready content left;
  }

  -- the device call left the log's file so
  pub moved : (file : File) → states next ≡ with_file number file start ∷ states disk → (batches staged : List Batch) → Stands log batches staged (start number)
      → (IsReady log.phase → (content : List ℕ) → MayLeave file content → MayRead log.phase log.ending log batches staged content)
      → AtEachMoment states disk next (IsKept log batches staged start)
  moved file is batches staged stands reads =
      one_call states disk next (with_file number file start) (IsKept log batches staged start) is (kept_at_start batches staged stands) (record {
        others = λ n other. with_other number file start n other;
        reads = λ ready content left. reads ready content (subst (λ f. MayLeave f content) (with_same number file start) left);
      })

  pub file_after : (file : File) → states next ≡ with_file number file start ∷ states disk → now (states next) number ≡ file
  file_after file is = ap (λ (all : List Files). now all number) is ∙ with_same number file start

  module _ (call : Call) (due : call_in log.phase log ≡ Some call) (was_honest : honest next → honest disk) where
    pub succeeded : Makes states failures number call disk next → (new : LogState) → new ≡ log_after log.phase log → (phase : Phase) → phase ≡ new.phase
        → Advances states failures honest log new disk next (Ok phase)
    succeeded makes new is phase phase_is = record {
      call = call;
      due = due;
      was_honest = was_honest;
      ok = (is, phase_is, makes);
      err = tt;
      stands = λ batches staged stands.
          subst (λ l. Stands l (committed_after log.phase batches staged) (staged_after log.phase staged) (now (states next) number)) (sym is)
          (subst (λ f. Stands (log_after log.phase log) (committed_after log.phase batches staged) (staged_after log.phase staged) f) (sym (file_after (called call (start number)) makes.state))
          (goes_to log batches stands.knows log.phase staged (start number) refl stands.stands call due));
      any_moment = λ batches staged stands. moved (called call (start number)) makes.state batches staged stands
          (λ ready content left. called_reads log batches stands.knows log.phase staged (start number) stands.stands call due ready content left);
    }

    pub failed : Fails states failures number call disk next → (new : LogState) → new ≡ record log { is_broken = true } → Advances states failures honest log new disk next (Err Failed)
    failed fails new is = record {
      call = call;
      due = due;
      was_honest = was_honest;
      ok = tt;
      err = (refl, is, fails);
      stands = tt;
      any_moment = λ batches staged stands. moved fails.left fails.state batches staged stands
          (λ ready content left. failed_reads log batches stands.knows log.phase staged (start number) fails.left stands.stands call due
          (fails.may (placed log batches stands.knows log.phase staged (start number) stands.stands call due)) ready content left);
    }

  -- after a step that succeeded, or that made no call, the log may go on
  pub may_go_on : (log.phase ≡ Idle → next ≡ disk) → ((call : Call) → call_in log.phase log ≡ Some call → Makes states failures number call disk next) → (honest next → honest disk) → log.is_broken ≡ false
      → (new : LogState) → new ≡ log_after log.phase log → MayAdvance states honest log disk → MayAdvance states honest new next
  may_go_on idle makes was_honest works new is may = λ works_on honest_on.
      let (batches, staged, stands) = may works (was_honest honest_on) in
      ⊎_elim {C = (batches : List Batch) × (staged : List Batch) × Stands new batches staged (now (states next) (log_file new.generation))}
      (λ rests.
      let same : new ≡ log = is ∙ ap (λ p. log_after p log) rests in
      (batches, staged, subst (λ d. Stands new batches staged (now (states d) (log_file new.generation))) (sym (idle rests)) (subst (λ l. Stands l batches staged (now (states disk) (log_file l.generation))) (sym same) stands)))
      (λ other.
      let due = some_due log.phase log other in
      let step = succeeded due.0 due.1 was_honest (makes due.0 due.1) new is new.phase refl in
      (committed_after log.phase batches staged, staged_after log.phase staged, subst (λ g. Stands new (committed_after log.phase batches staged) (staged_after log.phase staged) (now (states next) (log_file g))) (sym (ap (λ (l : LogState). l.generation) is ∙ kept_generation log.phase)) (step.stands batches staged stands)))
      (cases_idle log.phase)
    where
      kept_generation : (phase : Phase) → (log_after phase log).generation ≡ log.generation
      kept_generation Idle = refl
      kept_generation Header = refl
      kept_generation HeaderWritten = refl
      kept_generation Staged = refl
      kept_generation Written = refl
      kept_generation Synced = refl
      kept_generation Opened = refl
