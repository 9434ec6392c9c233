-- How the steps of a commit go on from one another.
use Rattle.std.proofs.Common.{◌≡◌, ◌≢◌, inl, inr, ℕ, false, List, Option, None, Some, Ok, Result, refl, sym, ◌∙◌, ap, subst}
use Rattle.disk_model.specs.Files.{File, Files, now}
use Rattle.disk_model.specs.Moments.{AtEachMoment}
use Rattle.disk_model.proofs.MomentLemmas.{no_call, goes_on, weaker, in_the_end}
use Rattle.map_types.specs.declared.refusals.Refusal.{Refusal}
use Rattle.store_layout.specs.Logs.{Batch, log_file}
use Rattle.store_layout.specs.declared.log_phase.Phase.{Phase}
use Rattle.store_layout.specs.declared.log_phase.Phase.TheVariants.{Idle, Header, HeaderWritten, Staged, Written, Synced, Opened}
use Rattle.gate_log.specs.States.{LogState, log_after}
use Rattle.gate_log.specs.LogStates.{Stands, IsReady, IsKept, IsDone, IsBeforeOrAfter, MayRead}
use Rattle.gate_log.specs.LogSteps.{Advances, committed_after, staged_after}
use Rattle.gate_log.proofs.AdvanceLemmas.{kept_at_start}

-- before the last step but one, and before the last
abbrev pub IsEarly : Phase → Type 0
IsEarly Idle = ⊥
IsEarly Header = ⊥
IsEarly HeaderWritten = ⊥
IsEarly Staged = Unit {0}
IsEarly Written = Unit {0}
IsEarly Synced = Unit {0}
IsEarly Opened = ⊥

abbrev pub IsCommitting : Phase → Type 0
IsCommitting Idle = ⊥
IsCommitting Header = ⊥
IsCommitting HeaderWritten = ⊥
IsCommitting Staged = Unit {0}
IsCommitting Written = Unit {0}
IsCommitting Synced = Unit {0}
IsCommitting Opened = Unit {0}

abbrev pub phase_after : Phase → Phase
phase_after Idle = Idle
phase_after Header = HeaderWritten
phase_after HeaderWritten = Idle
phase_after Staged = Written
phase_after Written = Synced
phase_after Synced = Opened
phase_after Opened = Idle

committing : (p : Phase) → IsEarly p → IsCommitting p
committing Idle early = early
committing Header early = early
committing HeaderWritten early = early
committing Staged early = tt
committing Written early = tt
committing Synced early = tt
committing Opened early = tt

ready : (p : Phase) → IsCommitting p → IsReady p
ready Idle is = tt
ready Header is = is
ready HeaderWritten is = is
ready Staged is = tt
ready Written is = tt
ready Synced is = tt
ready Opened is = tt

not_idle : (p : Phase) → IsCommitting p → p ≢ Idle
not_idle p is e = subst IsCommitting e is

module _ (log : LogState) (batches staged : List Batch) where
  done_at : (ending : Option ℕ) (p : Phase) (content : List ℕ) → IsDone ending (record log { phase = p }) batches staged content → IsDone ending log batches staged content
  done_at None p content done = done
  done_at (Some next) p content done = done

  both_at : (p : Phase) (content : List ℕ) → IsBeforeOrAfter (record log { phase = p }) batches staged content → IsBeforeOrAfter log batches staged content
  both_at p content (inl before) = inl before
  both_at p content (inr after) = inr (done_at log.ending p content after)

  reads_at : (p : Phase) → IsCommitting p → (content : List ℕ) → MayRead p log.ending (record log { phase = p }) batches staged content → MayRead Staged log.ending log batches staged content
  reads_at Idle is content read = absurd is
  reads_at Header is content read = absurd is
  reads_at HeaderWritten is content read = absurd is
  reads_at Staged is content read = both_at Staged content read
  reads_at Written is content read = both_at Written content read
  reads_at Synced is content read = both_at Synced content read
  reads_at Opened is content read = both_at Opened content read

  state_after : (p : Phase) → IsEarly p → log_after p (record log { phase = p }) ≡ record log { phase = phase_after p }
  state_after Idle early = absurd early
  state_after Header early = absurd early
  state_after HeaderWritten early = absurd early
  state_after Staged early = refl
  state_after Written early = refl
  state_after Synced early = refl
  state_after Opened early = absurd early

  stands_after : (p : Phase) → IsEarly p → (new : LogState) (file : File) → Stands new (committed_after p batches staged) (staged_after p staged) file → Stands new batches staged file
  stands_after Idle early new file stands = stands
  stands_after Header early new file stands = stands
  stands_after HeaderWritten early new file stands = stands
  stands_after Staged early new file stands = stands
  stands_after Written early new file stands = stands
  stands_after Synced early new file stands = stands
  stands_after Opened early new file stands = absurd early

  module _ {D : Type 0} (states : D → List Files) (failures : D → ℕ) (honest : D → Type 0) (disk : D) (is : log.phase ≡ Staged) where
    abbrev Kept : Files → Type 0
    Kept = IsKept log batches staged (now (states disk))

    -- the steps so far have led from log to mid, in this phase
    pub record Reaches (p : Phase) (mid : LogState) (disk_mid : D) : Type 0 where
      pub state : mid ≡ record log { phase = p }
      pub stands : Stands (record log { phase = p }) batches staged (now (states disk_mid) (log_file log.generation))
      pub so_far : AtEachMoment states disk disk_mid (IsKept log batches staged (now (states disk)))

    pub begins : Stands log batches staged (now (states disk) (log_file log.generation)) → Reaches Staged log disk
    begins stands =
        let state : log ≡ record log { phase = Staged } = ap (λ p. record log { phase = p }) is in
        record {
          state = state;
          stands = subst (λ l. Stands l batches staged (now (states disk) (log_file log.generation))) state stands;
          so_far = no_call states disk disk Kept refl (kept_at_start states failures honest log disk disk batches staged stands);
        }

    pub works_at : (p : Phase) (mid : LogState) (disk_mid : D) → Reaches p mid disk_mid → log.is_broken ≡ false → mid.is_broken ≡ false
    works_at p mid disk_mid reaches works = ap (λ (l : LogState). l.is_broken) reaches.state ∙ works

    pub due_at : (p : Phase) (mid : LogState) (disk_mid : D) → Reaches p mid disk_mid → IsCommitting p → mid.phase ≢ Idle
    due_at p mid disk_mid reaches committing e = not_idle p committing (sym (ap (λ (l : LogState). l.phase) reaches.state) ∙ e)

    abbrev Step : LogState → LogState → D → D → Result Phase Refusal → Type 0
    Step old new disk_old disk_new result = Advances states failures honest old new disk_old disk_new result

    -- at every moment of one step more
    pub any_moment : (p : Phase) (mid new : LogState) (disk_mid disk_new : D) (result : Result Phase Refusal) → IsCommitting p → Reaches p mid disk_mid → Step mid new disk_mid disk_new result
        → AtEachMoment states disk disk_new Kept
    any_moment p mid new disk_mid disk_new result committing reaches step =
        let at : Step (record log { phase = p }) new disk_mid disk_new result = subst (λ l. Step l new disk_mid disk_new result) reaches.state step in
        let here : Kept (now (states disk_mid)) = in_the_end states disk disk_mid Kept reaches.so_far in
        goes_on states disk disk_mid disk_new Kept reaches.so_far
        (weaker states disk_mid disk_new (IsKept (record log { phase = p }) batches staged (now (states disk_mid))) Kept (λ files kept. record {
          others = λ n other. kept.others n other ∙ here.others n other;
          reads = λ _ content left. subst (λ q. MayRead q log.ending log batches staged content) (sym is) (reads_at p committing content (kept.reads (ready p committing) content left));
        }) (at.any_moment batches staged reaches.stands))

    pub reaches : (p : Phase) (mid new : LogState) (disk_mid disk_new : D) (phase : Phase) → IsEarly p → Reaches p mid disk_mid → Step mid new disk_mid disk_new (Ok phase) → Reaches (phase_after p) new disk_new
    reaches p mid new disk_mid disk_new phase early so_far step =
        let at : Step (record log { phase = p }) new disk_mid disk_new (Ok phase) = subst (λ l. Step l new disk_mid disk_new (Ok phase)) so_far.state step in
        let state : new ≡ record log { phase = phase_after p } = at.ok.0 ∙ state_after p early in
        record {
          state = state;
          stands = subst (λ l. Stands l batches staged (now (states disk_new) (log_file log.generation))) state (stands_after p early new (now (states disk_new) (log_file log.generation)) (at.stands batches staged so_far.stands));
          so_far = any_moment p mid new disk_mid disk_new (Ok phase) (committing p early) so_far step;
        }
