-- What holds of a keeper after a step of its logs: counts, moments, and what is the same.
use Rattle.std.proofs.Common.{◌≡◌, ◌≢◌, inl, inr, ℕ, ◌+◌, List, [], length, Option, false, Result, Ok, Err, refl, sym, ◌∙◌, ap, subst, arith}
use Rattle.std.proofs.lemmas.List.{length-append, length-map}
use Rattle.disk_model.specs.Files.{Files, now}
use Rattle.disk_model.specs.Moments.{AtEachMoment}
use Rattle.map_types.specs.declared.commands.Command.{Command}
use Rattle.map_types.specs.declared.refusals.Refusal.{Refusal}
use Rattle.ticket_order.specs.declared.stripe.Entry.{Entry}
use Rattle.ticket_order.specs.declared.record.Record.{Record}
use Rattle.ticket_order.specs.Legality.{history_of}
use Rattle.store_layout.specs.declared.log_phase.Phase.{Phase}
use Rattle.store_layout.specs.declared.log_phase.Phase.TheVariants.{Idle, Header, HeaderWritten, Staged, Written, Synced, Opened}
use Rattle.gate_log.specs.States.{LogState, commands_of}
use Rattle.gate_log.specs.LogSteps.{Advances}
use Rattle.gate_log.proofs.AdvanceLemmas.{cases_idle}
use Rattle.store_invariant.specs.Laws.{LogStepsStop, StoresStop}
use Rattle.flusher.specs.declared.keeper.Keeper.{Keeper}
use Rattle.flusher.specs.declared.sweeper.Sweeper.{Sweeper}
use Rattle.flusher.specs.KeeperSteps.{committed_by}
use Rattle.flusher.specs.Rotating.{IsTold}
use Rattle.flusher.specs.Fitting.{Fits, StopsFit, done_after}
use Rattle.flusher.proofs.Committing.{IsSame, stops_by}
use Rattle.flusher.proofs.NewestSteps.{log_at_moments}

-- ---- how many commands are committed

length_done : (result : Result Phase Refusal) (ph : Phase) (done : List Command) (es : List Entry) → length (done_after result ph done es) ≡ length done + committed_by result ph es
length_done (Err e) ph done es = omega arith
length_done (Ok x) Idle done es = omega arith
length_done (Ok x) Header done es = omega arith
length_done (Ok x) HeaderWritten done es = omega arith
length_done (Ok x) Staged done es = omega arith
length_done (Ok x) Written done es = omega arith
length_done (Ok x) Synced done es = omega arith
length_done (Ok x) Opened done es = length-append done (commands_of es) ∙ ap (λ (n : ℕ). length done + n) (length-map es (λ (e : Entry). e.command))

pub count_after : {D : Type 0} (states : D → List Files) (honest : D → Type 0) (n : ℕ) (done : List Command) (old new : Keeper D) (p : Record) (result : Result Phase Refusal) → Fits states honest n done old p
    → Fits states honest n (done_after result old.log.phase done old.staged.items) new p → new.log.committed ≡ old.log.committed + committed_by result old.log.phase old.staged.items
count_after {D} states honest n done old new p result f g = omega (arith, f.counts.committed, g.counts.committed, length_done result old.log.phase done old.staged.items)

-- ---- at every moment

-- no device call was made
pub still_moments : {D : Type 0} (states : D → List Files) (old new : D) (P : Files → Type 0) → new ≡ old → P (now (states old)) → AtEachMoment states old new P
still_moments {D} states old new P is k = subst (λ (d : D). AtEachMoment states old d P) (sym is) (record { added = []; longer = refl; first = k; each = tt })

pub logged_moments : {D : Type 0} (states : D → List Files) (failures : D → ℕ) (honest : D → Type 0) (n : ℕ) (done : List Command) (old new : Keeper D) (p : Record) (result : Result Phase Refusal) → StoresStop → LogStepsStop → Fits states honest n done old p
    → old.is_broken ≡ false → honest old.disk → (old.log.phase ≡ Idle → (result ≡ Ok Idle) × (new.disk ≡ old.disk)) → (old.log.phase ≢ Idle → Advances states failures honest old.log new.log old.disk new.disk result)
    → AtEachMoment states old.disk new.disk (StopsFit (history_of p) old)
logged_moments {D} states failures honest n done old new p result now_law law f works h rests moves = elim (cases_idle old.log.phase) [
  | inl is ↦ still_moments states old.disk new.disk (StopsFit (history_of p) old) (rests is).1 (stops_by states honest n done old p now_law f h)
  | inr is ↦ log_at_moments states failures honest n done old new.log new.disk p result law f works h (moves is)
]

-- ---- what else is the same

pub same_next : {D : Type 0} (old new : Keeper D) (o : Option LogState) → new ≡ record old { disk = new.disk; log = new.log; next = o; sweeper = new.sweeper; staged = new.staged; is_broken = new.is_broken } → IsSame old new
same_next {D} old new o is =
    is ∙ ap (λ (x : Option LogState). let k : Keeper D = record old { disk = new.disk; log = new.log; next = x; sweeper = new.sweeper; staged = new.staged; is_broken = new.is_broken } in k) (sym (ap (λ (k : Keeper D). k.next) is))

pub same_hand : {D : Type 0} (old new : Keeper D) → new ≡ record old { disk = new.disk; log = new.log; next = new.next; is_broken = new.is_broken } → IsSame old new
same_hand {D} old new is =
    is ∙ ap (λ (x : Sweeper). let k : Keeper D = record old { disk = new.disk; log = new.log; next = new.next; sweeper = x; is_broken = new.is_broken } in k) (sym (ap (λ (k : Keeper D). k.sweeper) is))
    ∙ ap (λ x. let k : Keeper D = record old { disk = new.disk; log = new.log; next = new.next; sweeper = new.sweeper; staged = x; is_broken = new.is_broken } in k) (sym (ap (λ (k : Keeper D). k.staged) is))

-- ---- whether the newest log is told to end

pub told_nothing : (ph : Phase) (generation : ℕ) (old new : LogState) → ph ≢ Idle → new ≡ old → IsTold (Ok ph) generation old new (Ok ph)
told_nothing Idle generation old new moves same = absurd (moves refl)
told_nothing Header generation old new moves same = (refl, same)
told_nothing HeaderWritten generation old new moves same = (refl, same)
told_nothing Staged generation old new moves same = (refl, same)
told_nothing Written generation old new moves same = (refl, same)
told_nothing Synced generation old new moves same = (refl, same)
told_nothing Opened generation old new moves same = (refl, same)
