-- What a step leaves of a log, and of the stores.
use Rattle.std.proofs.Common.{◌≡◌, ◌≢◌, ℕ, ◌+◌, List, [], ◌++◌, length, true, false, Result, Ok, Err, append-nil, refl, sym, ◌∙◌, ap, subst}
use Rattle.disk_model.specs.Files.{Files, now}
use Rattle.disk_model.specs.Moments.{AtEachMoment}
use Rattle.map_types.specs.declared.commands.Command.{Command}
use Rattle.map_types.specs.declared.refusals.Refusal.{Refusal}
use Rattle.ticket_order.specs.declared.stripe.Entry.{Entry}
use Rattle.ticket_order.specs.declared.record.Record.{Record}
use Rattle.ticket_order.specs.Legality.{history_of}
use Rattle.store_layout.specs.declared.log_phase.Phase.{Phase}
use Rattle.store_layout.specs.declared.log_phase.Phase.TheVariants.{Idle, Header, HeaderWritten, Staged, Written, Synced, Opened}
use Rattle.gate_log.specs.States.{LogState, commands_of, log_after}
use Rattle.store_invariant.specs.StoreStates as store
use Rattle.flusher.specs.declared.keeper.Keeper.{Keeper}
use Rattle.flusher.specs.Fitting.{HoldsFor, IsEmptyIn, IsUnbroken, StopsFit, Stores, done_after, store_of}
use Rattle.flusher.proofs.Committing.{two_ways}
use Rattle.flusher.proofs.Moments.{at_end}

pub broken_same : (ph : Phase) (log : LogState) → (log_after ph log).is_broken ≡ log.is_broken
broken_same Idle log = refl
broken_same Header log = refl
broken_same HeaderWritten log = refl
broken_same Staged log = refl
broken_same Written log = refl
broken_same Synced log = refl
broken_same Opened log = refl

pub ending_same : (ph : Phase) (log : LogState) → (log_after ph log).ending ≡ log.ending
ending_same Idle log = refl
ending_same Header log = refl
ending_same HeaderWritten log = refl
ending_same Staged log = refl
ending_same Written log = refl
ending_same Synced log = refl
ending_same Opened log = refl

pub version_same : (ph : Phase) (log : LogState) → (log_after ph log).version ≡ log.version
version_same Idle log = refl
version_same Header log = refl
version_same HeaderWritten log = refl
version_same Staged log = refl
version_same Written log = refl
version_same Synced log = refl
version_same Opened log = refl

pub generation_same : (ph : Phase) (log : LogState) → (log_after ph log).generation ≡ log.generation
generation_same Idle log = refl
generation_same Header log = refl
generation_same HeaderWritten log = refl
generation_same Staged log = refl
generation_same Written log = refl
generation_same Synced log = refl
generation_same Opened log = refl

pub staged_count_same : (ph : Phase) (log : LogState) → ph ≢ Opened → (log_after ph log).count ≡ log.count
staged_count_same Idle log h = refl
staged_count_same Header log h = refl
staged_count_same HeaderWritten log h = refl
staged_count_same Staged log h = refl
staged_count_same Written log h = refl
staged_count_same Synced log h = refl
staged_count_same Opened log h = absurd (h refl)

pub empty_in : (ph : Phase) (es : List Entry) → es ≡ [] → IsEmptyIn ph es
empty_in Idle es h = h
empty_in Header es h = h
empty_in HeaderWritten es h = h
empty_in Staged es h = tt
empty_in Written es h = tt
empty_in Synced es h = tt
empty_in Opened es h = tt

pub none_done : (result : Result Phase Refusal) (ph : Phase) (done : List Command) (es : List Entry) → es ≡ [] → done_after result ph done es ≡ done
none_done (Err e) ph done es h = refl
none_done (Ok x) Idle done es h = refl
none_done (Ok x) Header done es h = refl
none_done (Ok x) HeaderWritten done es h = refl
none_done (Ok x) Staged done es h = refl
none_done (Ok x) Written done es h = refl
none_done (Ok x) Synced done es h = refl
none_done (Ok x) Opened done es h = ap (λ (xs : List Entry). done ++ commands_of xs) h ∙ append-nil done

-- ---- the stores after a step

pub stores_on : {D : Type 0} (states : D → List Files) (honest : D → Type 0) (new : Keeper D) (p : Record) → new.is_broken ≡ false → IsUnbroken (store_of new) → (honest new.disk → HoldsFor (history_of p) new (now (states new.disk)))
    → Stores states honest new p
stores_on {D} states honest new p works unbroken holds = record {
  unbroken = λ _. unbroken;
  works = λ _ h. holds h;
  stopped = λ is. absurd (two_ways new.is_broken is works);
}

-- a step failed
pub stores_off : {D : Type 0} (states : D → List Files) (honest : D → Type 0) (old new : Keeper D) (p : Record) → new.is_broken ≡ true → new.log.committed ≡ old.log.committed → new.staged.items ≡ old.staged.items → (honest new.disk → honest old.disk)
    → (honest old.disk → AtEachMoment states old.disk new.disk (StopsFit (history_of p) old)) → Stores states honest new p
stores_off {D} states honest old new p failed count items was moments = record {
  unbroken = λ works. absurd (two_ways new.is_broken failed works);
  works = λ works. absurd (two_ways new.is_broken failed works);
  stopped = λ _ h. (
      let there : StopsFit (history_of p) old (now (states new.disk)) = at_end states old.disk new.disk (StopsFit (history_of p) old) (moments (was h)) in
      subst (λ (c : ℕ). store.StopsStand (history_of p) c (c + length new.staged.items) (now (states new.disk))) (sym count)
      (subst (λ (es : List Entry). store.StopsStand (history_of p) old.log.committed (old.log.committed + length es) (now (states new.disk))) (sym items) there)
      );
}
