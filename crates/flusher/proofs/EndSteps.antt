-- The log that follows, and a step of the end of the newest log.
use Rattle.std.proofs.Common.{◌≡◌, ◌≢◌, ◌⊎◌, inl, inr, ℕ, ◌+◌, List, [], length, Option, Some, None, IfSome, Bool, true, false, Result, Ok, Err, OnOk, OnErr, refl, sym, ◌∙◌, ap, subst}
use Rattle.disk_model.specs.Files.{Files, now}
use Rattle.disk_model.specs.Moments.{AtEachMoment}
use Rattle.map_types.specs.declared.commands.Command.{Command}
use Rattle.map_types.specs.declared.refusals.Refusal.{Refusal}
use Rattle.ticket_order.specs.declared.stripe.Entry.{Entry}
use Rattle.ticket_order.specs.declared.record.Record.{Record}
use Rattle.ticket_order.specs.Legality.{history_of}
use Rattle.store_layout.specs.declared.log_phase.Phase.{Phase}
use Rattle.store_layout.specs.declared.log_phase.Phase.TheVariants.{Idle, Header, HeaderWritten, Staged, Written, Synced, Opened}
use Rattle.gate_log.specs.States.{LogState, begun, log_after}
use Rattle.gate_log.specs.LogStates as gate_log
use Rattle.gate_log.specs.LogSteps.{Advances, MayAdvance}
use Rattle.store_invariant.specs.States.{StoreState}
use Rattle.store_invariant.specs.StoreStates as store
use Rattle.store_invariant.specs.Laws.{EndStepsOn, LogEnds, LogStepsStop, NextStepsStop}
use Rattle.flusher.specs.declared.keeper.Keeper.{Keeper}
use Rattle.flusher.specs.Rotating.{Logs, MayRotate, Rotates, ended_in, logs_of}
use Rattle.flusher.specs.Fitting.{Fits, HoldsFor, HoldsFront, IsUnbroken, StopsFit, Stores, done_after, store_of}
use Rattle.flusher.proofs.Committing.{IsSame, fits_gone, state_then}
use Rattle.flusher.proofs.Keys.{keys_in_new, keys_kept}
use Rattle.flusher.proofs.StoreSteps.{count_same, end_goes, log_is_over, next_in, next_moments}
use Rattle.flusher.proofs.LogsAfter.{broken_same, ending_same, generation_same, version_same, staged_count_same, empty_in, none_done, stores_on}
use Rattle.flusher.proofs.NewestSteps.{log_at_moments, log_fails}

-- the log that follows, and the newest one
pub rotates : {D : Type 0} (states : D → List Files) (honest : D → Type 0) (n : ℕ) (done : List Command) (keeper : Keeper D) (p : Record) (next : LogState) → Fits states honest n done keeper p → keeper.next ≡ Some next
    → Rotates next keeper.log keeper.staged.items
rotates {D} states honest n done keeper p next f is = subst (λ (o : Option LogState). MayRotate o keeper.log keeper.staged.items) is f.rotation

pub next_works : {D : Type 0} (states : D → List Files) (honest : D → Type 0) (n : ℕ) (done : List Command) (keeper : Keeper D) (p : Record) (next : LogState) → Fits states honest n done keeper p → keeper.is_broken ≡ false → keeper.next ≡ Some next
    → next.is_broken ≡ false
next_works {D} states honest n done keeper p next f works is = subst (λ (o : Option LogState). IfSome o (λ (x : LogState). x.is_broken ≡ false)) is (f.stores.unbroken works).next

pub next_may : {D : Type 0} (states : D → List Files) (honest : D → Type 0) (n : ℕ) (done : List Command) (keeper : Keeper D) (p : Record) (next : LogState) → Fits states honest n done keeper p → keeper.is_broken ≡ false → keeper.next ≡ Some next
    → MayAdvance states honest next keeper.disk
next_may {D} states honest n done keeper p next f works is = λ _ h.
    let k = f.stores.works works h in
    ([], [], next_in (history_of p) (store_of keeper) k.held next (now (states keeper.disk)) k.stands is)

pub next_at_moments : {D : Type 0} (states : D → List Files) (failures : D → ℕ) (honest : D → Type 0) (n : ℕ) (done : List Command) (old : Keeper D) (next log : LogState) (disk : D) (p : Record) (result : Result Phase Refusal) → NextStepsStop
    → Fits states honest n done old p → old.is_broken ≡ false → old.next ≡ Some next → next.phase ≢ Idle → honest old.disk → Advances states failures honest next log old.disk disk result
    → AtEachMoment states old.disk disk (StopsFit (history_of p) old)
next_at_moments {D} states failures honest n done old next log disk p result law f works is moves h a =
    next_moments states failures honest (history_of p) (store_of old) old.staged.items old.must_close next log old.disk disk result law (f.stores.works works h) is moves a

-- the keeper's number of committed commands stays, as nothing is staged
pub gone_after : {D : Type 0} (states : D → List Files) (honest : D → Type 0) (n : ℕ) (done : List Command) (old new : Keeper D) (p : Record) (result : Result Phase Refusal) → old.staged.items ≡ [] → Fits states honest n done new p
    → Fits states honest n (done_after result old.log.phase done old.staged.items) new p
gone_after {D} states honest n done old new p result none_ f = subst (λ (d : List Command). Fits states honest n d new p) (sym (none_done result old.log.phase done old.staged.items none_)) f

-- What a step of the newest log's end says.
pub record StepsEnd {D : Type 0} (states : D → List Files) (failures : D → ℕ) (honest : D → Type 0) (old new : Keeper D) (next : LogState) (result : Result Phase Refusal) : Type 0 where
  pub same : IsSame old new
  pub works : old.is_broken ≡ false
  pub next_is : old.next ≡ Some next
  pub idle : next.phase ≡ Idle
  pub sweeper : new.sweeper ≡ old.sweeper
  pub staged : new.staged ≡ old.staged
  pub log : LogState
  pub advances : Advances states failures honest old.log log old.disk new.disk result
  pub ok : OnOk result ((logs_of new ≡ ended_in old.log.phase old.log next) × (new.is_broken ≡ false))
  pub err : OnErr result ((logs_of new ≡ record { newest = record old.log { is_broken = true }; next = Some next }) × (new.is_broken ≡ true))

pub logs_state : {D : Type 0} (old new : Keeper D) (logs : Logs) → IsSame old new → logs_of new ≡ logs → store_of new ≡ record (store_of old) { log = logs.newest; next = logs.next }
logs_state {D} old new logs same is = state_then old new same ∙ ap (λ (x : Logs). let r : StoreState = record (store_of old) { log = x.newest; next = x.next } in r) is

opened_or_not : (ph : Phase) → (ph ≡ Opened) ⊎ (ph ≢ Opened)
opened_or_not Opened = inl refl
opened_or_not Idle = inr (λ e. cc)
opened_or_not Header = inr (λ e. cc)
opened_or_not HeaderWritten = inr (λ e. cc)
opened_or_not Staged = inr (λ e. cc)
opened_or_not Written = inr (λ e. cc)
opened_or_not Synced = inr (λ e. cc)

ended_on : (ph : Phase) (newest next : LogState) → ph ≢ Opened → (let l : Logs = record { newest = log_after ph newest; next = Some next } in ended_in ph newest next ≡ l)
ended_on Idle newest next h = refl
ended_on Header newest next h = refl
ended_on HeaderWritten newest next h = refl
ended_on Staged newest next h = refl
ended_on Written newest next h = refl
ended_on Synced newest next h = refl
ended_on Opened newest next h = absurd (h refl)

-- in the end of a log no step is its last but that one
moves_on : (ph : Phase) (log : LogState) → gate_log.IsReady ph → ph ≢ Idle → ph ≢ Opened → (log_after ph log).phase ≢ Idle
moves_on Idle log ready moves other = absurd (moves refl)
moves_on Header log ready moves other = absurd ready
moves_on HeaderWritten log ready moves other = absurd ready
moves_on Staged log ready moves other = λ e. cc
moves_on Written log ready moves other = λ e. cc
moves_on Synced log ready moves other = λ e. cc
moves_on Opened log ready moves other = absurd (other refl)

ready_on : (ph : Phase) (log : LogState) → gate_log.IsReady ph → ph ≢ Idle → gate_log.IsReady (log_after ph log).phase
ready_on Idle log ready moves = absurd (moves refl)
ready_on Header log ready moves = absurd ready
ready_on HeaderWritten log ready moves = absurd ready
ready_on Staged log ready moves = tt
ready_on Written log ready moves = tt
ready_on Synced log ready moves = tt
ready_on Opened log ready moves = tt

ended_stores : {D : Type 0} (states : D → List Files) (failures : D → ℕ) (honest : D → Type 0) (n : ℕ) (done : List Command) (old new : Keeper D) (p : Record) (next : LogState) (phase : Phase) → EndStepsOn → Fits states honest n done old p
    → StepsEnd states failures honest old new next (Ok phase) → old.log.phase ≢ Opened → Stores states honest new p
ended_stores {D} states failures honest n done old new p next phase law f s other =
    let u : IsUnbroken (store_of old) = f.stores.unbroken s.works in
    let logs : logs_of new ≡ record { newest = log_after old.log.phase old.log; next = Some next } = s.ok.0 ∙ ended_on old.log.phase old.log next other in
    let state : store_of new ≡ record (store_of old) { log = log_after old.log.phase old.log } =
    logs_state old new (record { newest = log_after old.log.phase old.log; next = Some next }) s.same logs
    ∙ ap (λ (o : Option LogState). let r : StoreState = record (store_of old) { log = log_after old.log.phase old.log; next = o } in r) (sym s.next_is) in
    stores_on states honest new p s.ok.1
    (subst IsUnbroken (sym state) (record { log = broken_same old.log.phase old.log ∙ u.log; next = u.next; writer = u.writer }))
    (λ h. (
    let there = end_goes states failures honest (history_of p) (store_of old) old.staged.items old.must_close next s.log old.disk new.disk phase law s.next_is s.idle other (f.stores.works s.works (s.advances.was_honest h)) s.advances in
    subst (λ (b : Bool). HoldsFront (history_of p) (store_of new) new.staged.items b (now (states new.disk))) (sym (ap (λ (k : Keeper D). k.must_close) s.same))
    (subst (λ (es : List Entry). HoldsFront (history_of p) (store_of new) es old.must_close (now (states new.disk))) (sym (ap (λ x. x.items) s.staged))
    (subst (λ (x : StoreState). HoldsFront (history_of p) x old.staged.items old.must_close (now (states new.disk))) (sym state) there))
    ))

-- a step of the end that is not its last
fits_ending : {D : Type 0} (states : D → List Files) (failures : D → ℕ) (honest : D → Type 0) (n : ℕ) (done : List Command) (old new : Keeper D) (p : Record) (next : LogState) (phase : Phase) → EndStepsOn → Fits states honest n done old p
    → StepsEnd states failures honest old new next (Ok phase) → old.log.phase ≢ Opened → Fits states honest n done new p
fits_ending {D} states failures honest n done old new p next phase law f s other =
    let r : Rotates next old.log old.staged.items = rotates states honest n done old p next f s.next_is in
    let ph : Phase = old.log.phase in
    let then : LogState = log_after ph old.log in
    let logs : logs_of new ≡ record { newest = then; next = Some next } = s.ok.0 ∙ ended_on ph old.log next other in
    let log : new.log ≡ then = ap (λ (x : Logs). x.newest) logs in
    let turn : (old.log.phase ≢ Idle) × (old.log.ending ≡ Some (old.log.generation + 1)) = subst (λ (x : Phase). store.IsTurn x old.log) s.idle r.turn in
    let turn_then : (then.phase ≢ Idle) × (then.ending ≡ Some (then.generation + 1)) =
    (moves_on ph old.log r.ready turn.0 other, ending_same ph old.log ∙ turn.1 ∙ ap (λ (g : ℕ). Some (g + 1)) (sym (generation_same ph old.log))) in
    let rotation : Rotates next then old.staged.items = record {
      is = r.is ∙ ap (λ (g : ℕ). let x : LogState = record (begun (g + 1) old.log.committed) { phase = next.phase; is_broken = next.is_broken } in x) (sym (generation_same ph old.log))
          ∙ ap (λ (c : ℕ). let x : LogState = record (begun (then.generation + 1) c) { phase = next.phase; is_broken = next.is_broken } in x) (sym (count_same ph old.log other));
      turn = subst (λ (x : Phase). store.IsTurn x then) (sym s.idle) turn_then;
      ready = ready_on ph old.log r.ready turn.0;
      none_staged = r.none_staged;
    } in
    fits_gone states honest n done old new p f (record {
      same = s.same;
      sweeper = s.sweeper;
      staged = ap (λ x. x.items) s.staged;
      committed = ap (λ (x : LogState). x.committed) log ∙ count_same ph old.log other;
      count = ap (λ (x : LogState). x.count) log ∙ staged_count_same ph old.log other;
      empty = empty_in new.log.phase old.staged.items r.none_staged;
      rotation = subst (λ (x : Logs). MayRotate x.next x.newest old.staged.items) (sym logs) rotation;
      keys = keys_kept old.log new.log p (ap (λ (x : LogState). x.version) log ∙ version_same ph old.log) f.keys;
      stores = ended_stores states failures honest n done old new p next phase law f s other;
    })

-- the last step of the end
fits_over : {D : Type 0} (states : D → List Files) (failures : D → ℕ) (honest : D → Type 0) (n : ℕ) (done : List Command) (old new : Keeper D) (p : Record) (next : LogState) (phase : Phase) → LogEnds → Fits states honest n done old p
    → StepsEnd states failures honest old new next (Ok phase) → old.log.phase ≡ Opened → Fits states honest n done new p
fits_over {D} states failures honest n done old new p next phase law f s last =
    let r : Rotates next old.log old.staged.items = rotates states honest n done old p next f s.next_is in
    let u : IsUnbroken (store_of old) = f.stores.unbroken s.works in
    let logs : logs_of new ≡ record { newest = next; next = None } = subst (λ (x : Phase). logs_of new ≡ ended_in x old.log next) last s.ok.0 in
    let log : new.log ≡ next = ap (λ (x : Logs). x.newest) logs in
    let state : store_of new ≡ record (store_of old) { log = next; next = None } = logs_state old new (record { newest = next; next = None }) s.same logs in
    let none_old : old.staged.items ≡ [] = r.none_staged in
    let none_new : new.staged.items ≡ [] = ap (λ x. x.items) s.staged ∙ none_old in
    fits_gone states honest n done old new p f (record {
      same = s.same;
      sweeper = s.sweeper;
      staged = ap (λ x. x.items) s.staged;
      committed = ap (λ (x : LogState). x.committed) (log ∙ r.is);
      count = ap (λ (x : LogState). x.count) (log ∙ r.is) ∙ sym (f.counts.count ∙ ap (λ (xs : List Entry). length xs) none_old);
      empty = empty_in new.log.phase old.staged.items none_old;
      rotation = subst (λ (x : Logs). MayRotate x.next x.newest old.staged.items) (sym logs) (ap (λ (x : LogState). x.ending) r.is);
      keys = keys_in_new old.log new.log p (ap (λ (x : LogState). x.version) (log ∙ r.is)) f.keys;
      stores = stores_on states honest new p s.ok.1
          (subst IsUnbroken (sym state) (record { log = next_works states honest n done old p next f s.works s.next_is; next = tt; writer = u.writer }))
          (λ h. (
          let held : HoldsFor (history_of p) old (now (states old.disk)) = f.stores.works s.works (s.advances.was_honest h) in
          let there = log_is_over states failures honest (history_of p) (store_of old) old.must_close next s.log old.disk new.disk phase law s.next_is s.idle last
          (subst (λ (es : List Entry). HoldsFront (history_of p) (store_of old) es old.must_close (now (states old.disk))) none_old held) s.advances in
          subst (λ (b : Bool). HoldsFront (history_of p) (store_of new) new.staged.items b (now (states new.disk))) (sym (ap (λ (k : Keeper D). k.must_close) s.same))
          (subst (λ (es : List Entry). HoldsFront (history_of p) (store_of new) es old.must_close (now (states new.disk))) (sym none_new)
          (subst (λ (x : StoreState). HoldsFront (history_of p) x [] old.must_close (now (states new.disk))) (sym state) there))
          ));
    })

-- whose turn it is doesn't rest on whether the newest log has failed
pub turn_same : (ph : Phase) (log : LogState) → store.IsTurn ph log → store.IsTurn ph (record log { is_broken = true })
turn_same Idle log t = t
turn_same Header log t = t
turn_same HeaderWritten log t = t
turn_same Staged log t = t
turn_same Written log t = t
turn_same Synced log t = t
turn_same Opened log t = t

pub fits_ended : {D : Type 0} (states : D → List Files) (failures : D → ℕ) (honest : D → Type 0) (n : ℕ) (done : List Command) (old new : Keeper D) (p : Record) (next : LogState) (result : Result Phase Refusal) → EndStepsOn → LogEnds → LogStepsStop
    → Fits states honest n done old p → StepsEnd states failures honest old new next result → Fits states honest n (done_after result old.log.phase done old.staged.items) new p
fits_ended {D} states failures honest n done old new p next (Ok phase) on over stop f s =
    gone_after states honest n done old new p (Ok phase) (rotates states honest n done old p next f s.next_is).none_staged (elim (opened_or_not old.log.phase) [
      | inl last ↦ fits_over states failures honest n done old new p next phase over f s last
      | inr other ↦ fits_ending states failures honest n done old new p next phase on f s other
    ])
fits_ended {D} states failures honest n done old new p next (Err e) on over stop f s =
    let r : Rotates next old.log old.staged.items = rotates states honest n done old p next f s.next_is in
    let failed : Rotates next (record old.log { is_broken = true }) old.staged.items = record { is = r.is; turn = turn_same next.phase old.log r.turn; ready = r.ready; none_staged = r.none_staged } in
    log_fails states failures honest n done old new p e stop f s.same s.works s.err.1 s.sweeper s.staged (ap (λ (x : Logs). x.newest) s.err.0)
    (subst (λ (o : Option LogState). MayRotate o (record old.log { is_broken = true }) old.staged.items) (sym (ap (λ (x : Logs). x.next) s.err.0)) failed) s.advances.was_honest
    (λ h. log_at_moments states failures honest n done old s.log new.disk p (Err e) stop f s.works h s.advances)
