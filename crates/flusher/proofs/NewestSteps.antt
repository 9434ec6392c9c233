-- A step of the newest log, if no log follows it.
use Rattle.std.proofs.Common.{◌≡◌, ◌≢◌, inl, inr, ℕ, List, [], Option, None, Bool, true, false, Result, Ok, Err, OnOk, OnErr, refl, sym, ◌∙◌, ap, subst}
use Rattle.disk_model.specs.Files.{Files, now}
use Rattle.disk_model.specs.Moments.{AtEachMoment}
use Rattle.map_types.specs.declared.commands.Command.{Command}
use Rattle.map_types.specs.declared.refusals.Refusal.{Refusal}
use Rattle.ticket_order.specs.declared.stripe.Entry.{Entry}
use Rattle.ticket_order.specs.declared.record.Record.{Record}
use Rattle.ticket_order.specs.Legality.{history_of}
use Rattle.store_layout.specs.declared.log_phase.Phase.{Phase}
use Rattle.store_layout.specs.declared.log_phase.Phase.TheVariants.{Idle, Header, HeaderWritten, Staged, Written, Synced, Opened}
use Rattle.gate_log.specs.States.{LogState, log_after}
use Rattle.gate_log.specs.LogSteps.{Advances, MayAdvance}
use Rattle.gate_log.proofs.AdvanceLemmas.{cases_idle}
use Rattle.store_invariant.specs.States.{StoreState}
use Rattle.store_invariant.specs.Laws.{LogStepsOn, LogStepsStop}
use Rattle.flusher.specs.declared.keeper.Keeper.{Keeper}
use Rattle.flusher.specs.KeeperSteps.{IsPast}
use Rattle.flusher.specs.Rotating.{MayRotate}
use Rattle.flusher.specs.Fitting.{Fits, HoldsFront, IsEmptyIn, IsUnbroken, StopsFit, Stores, done_after, store_of}
use Rattle.flusher.proofs.Committing.{IsSame, fits_committed, fits_gone, state_then}
use Rattle.flusher.proofs.StoreSteps.{count_same, left_after, log_goes, log_in, log_moments}
use Rattle.flusher.proofs.Keys.{keys_kept}
use Rattle.flusher.proofs.LogsAfter.{broken_same, ending_same, staged_count_same, version_same, stores_on, stores_off}

pub log_may : {D : Type 0} (states : D → List Files) (honest : D → Type 0) (n : ℕ) (done : List Command) (keeper : Keeper D) (p : Record) → Fits states honest n done keeper p → keeper.is_broken ≡ false → MayAdvance states honest keeper.log keeper.disk
log_may {D} states honest n done keeper p f works = λ _ h.
    let k = f.stores.works works h in
    (_, k.held.staged, log_in (history_of p) (store_of keeper) k.held (now (states keeper.disk)) k.stands)

pub log_at_moments : {D : Type 0} (states : D → List Files) (failures : D → ℕ) (honest : D → Type 0) (n : ℕ) (done : List Command) (old : Keeper D) (log : LogState) (disk : D) (p : Record) (result : Result Phase Refusal) → LogStepsStop
    → Fits states honest n done old p → old.is_broken ≡ false → honest old.disk → Advances states failures honest old.log log old.disk disk result → AtEachMoment states old.disk disk (StopsFit (history_of p) old)
log_at_moments {D} states failures honest n done old log disk p result law f works h a =
    log_moments states failures honest (history_of p) (store_of old) old.staged.items old.must_close log old.disk disk result law (f.stores.works works h) a

-- what is known of the logs after a step of the newest one
pub record Logged {D : Type 0} (states : D → List Files) (failures : D → ℕ) (honest : D → Type 0) (old new : Keeper D) (phase : Phase) : Type 0 where
  pub same : IsSame old new
  pub works : old.is_broken ≡ false
  pub alone : old.next ≡ None
  pub still : new.next ≡ None
  pub works_on : new.is_broken ≡ false
  pub advances : Advances states failures honest old.log new.log old.disk new.disk (Ok phase)
  pub staged : new.staged.items ≡ left_after old.log.phase old.staged.items

logged_state : {D : Type 0} (states : D → List Files) (failures : D → ℕ) (honest : D → Type 0) (old new : Keeper D) (phase : Phase) → Logged states failures honest old new phase → store_of new ≡ record (store_of old) { log = log_after old.log.phase old.log }
logged_state {D} states failures honest old new phase l =
    state_then old new l.same ∙ ap (λ (o : Option LogState). let r : StoreState = record (store_of old) { log = new.log; next = o } in r) (l.still ∙ sym l.alone)
    ∙ ap (λ (x : LogState). let r : StoreState = record (store_of old) { log = x } in r) l.advances.ok.0

logged_stores : {D : Type 0} (states : D → List Files) (failures : D → ℕ) (honest : D → Type 0) (n : ℕ) (done : List Command) (old new : Keeper D) (p : Record) (phase : Phase) → LogStepsOn → Fits states honest n done old p
    → Logged states failures honest old new phase → Stores states honest new p
logged_stores {D} states failures honest n done old new p phase law f l =
    let u : IsUnbroken (store_of old) = f.stores.unbroken l.works in
    let state = logged_state states failures honest old new phase l in
    let goes : old.log.ending ≡ None = subst (λ (o : Option LogState). MayRotate o old.log old.staged.items) l.alone f.rotation in
    stores_on states honest new p l.works_on
    (subst IsUnbroken (sym state) (record { log = broken_same old.log.phase old.log ∙ u.log; next = u.next; writer = u.writer }))
    (λ h. (
    let there = log_goes states failures honest (history_of p) (store_of old) old.staged.items old.must_close new.log old.disk new.disk phase law goes (f.stores.works l.works (l.advances.was_honest h)) l.advances in
    subst (λ (b : Bool). HoldsFront (history_of p) (store_of new) new.staged.items b (now (states new.disk))) (sym (ap (λ (k : Keeper D). k.must_close) l.same))
    (subst (λ (es : List Entry). HoldsFront (history_of p) (store_of new) es old.must_close (now (states new.disk))) (sym l.staged)
    (subst (λ (x : StoreState). HoldsFront (history_of p) x (left_after old.log.phase old.staged.items) old.must_close (now (states new.disk))) (sym state) there))
    ))

logged_rotation : {D : Type 0} (states : D → List Files) (failures : D → ℕ) (honest : D → Type 0) (n : ℕ) (done : List Command) (old new : Keeper D) (p : Record) (phase : Phase) (es : List Entry) → Fits states honest n done old p
    → Logged states failures honest old new phase → MayRotate new.next new.log es
logged_rotation {D} states failures honest n done old new p phase es f l =
    let goes : old.log.ending ≡ None = subst (λ (o : Option LogState). MayRotate o old.log old.staged.items) l.alone f.rotation in
    subst (λ (o : Option LogState). MayRotate o new.log es) (sym l.still) (ap (λ (x : LogState). x.ending) l.advances.ok.0 ∙ ending_same old.log.phase old.log ∙ goes)

-- it commits nothing
logged_on : {D : Type 0} (states : D → List Files) (failures : D → ℕ) (honest : D → Type 0) (n : ℕ) (done : List Command) (old new : Keeper D) (p : Record) (phase : Phase) → LogStepsOn → Fits states honest n done old p
    → Logged states failures honest old new phase → old.log.phase ≢ Opened → IsEmptyIn (log_after old.log.phase old.log).phase old.staged.items → new.sweeper ≡ old.sweeper → new.staged.items ≡ old.staged.items → Fits states honest n done new p
logged_on {D} states failures honest n done old new p phase law f l other empty sweeper staged = fits_gone states honest n done old new p f (record {
  same = l.same;
  sweeper = sweeper;
  staged = staged;
  committed = ap (λ (x : LogState). x.committed) l.advances.ok.0 ∙ count_same old.log.phase old.log other;
  count = ap (λ (x : LogState). x.count) l.advances.ok.0 ∙ staged_count_same old.log.phase old.log other;
  empty = subst (λ (x : LogState). IsEmptyIn x.phase old.staged.items) (sym l.advances.ok.0) empty;
  rotation = logged_rotation states failures honest n done old new p phase old.staged.items f l;
  keys = keys_kept old.log new.log p (ap (λ (x : LogState). x.version) l.advances.ok.0 ∙ version_same old.log.phase old.log) f.keys;
  stores = logged_stores states failures honest n done old new p phase law f l;
})

no_other : (ph a b : Phase) → ph ≡ a → (a ≡ b → ⊥) → ph ≢ b
no_other ph a b is never = λ e. never (sym is ∙ e)

-- What a step of the newest log says, where none follows.
pub record StepsLog {D : Type 0} (states : D → List Files) (failures : D → ℕ) (honest : D → Type 0) (old new : Keeper D) (result : Result Phase Refusal) : Type 0 where
  pub same : IsSame old new
  pub works : old.is_broken ≡ false
  pub alone : old.next ≡ None
  pub still : new.next ≡ None
  pub rests : old.log.phase ≡ Idle → (result ≡ Ok Idle) × (new ≡ old)
  pub advances : old.log.phase ≢ Idle → Advances states failures honest old.log new.log old.disk new.disk result
  pub hand : OnOk result (IsPast None old.log.phase old.sweeper old.staged.items new.sweeper new.staged.items)
  pub works_on : OnOk result (new.is_broken ≡ false)
  pub kept : OnErr result ((new.sweeper ≡ old.sweeper) × (new.staged ≡ old.staged) × (new.is_broken ≡ true))

log_quietly : {D : Type 0} (states : D → List Files) (failures : D → ℕ) (honest : D → Type 0) (n : ℕ) (done : List Command) (old new : Keeper D) (p : Record) (phase ph : Phase) → LogStepsOn → Fits states honest n done old p
    → old.log.phase ≡ ph → StepsLog states failures honest old new (Ok phase) → ph ≢ Idle → ph ≢ Opened → IsEmptyIn (log_after ph old.log).phase old.staged.items → left_after ph old.staged.items ≡ old.staged.items
    → (new.sweeper ≡ old.sweeper) × (new.staged.items ≡ old.staged.items) → Fits states honest n done new p
log_quietly {D} states failures honest n done old new p phase ph law f is s moves other empty left past =
    logged_on states failures honest n done old new p phase law f (record {
      same = s.same;
      works = s.works;
      alone = s.alone;
      still = s.still;
      works_on = s.works_on;
      advances = s.advances (no_other old.log.phase ph Idle is moves);
      staged = past.1 ∙ sym left ∙ ap (λ (x : Phase). left_after x old.staged.items) (sym is);
    }) (no_other old.log.phase ph Opened is other) (subst (λ (x : Phase). IsEmptyIn (log_after x old.log).phase old.staged.items) (sym is) empty) past.0 past.1

log_in_phase : {D : Type 0} (states : D → List Files) (failures : D → ℕ) (honest : D → Type 0) (n : ℕ) (done : List Command) (old new : Keeper D) (p : Record) (phase ph : Phase) → LogStepsOn → Fits states honest n done old p
    → old.log.phase ≡ ph → StepsLog states failures honest old new (Ok phase) → IsPast None ph old.sweeper old.staged.items new.sweeper new.staged.items → Fits states honest n (done_after (Ok phase) ph done old.staged.items) new p
log_in_phase {D} states failures honest n done old new p phase Idle law f is s past = subst (λ (k : Keeper D). Fits states honest n done k p) (sym (s.rests is).1) f
log_in_phase {D} states failures honest n done old new p phase Header law f is s past =
    log_quietly states failures honest n done old new p phase Header law f is s (λ e. cc) (λ e. cc) (subst (λ x. IsEmptyIn x old.staged.items) is f.counts.empty) refl past
log_in_phase {D} states failures honest n done old new p phase HeaderWritten law f is s past =
    log_quietly states failures honest n done old new p phase HeaderWritten law f is s (λ e. cc) (λ e. cc) (subst (λ x. IsEmptyIn x old.staged.items) is f.counts.empty) refl past
log_in_phase {D} states failures honest n done old new p phase Staged law f is s past = log_quietly states failures honest n done old new p phase Staged law f is s (λ e. cc) (λ e. cc) tt refl past
log_in_phase {D} states failures honest n done old new p phase Written law f is s past = log_quietly states failures honest n done old new p phase Written law f is s (λ e. cc) (λ e. cc) tt refl past
log_in_phase {D} states failures honest n done old new p phase Synced law f is s past = log_quietly states failures honest n done old new p phase Synced law f is s (λ e. cc) (λ e. cc) tt refl past
log_in_phase {D} states failures honest n done old new p phase Opened law f is s past =
    let a = s.advances (no_other old.log.phase Opened Idle is (λ e. cc)) in
    let l : Logged states failures honest old new phase = record {
      same = s.same;
      works = s.works;
      alone = s.alone;
      still = s.still;
      works_on = s.works_on;
      advances = a;
      staged = past.1 ∙ ap (λ (x : Phase). left_after x old.staged.items) (sym is);
    } in
    fits_committed states honest n done old new p f (record {
      same = s.same;
      sweeper = past.0;
      none_staged = past.1;
      log = subst (λ (x : Phase). new.log ≡ log_after x old.log) is a.ok.0;
      rotation = logged_rotation states failures honest n done old new p phase [] f l;
      stores = logged_stores states failures honest n done old new p phase law f l;
    })

ok_not_err : (x : Phase) (e : Refusal) → Ok x ≡ Err e → ⊥
ok_not_err x e h = cc

-- a device call of the newest log failed
pub log_fails : {D : Type 0} (states : D → List Files) (failures : D → ℕ) (honest : D → Type 0) (n : ℕ) (done : List Command) (old new : Keeper D) (p : Record) (e : Refusal) → LogStepsStop → Fits states honest n done old p
    → IsSame old new → old.is_broken ≡ false → new.is_broken ≡ true → new.sweeper ≡ old.sweeper → new.staged ≡ old.staged → new.log ≡ record old.log { is_broken = true } → MayRotate new.next (record old.log { is_broken = true }) old.staged.items
    → (honest new.disk → honest old.disk) → (honest old.disk → AtEachMoment states old.disk new.disk (StopsFit (history_of p) old)) → Fits states honest n done new p
log_fails {D} states failures honest n done old new p e law f same works failed sweeper staged log rotation was moments =
    let items : new.staged.items ≡ old.staged.items = ap (λ x. x.items) staged in
    let count : new.log.committed ≡ old.log.committed = ap (λ (x : LogState). x.committed) log in
    fits_gone states honest n done old new p f (record {
      same = same;
      sweeper = sweeper;
      staged = items;
      committed = count;
      count = ap (λ (x : LogState). x.count) log;
      empty = subst (λ (x : LogState). IsEmptyIn x.phase old.staged.items) (sym log) f.counts.empty;
      rotation = subst (λ (x : LogState). MayRotate new.next x old.staged.items) (sym log) rotation;
      keys = keys_kept old.log new.log p (ap (λ (x : LogState). x.version) log) f.keys;
      stores = stores_off states honest old new p failed count items was moments;
    })

pub fits_logged : {D : Type 0} (states : D → List Files) (failures : D → ℕ) (honest : D → Type 0) (n : ℕ) (done : List Command) (old new : Keeper D) (p : Record) (result : Result Phase Refusal) → LogStepsOn → LogStepsStop → Fits states honest n done old p
    → StepsLog states failures honest old new result → Fits states honest n (done_after result old.log.phase done old.staged.items) new p
fits_logged {D} states failures honest n done old new p (Ok phase) law stop f s = log_in_phase states failures honest n done old new p phase old.log.phase law f refl s s.hand
fits_logged {D} states failures honest n done old new p (Err e) law stop f s = elim (cases_idle old.log.phase) [
  | inl rests ↦ absurd (ok_not_err Idle e (sym (s.rests rests).0))
  | inr moves ↦ (
      let a = s.advances moves in
      let goes : old.log.ending ≡ None = subst (λ (o : Option LogState). MayRotate o old.log old.staged.items) s.alone f.rotation in
      log_fails states failures honest n done old new p e stop f s.same s.works s.kept.2 s.kept.0 s.kept.1 a.err.1
      (subst (λ (o : Option LogState). MayRotate o (record old.log { is_broken = true }) old.staged.items) (sym s.still) goes) a.was_honest
      (λ h. log_at_moments states failures honest n done old new.log new.disk p (Err e) stop f s.works h a)
      )
]
