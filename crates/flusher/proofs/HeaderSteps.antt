-- A step of the header of the log that follows.
use Rattle.std.proofs.Common.{◌≡◌, ◌≢◌, ◌⊎◌, inl, inr, ℕ, ◌+◌, List, Option, Some, Bool, true, false, Result, Ok, Err, OnOk, OnErr, refl, sym, ◌∙◌, ap, subst}
use Rattle.disk_model.specs.Files.{File, Files, now}
use Rattle.map_types.specs.declared.commands.Command.{Command}
use Rattle.map_types.specs.declared.refusals.Refusal.{Refusal}
use Rattle.ticket_order.specs.declared.stripe.Entry.{Entry}
use Rattle.ticket_order.specs.declared.record.Record.{Record}
use Rattle.ticket_order.specs.Legality.{history_of}
use Rattle.store_layout.specs.Logs.{Batch}
use Rattle.store_layout.specs.declared.log_phase.Phase.{Phase}
use Rattle.store_layout.specs.declared.log_phase.Phase.TheVariants.{Idle, Header, HeaderWritten, Staged, Written, Synced, Opened}
use Rattle.gate_log.specs.States.{LogState, log_after}
use Rattle.gate_log.specs.LogStates as gate_log
use Rattle.gate_log.specs.LogSteps.{Advances}
use Rattle.store_invariant.specs.States.{StoreState}
use Rattle.store_invariant.specs.StoreStates as store
use Rattle.store_invariant.specs.Laws.{NextIsReady, NextStepsOn, NextStepsStop}
use Rattle.flusher.specs.declared.keeper.Keeper.{Keeper}
use Rattle.flusher.specs.Rotating.{IsTold, Logs, MayRotate, Rotates, logs_of}
use Rattle.flusher.specs.Fitting.{Fits, HoldsFront, IsEmptyIn, IsUnbroken, Stores, done_after, store_of}
use Rattle.flusher.proofs.Committing.{IsSame, fits_gone}
use Rattle.flusher.proofs.Keys.{keys_kept}
use Rattle.flusher.proofs.StoreSteps.{next_goes, next_is_ready}
use Rattle.flusher.proofs.LogsAfter.{empty_in, stores_on, stores_off}
use Rattle.flusher.proofs.EndSteps.{rotates, next_works, next_at_moments, gone_after, logs_state}

-- its header is to be written, or to be synced
header_cases : (ph : Phase) (newest : LogState) → store.IsTurn ph newest → ph ≢ Idle → (ph ≡ Header) ⊎ (ph ≡ HeaderWritten)
header_cases Idle newest t moves = absurd (moves refl)
header_cases Header newest t moves = inl refl
header_cases HeaderWritten newest t moves = inr refl
header_cases Staged newest t moves = absurd t
header_cases Written newest t moves = absurd t
header_cases Synced newest t moves = absurd t
header_cases Opened newest t moves = absurd t

generation_next : (next newest : LogState) (es : List Entry) → Rotates next newest es → next.generation ≡ newest.generation + 1
generation_next next newest es r = ap (λ (x : LogState). x.generation) r.is

-- what a step of the log that follows leaves, by what its device call gave
pub record Headed {D : Type 0} (states : D → List Files) (failures : D → ℕ) (honest : D → Type 0) (old new : Keeper D) (next log : LogState) (made : Result Phase Refusal) (result : Result Phase Refusal) : Type 0 where
  pub same : IsSame old new
  pub works : old.is_broken ≡ false
  pub next_is : old.next ≡ Some next
  pub moves : next.phase ≢ Idle
  pub sweeper : new.sweeper ≡ old.sweeper
  pub staged : new.staged ≡ old.staged
  pub follows : new.next ≡ Some log
  pub advances : Advances states failures honest next log old.disk new.disk made
  pub told : IsTold made next.generation old.log new.log result
  pub stands : (batches : List Batch) (staged : List Batch) (file : File) → gate_log.Stands old.log batches staged file → gate_log.Stands new.log batches staged file
  pub ok : OnOk result (new.is_broken ≡ false)
  pub err : OnErr result (new.is_broken ≡ true)

-- what such a step makes of the stores, once what the files hold is known
headed_stores : {D : Type 0} (states : D → List Files) (honest : D → Type 0) (n : ℕ) (done : List Command) (old new : Keeper D) (p : Record) (newest next then : LogState) → Fits states honest n done old p → IsSame old new → old.is_broken ≡ false → old.next ≡ Some next
    → new.is_broken ≡ false → new.staged ≡ old.staged → logs_of new ≡ record { newest = newest; next = Some then } → newest.is_broken ≡ old.log.is_broken → then.is_broken ≡ next.is_broken
    → (honest new.disk → HoldsFront (history_of p) (record (store_of old) { log = newest; next = Some then }) old.staged.items old.must_close (now (states new.disk))) → Stores states honest new p
headed_stores {D} states honest n done old new p newest next then f same works is works_on staged logs one two holds =
    let u : IsUnbroken (store_of old) = f.stores.unbroken works in
    let state : store_of new ≡ record (store_of old) { log = newest; next = Some then } = logs_state old new (record { newest = newest; next = Some then }) same logs in
    stores_on states honest new p works_on
    (subst IsUnbroken (sym state) (record { log = one ∙ u.log; next = two ∙ next_works states honest n done old p next f works is; writer = u.writer }))
    (λ h.
    subst (λ (b : Bool). HoldsFront (history_of p) (store_of new) new.staged.items b (now (states new.disk))) (sym (ap (λ (k : Keeper D). k.must_close) same))
    (subst (λ (es : List Entry). HoldsFront (history_of p) (store_of new) es old.must_close (now (states new.disk))) (sym (ap (λ x. x.items) staged))
    (subst (λ (x : StoreState). HoldsFront (history_of p) x old.staged.items old.must_close (now (states new.disk))) (sym state) (holds h))))

-- its header is written
header_written : {D : Type 0} (states : D → List Files) (failures : D → ℕ) (honest : D → Type 0) (n : ℕ) (done : List Command) (old new : Keeper D) (p : Record) (next log : LogState) (phase : Phase) (result : Result Phase Refusal) → NextStepsOn
    → Fits states honest n done old p → Headed states failures honest old new next log (Ok phase) result → next.phase ≡ Header → Fits states honest n done new p
header_written {D} states failures honest n done old new p next log phase result law f s header =
    let r : Rotates next old.log old.staged.items = rotates states honest n done old p next f s.next_is in
    let then : LogState = record next { phase = HeaderWritten } in
    let log_is : log ≡ then = s.advances.ok.0 ∙ ap (λ (x : Phase). log_after x next) header in
    let phase_is : phase ≡ HeaderWritten = s.advances.ok.1 ∙ ap (λ (x : LogState). x.phase) log_is in
    let told : (result ≡ Ok HeaderWritten) × (new.log ≡ old.log) = subst (λ (x : Phase). IsTold (Ok x) next.generation old.log new.log result) phase_is s.told in
    let works_on : new.is_broken ≡ false = subst (λ (x : Result Phase Refusal). OnOk x (new.is_broken ≡ false)) told.0 s.ok in
    let logs : logs_of new ≡ record { newest = old.log; next = Some then } =
    ap (λ (x : LogState). let l : Logs = record { newest = x; next = new.next } in l) told.1 ∙ ap (λ (o : Option LogState). let l : Logs = record { newest = old.log; next = o } in l) (s.follows ∙ ap Some log_is) in
    let rotation : Rotates then old.log old.staged.items = record {
      is = ap (λ (x : LogState). let y : LogState = record x { phase = HeaderWritten } in y) r.is;
      turn = subst (λ (x : Phase). store.IsTurn x old.log) header r.turn;
      ready = r.ready;
      none_staged = r.none_staged;
    } in
    fits_gone states honest n done old new p f (record {
      same = s.same;
      sweeper = s.sweeper;
      staged = ap (λ x. x.items) s.staged;
      committed = ap (λ (x : LogState). x.committed) told.1;
      count = ap (λ (x : LogState). x.count) told.1;
      empty = empty_in new.log.phase old.staged.items r.none_staged;
      rotation = subst (λ (x : Logs). MayRotate x.next x.newest old.staged.items) (sym logs) rotation;
      keys = keys_kept old.log new.log p (ap (λ (x : LogState). x.version) told.1) f.keys;
      stores = headed_stores states honest n done old new p old.log next then f s.same s.works s.next_is works_on s.staged logs refl refl
          (λ h. next_goes states failures honest (history_of p) (store_of old) old.staged.items old.must_close next log old.disk new.disk phase law s.next_is header (f.stores.works s.works (s.advances.was_honest h)) s.advances);
    })

-- it is on the disk, and the newest log is told to end
header_synced : {D : Type 0} (states : D → List Files) (failures : D → ℕ) (honest : D → Type 0) (n : ℕ) (done : List Command) (old new : Keeper D) (p : Record) (next log : LogState) (phase : Phase) (result : Result Phase Refusal) → NextIsReady
    → Fits states honest n done old p → Headed states failures honest old new next log (Ok phase) result → next.phase ≡ HeaderWritten → Fits states honest n done new p
header_synced {D} states failures honest n done old new p next log phase result law f s header =
    let r : Rotates next old.log old.staged.items = rotates states honest n done old p next f s.next_is in
    let then : LogState = record next { phase = Idle } in
    let ending : LogState = record old.log { phase = Staged; ending = Some (old.log.generation + 1) } in
    let log_is : log ≡ then = s.advances.ok.0 ∙ ap (λ (x : Phase). log_after x next) header in
    let phase_is : phase ≡ Idle = s.advances.ok.1 ∙ ap (λ (x : LogState). x.phase) log_is in
    let told : (result ≡ Ok Staged) × (new.log ≡ record old.log { phase = Staged; ending = Some next.generation }) = subst (λ (x : Phase). IsTold (Ok x) next.generation old.log new.log result) phase_is s.told in
    let works_on : new.is_broken ≡ false = subst (λ (x : Result Phase Refusal). OnOk x (new.is_broken ≡ false)) told.0 s.ok in
    let ends : new.log ≡ ending = told.1 ∙ ap (λ (g : ℕ). let x : LogState = record old.log { phase = Staged; ending = Some g } in x) (generation_next next old.log old.staged.items r) in
    let logs : logs_of new ≡ record { newest = ending; next = Some then } =
    ap (λ (x : LogState). let l : Logs = record { newest = x; next = new.next } in l) ends ∙ ap (λ (o : Option LogState). let l : Logs = record { newest = ending; next = o } in l) (s.follows ∙ ap Some log_is) in
    let rotation : Rotates then ending old.staged.items = record {
      is = ap (λ (x : LogState). let y : LogState = record x { phase = Idle } in y) r.is;
      turn = (staged_moves, refl);
      ready = tt;
      none_staged = r.none_staged;
    } in
    fits_gone states honest n done old new p f (record {
      same = s.same;
      sweeper = s.sweeper;
      staged = ap (λ x. x.items) s.staged;
      committed = ap (λ (x : LogState). x.committed) ends;
      count = ap (λ (x : LogState). x.count) ends;
      empty = empty_in new.log.phase old.staged.items r.none_staged;
      rotation = subst (λ (x : Logs). MayRotate x.next x.newest old.staged.items) (sym logs) rotation;
      keys = keys_kept old.log new.log p (ap (λ (x : LogState). x.version) ends) f.keys;
      stores = headed_stores states honest n done old new p ending next then f s.same s.works s.next_is works_on s.staged logs refl refl
          (λ h. next_is_ready states failures honest (history_of p) (store_of old) old.staged.items old.must_close next log ending old.disk new.disk phase law s.next_is header refl
          (λ batches staged file k. subst (λ (x : LogState). gate_log.Stands x batches staged file) ends (s.stands batches staged file k)) (f.stores.works s.works (s.advances.was_honest h)) s.advances);
    })
  where
    staged_moves : Staged ≢ Idle
    staged_moves e = cc

-- its device call failed
next_fails : {D : Type 0} (states : D → List Files) (failures : D → ℕ) (honest : D → Type 0) (n : ℕ) (done : List Command) (old new : Keeper D) (p : Record) (next log : LogState) (e : Refusal) (result : Result Phase Refusal) → NextStepsStop
    → Fits states honest n done old p → Headed states failures honest old new next log (Err e) result → Fits states honest n done new p
next_fails {D} states failures honest n done old new p next log e result law f s =
    let r : Rotates next old.log old.staged.items = rotates states honest n done old p next f s.next_is in
    let then : LogState = record next { is_broken = true } in
    let failed : new.is_broken ≡ true = subst (λ (x : Result Phase Refusal). OnErr x (new.is_broken ≡ true)) s.told.0 s.err in
    let items : new.staged.items ≡ old.staged.items = ap (λ x. x.items) s.staged in
    let count : new.log.committed ≡ old.log.committed = ap (λ (x : LogState). x.committed) s.told.1 in
    let rotation : Rotates then old.log old.staged.items = record { is = ap (λ (x : LogState). let y : LogState = record x { is_broken = true } in y) r.is; turn = r.turn; ready = r.ready; none_staged = r.none_staged } in
    fits_gone states honest n done old new p f (record {
      same = s.same;
      sweeper = s.sweeper;
      staged = items;
      committed = count;
      count = ap (λ (x : LogState). x.count) s.told.1;
      empty = subst (λ (x : LogState). IsEmptyIn x.phase old.staged.items) (sym s.told.1) f.counts.empty;
      rotation = subst (λ (x : LogState). MayRotate new.next x old.staged.items) (sym s.told.1) (subst (λ (o : Option LogState). MayRotate o old.log old.staged.items) (sym (s.follows ∙ ap Some s.advances.err.1)) rotation);
      keys = keys_kept old.log new.log p (ap (λ (x : LogState). x.version) s.told.1) f.keys;
      stores = stores_off states honest old new p failed count items s.advances.was_honest
          (λ h. next_at_moments states failures honest n done old next log new.disk p (Err e) law f s.works s.next_is s.moves h s.advances);
    })

headed_in : {D : Type 0} (states : D → List Files) (failures : D → ℕ) (honest : D → Type 0) (n : ℕ) (done : List Command) (old new : Keeper D) (p : Record) (next log : LogState) (made result : Result Phase Refusal) → NextStepsOn → NextIsReady → NextStepsStop
    → Fits states honest n done old p → Headed states failures honest old new next log made result → Fits states honest n done new p
headed_in {D} states failures honest n done old new p next log (Ok phase) result on ready stop f s =
    elim (header_cases next.phase old.log (rotates states honest n done old p next f s.next_is).turn s.moves) [
      | inl header ↦ header_written states failures honest n done old new p next log phase result on f s header
      | inr header ↦ header_synced states failures honest n done old new p next log phase result ready f s header
    ]
headed_in {D} states failures honest n done old new p next log (Err e) result on ready stop f s = next_fails states failures honest n done old new p next log e result stop f s

pub fits_headed : {D : Type 0} (states : D → List Files) (failures : D → ℕ) (honest : D → Type 0) (n : ℕ) (done : List Command) (old new : Keeper D) (p : Record) (next log : LogState) (made result : Result Phase Refusal) → NextStepsOn → NextIsReady → NextStepsStop
    → Fits states honest n done old p → Headed states failures honest old new next log made result → Fits states honest n (done_after result old.log.phase done old.staged.items) new p
fits_headed {D} states failures honest n done old new p next log made result on ready stop f s =
    gone_after states honest n done old new p result (rotates states honest n done old p next f s.next_is).none_staged (headed_in states failures honest n done old new p next log made result on ready stop f s)
