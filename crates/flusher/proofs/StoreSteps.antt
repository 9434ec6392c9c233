-- What a step of the logs leaves of the store.
use Rattle.std.proofs.Common.{◌≡◌, ◌≢◌, ℕ, ◌+◌, List, [], ◌∷◌, length, replicate, Bool, Option, Some, None, Result, Ok, append-nil, refl, sym, ◌∙◌, ap, subst}
use Rattle.std.proofs.lemmas.List.{length-map}
use Rattle.disk_model.specs.Calls.{Makes}
use Rattle.disk_model.specs.Files.{File, Files, now, with_file}
use Rattle.disk_model.specs.Gates.{Call, called, writes}
use Rattle.disk_model.specs.Moments.{AtEachMoment}
use Rattle.map_types.specs.declared.commands.Command.{Command}
use Rattle.map_types.specs.declared.refusals.Refusal.{Refusal}
use Rattle.map_model.specs.Histories.{History}
use Rattle.ticket_order.specs.declared.stripe.Entry.{Entry}
use Rattle.disk_model.proofs.FileLemmas.{with_same}
use Rattle.store_layout.specs.Checkpoints.{Checkpoint, is_to_close}
use Rattle.store_layout.specs.Logs.{Batch, commands_in, log_file}
use Rattle.store_layout.specs.declared.log_phase.Phase.{Phase}
use Rattle.store_layout.specs.declared.log_phase.Phase.TheVariants.{Idle, Header, HeaderWritten, Staged, Written, Synced, Opened}
use Rattle.gate_log.specs.States.{LogState, commands_of, log_after}
use Rattle.gate_log.specs.LogStates as gate_log
use Rattle.gate_log.specs.LogSteps.{Advances, committed_after, staged_after}
use Rattle.gate_log.specs.Ahead.{WritesAhead}
use Rattle.store_invariant.specs.States.{Held, StoreState, newest_batches}
use Rattle.store_invariant.specs.StoreStates as store
use Rattle.store_invariant.specs.Laws.{EndStepsOn, LogEnds, LogStays, LogStepsOn, LogStepsStop, NextIsReady, NextStepsOn, NextStepsStop, StoresStop, stepped}
use Rattle.flusher.specs.Fitting.{HoldsFront, batches_of}
use Rattle.flusher.proofs.Moments.{moments_so}

-- ---- the logs of a store that stands

log_at : (k : Checkpoint) (first : List Batch) (second : Option (List Batch)) (newest : LogState) (staged : List Batch) (files : Files) → store.LogsStand k first second newest staged files
    → gate_log.Stands newest (newest_batches first second) staged (files (log_file newest.generation))
log_at k first None newest staged files s = subst (λ (g : ℕ). gate_log.Stands newest first staged (files (log_file g))) (sym s.0) s.2
log_at k first (Some second) newest staged files s = subst (λ (g : ℕ). gate_log.Stands newest second staged (files (log_file g))) (sym s.0) s.2

-- the newest log
pub log_in : (h : History) (state : StoreState) (held : Held) (files : Files) → store.Stands h state held files
    → gate_log.Stands state.log (newest_batches held.found.first held.found.second) held.staged (files (log_file state.log.generation))
log_in h state held files k = log_at held.found.checkpoint held.found.first held.found.second state.log held.staged files k.kept.logs

-- the one that follows it
pub next_in : (h : History) (state : StoreState) (held : Held) (next : LogState) (files : Files) → store.Stands h state held files → state.next ≡ Some next → gate_log.Stands next [] [] (files (log_file next.generation))
next_in h state held next files k is =
    let f : store.Follows next state.log held.found.second files = subst (λ (o : Option LogState). store.NextStands o state.log held.found.second files) is k.kept.next in
    f.stands

-- ---- how many commands are staged

commands_staged : (first : ℕ) (es : List Entry) → commands_in (batches_of first es) ≡ commands_of es
commands_staged first [] = refl
commands_staged first (e ∷ es) = append-nil (commands_of (e ∷ es))

staged_length : (first : ℕ) (es : List Entry) (held : Held) → held.staged ≡ batches_of first es → store.staged_count held ≡ length es
staged_length first es held is =
    ap (λ (bs : List Batch). length (commands_in bs)) is ∙ ap (λ (cs : List Command). length cs) (commands_staged first es) ∙ length-map es (λ (e : Entry). e.command)

-- the same, of a store
counted : (h : History) (state : StoreState) (es : List Entry) (held : Held) (files : Files) → held.staged ≡ batches_of state.log.committed es
    → store.StopsStand h state.log.committed (state.log.committed + store.staged_count held) files → store.StopsStand h state.log.committed (state.log.committed + length es) files
counted h state es held files is k = subst (λ (m : ℕ). store.StopsStand h state.log.committed (state.log.committed + m) files) (staged_length state.log.committed es held is) k

-- ---- what a stop leaves

pub stops_now : (h : History) (state : StoreState) (es : List Entry) (must_close : Bool) (files : Files) → StoresStop → HoldsFront h state es must_close files
    → store.StopsStand h state.log.committed (state.log.committed + length es) files
stops_now h state es must_close files law k = counted h state es k.held files k.staged_is (law h state k.held files k.stands)

-- of a device call during which the newest log keeps its batches
pub kept_moments : {D : Type 0} (states : D → List Files) (h : History) (state : StoreState) (es : List Entry) (must_close : Bool) (old new : D) → LogStepsStop → HoldsFront h state es must_close (now (states old))
    → ((batches staged : List Batch) → gate_log.Stands state.log batches staged (now (states old) (log_file state.log.generation)) → AtEachMoment states old new (gate_log.IsKept state.log batches staged (now (states old))))
    → AtEachMoment states old new (store.StopsStand h state.log.committed (state.log.committed + length es))
kept_moments {D} states h state es must_close old new law k keeps =
    let batches : List Batch = newest_batches k.held.found.first k.held.found.second in
    let start : Files = now (states old) in
    moments_so states old new (gate_log.IsKept state.log batches k.held.staged start) (store.StopsStand h state.log.committed (state.log.committed + length es))
    (λ files kept. counted h state es k.held files k.staged_is (law h state k.held start files k.stands kept)) (keeps batches k.held.staged (log_in h state k.held start k.stands))

pub log_moments : {D : Type 0} (states : D → List Files) (failures : D → ℕ) (honest : D → Type 0) (h : History) (state : StoreState) (es : List Entry) (must_close : Bool) (log : LogState) (old new : D) (result : Result Phase Refusal) → LogStepsStop
    → HoldsFront h state es must_close (now (states old)) → Advances states failures honest state.log log old new result
    → AtEachMoment states old new (store.StopsStand h state.log.committed (state.log.committed + length es))
log_moments {D} states failures honest h state es must_close log old new result law k a = kept_moments states h state es must_close old new law k a.any_moment

pub next_moments : {D : Type 0} (states : D → List Files) (failures : D → ℕ) (honest : D → Type 0) (h : History) (state : StoreState) (es : List Entry) (must_close : Bool) (next log : LogState) (old new : D) (result : Result Phase Refusal) → NextStepsStop
    → HoldsFront h state es must_close (now (states old)) → state.next ≡ Some next → next.phase ≢ Idle → Advances states failures honest next log old new result
    → AtEachMoment states old new (store.StopsStand h state.log.committed (state.log.committed + length es))
next_moments {D} states failures honest h state es must_close next log old new result law k is moves a =
    let start : Files = now (states old) in
    moments_so states old new (gate_log.IsKept next [] [] start) (store.StopsStand h state.log.committed (state.log.committed + length es))
    (λ files kept. counted h state es k.held files k.staged_is (law h state k.held next start files k.stands is moves kept)) (a.any_moment [] [] (next_in h state k.held next start k.stands is))

-- ---- one device call

file_is : {D : Type 0} (states : D → List Files) (failures : D → ℕ) (number : ℕ) (call : Call) (old new : D) → Makes states failures number call old new → now (states new) number ≡ called call (now (states old) number)
file_is {D} states failures number call old new m = ap (λ (xs : List Files). now xs number) m.state ∙ with_same number (called call (now (states old) number)) (now (states old))

files_are : {D : Type 0} (states : D → List Files) (failures : D → ℕ) (number : ℕ) (call : Call) (old new : D) → Makes states failures number call old new
    → now (states new) ≡ with_file number (called call (now (states old) number)) (now (states old))
files_are {D} states failures number call old new m = ap (λ (xs : List Files). now xs) m.state

-- how the log's file stands after a step of it
log_then : {D : Type 0} (states : D → List Files) (failures : D → ℕ) (honest : D → Type 0) (log after : LogState) (batches staged : List Batch) (old new : D) (phase : Phase) → (a : Advances states failures honest log after old new (Ok phase))
    → gate_log.Stands log batches staged (now (states old) (log_file log.generation))
    → gate_log.Stands (log_after log.phase log) (committed_after log.phase batches staged) (staged_after log.phase staged) (called a.call (now (states old) (log_file log.generation)))
log_then {D} states failures honest log after batches staged old new phase a k =
    let file : File = now (states new) (log_file log.generation) in
    subst (λ (f : File). gate_log.Stands (log_after log.phase log) (committed_after log.phase batches staged) (staged_after log.phase staged) f) (file_is states failures (log_file log.generation) a.call old new a.ok.2)
    (subst (λ (x : LogState). gate_log.Stands x (committed_after log.phase batches staged) (staged_after log.phase staged) file) a.ok.0 (a.stands batches staged k))

-- ---- a step of the newest log

log_stands : {D : Type 0} (states : D → List Files) (failures : D → ℕ) (honest : D → Type 0) (h : History) (state : StoreState) (held : Held) (log : LogState) (old new : D) (phase : Phase) → LogStepsOn → state.log.ending ≡ None
    → store.Stands h state held (now (states old)) → Advances states failures honest state.log log old new (Ok phase)
    → store.Stands h (record state { log = log_after state.log.phase state.log }) (stepped state.log.phase held) (now (states new))
log_stands {D} states failures honest h state held log old new phase law goes k a =
    let batches : List Batch = newest_batches held.found.first held.found.second in
    let start : Files = now (states old) in
    let number : ℕ = log_file state.log.generation in
    subst (λ (fs : Files). store.Stands h (record state { log = log_after state.log.phase state.log }) (stepped state.log.phase held) fs) (sym (files_are states failures number a.call old new a.ok.2))
    (law h state held start (called a.call (start number)) k goes (log_then states failures honest state.log log batches held.staged old new phase a (log_in h state held start k)))

-- what is still staged after a step in this phase
abbrev pub left_after : Phase → List Entry → List Entry
left_after Idle es = es
left_after Header es = es
left_after HeaderWritten es = es
left_after Staged es = es
left_after Written es = es
left_after Synced es = es
left_after Opened es = []

holds_in : (ph : Phase) (h : History) (state : StoreState) (held : Held) (es : List Entry) (must_close : Bool) (files : Files) → held.staged ≡ batches_of state.log.committed es → must_close ≡ is_to_close held.other
    → store.Stands h (record state { log = log_after ph state.log }) (stepped ph held) files → HoldsFront h (record state { log = log_after ph state.log }) (left_after ph es) must_close files
holds_in Idle h state held es must_close files is must k = record { held = held; stands = k; staged_is = is; must_close_is = must }
holds_in Header h state held es must_close files is must k = record { held = held; stands = k; staged_is = is; must_close_is = must }
holds_in HeaderWritten h state held es must_close files is must k = record { held = held; stands = k; staged_is = is; must_close_is = must }
holds_in Staged h state held es must_close files is must k = record { held = held; stands = k; staged_is = is; must_close_is = must }
holds_in Written h state held es must_close files is must k = record { held = held; stands = k; staged_is = is; must_close_is = must }
holds_in Synced h state held es must_close files is must k = record { held = held; stands = k; staged_is = is; must_close_is = must }
holds_in Opened h state held es must_close files is must k = record { held = stepped Opened held; stands = k; staged_is = refl; must_close_is = must }

pub log_goes : {D : Type 0} (states : D → List Files) (failures : D → ℕ) (honest : D → Type 0) (h : History) (state : StoreState) (es : List Entry) (must_close : Bool) (log : LogState) (old new : D) (phase : Phase) → LogStepsOn → state.log.ending ≡ None
    → HoldsFront h state es must_close (now (states old)) → Advances states failures honest state.log log old new (Ok phase)
    → HoldsFront h (record state { log = log_after state.log.phase state.log }) (left_after state.log.phase es) must_close (now (states new))
log_goes {D} states failures honest h state es must_close log old new phase law goes k a =
    holds_in state.log.phase h state k.held es must_close (now (states new)) k.staged_is k.must_close_is (log_stands states failures honest h state k.held log old new phase law goes k.stands a)

-- ---- zeros are written ahead

pub ahead_goes : {D : Type 0} (states : D → List Files) (failures : D → ℕ) (honest : D → Type 0) (h : History) (state : StoreState) (es : List Entry) (must_close : Bool) (count : ℕ) (log : LogState) (old new : D) → LogStays
    → HoldsFront h state es must_close (now (states old)) → WritesAhead states failures honest count state.log log old new (Ok tt) → HoldsFront h state es must_close (now (states new))
ahead_goes {D} states failures honest h state es must_close count log old new law k a =
    let batches : List Batch = newest_batches k.held.found.first k.held.found.second in
    let start : Files = now (states old) in
    let number : ℕ = log_file state.log.generation in
    let call : Call = writes (state.log.gate + 1) (replicate count 0) in
    let there : gate_log.Stands state.log batches k.held.staged (now (states new) number) =
    subst (λ (x : LogState). gate_log.Stands x batches k.held.staged (now (states new) number)) a.ok.0 (a.stands batches k.held.staged (log_in h state k.held start k.stands)) in
    record {
      held = k.held;
      stands = subst (λ (fs : Files). store.Stands h state k.held fs) (sym (files_are states failures number call old new a.ok.1))
          (law h state k.held start (called call (start number)) k.stands (subst (λ (f : File). gate_log.Stands state.log batches k.held.staged f) (file_is states failures number call old new a.ok.1) there));
      staged_is = k.staged_is;
      must_close_is = k.must_close_is;
    }

-- ---- a step of its end

committed_same : (ph : Phase) (batches staged : List Batch) → ph ≢ Opened → committed_after ph batches staged ≡ batches
committed_same Idle batches staged h = refl
committed_same Header batches staged h = refl
committed_same HeaderWritten batches staged h = refl
committed_same Staged batches staged h = refl
committed_same Written batches staged h = refl
committed_same Synced batches staged h = refl
committed_same Opened batches staged h = absurd (h refl)

staged_same : (ph : Phase) (staged : List Batch) → ph ≢ Opened → staged_after ph staged ≡ staged
staged_same Idle staged h = refl
staged_same Header staged h = refl
staged_same HeaderWritten staged h = refl
staged_same Staged staged h = refl
staged_same Written staged h = refl
staged_same Synced staged h = refl
staged_same Opened staged h = absurd (h refl)

pub count_same : (ph : Phase) (log : LogState) → ph ≢ Opened → (log_after ph log).committed ≡ log.committed
count_same Idle log h = refl
count_same Header log h = refl
count_same HeaderWritten log h = refl
count_same Staged log h = refl
count_same Written log h = refl
count_same Synced log h = refl
count_same Opened log h = absurd (h refl)

pub end_goes : {D : Type 0} (states : D → List Files) (failures : D → ℕ) (honest : D → Type 0) (h : History) (state : StoreState) (es : List Entry) (must_close : Bool) (next log : LogState) (old new : D) (phase : Phase) → EndStepsOn
    → state.next ≡ Some next → next.phase ≡ Idle → state.log.phase ≢ Opened → HoldsFront h state es must_close (now (states old)) → Advances states failures honest state.log log old new (Ok phase)
    → HoldsFront h (record state { log = log_after state.log.phase state.log }) es must_close (now (states new))
end_goes {D} states failures honest h state es must_close next log old new phase law is idle other k a =
    let ph : Phase = state.log.phase in
    let batches : List Batch = newest_batches k.held.found.first k.held.found.second in
    let start : Files = now (states old) in
    let number : ℕ = log_file state.log.generation in
    let there = log_then states failures honest state.log log batches k.held.staged old new phase a (log_in h state k.held start k.stands) in
    let so : gate_log.Stands (log_after ph state.log) batches k.held.staged (called a.call (start number)) =
    subst (λ (bs : List Batch). gate_log.Stands (log_after ph state.log) bs k.held.staged (called a.call (start number))) (committed_same ph batches k.held.staged other)
    (subst (λ (bs : List Batch). gate_log.Stands (log_after ph state.log) (committed_after ph batches k.held.staged) bs (called a.call (start number))) (staged_same ph k.held.staged other) there) in
    record {
      held = k.held;
      stands = subst (λ (fs : Files). store.Stands h (record state { log = log_after ph state.log }) k.held fs) (sym (files_are states failures number a.call old new a.ok.2))
          (law h state k.held next start (called a.call (start number)) k.stands is idle other so);
      staged_is = k.staged_is ∙ ap (λ (c : ℕ). batches_of c es) (sym (count_same ph state.log other));
      must_close_is = k.must_close_is;
    }

pub log_is_over : {D : Type 0} (states : D → List Files) (failures : D → ℕ) (honest : D → Type 0) (h : History) (state : StoreState) (must_close : Bool) (next log : LogState) (old new : D) (phase : Phase) → LogEnds
    → state.next ≡ Some next → next.phase ≡ Idle → state.log.phase ≡ Opened → HoldsFront h state [] must_close (now (states old)) → Advances states failures honest state.log log old new (Ok phase)
    → HoldsFront h (record state { log = next; next = None }) [] must_close (now (states new))
log_is_over {D} states failures honest h state must_close next log old new phase law is idle last k a =
    let batches : List Batch = newest_batches k.held.found.first k.held.found.second in
    let start : Files = now (states old) in
    let number : ℕ = log_file state.log.generation in
    let there = log_then states failures honest state.log log batches k.held.staged old new phase a (log_in h state k.held start k.stands) in
    record {
      held = record k.held { found = record k.held.found { second = Some [] } };
      stands = subst (λ (fs : Files). store.Stands h (record state { log = next; next = None }) (record k.held { found = record k.held.found { second = Some [] } }) fs) (sym (files_are states failures number a.call old new a.ok.2))
          (law h state k.held next start (called a.call (start number)) k.stands is idle last
          (subst (λ (ph : Phase). gate_log.Stands (log_after ph state.log) (committed_after ph batches k.held.staged) (staged_after ph k.held.staged) (called a.call (start number))) last there));
      staged_is = k.staged_is;
      must_close_is = k.must_close_is;
    }

-- ---- a step of the log that follows

pub next_goes : {D : Type 0} (states : D → List Files) (failures : D → ℕ) (honest : D → Type 0) (h : History) (state : StoreState) (es : List Entry) (must_close : Bool) (next log : LogState) (old new : D) (phase : Phase) → NextStepsOn
    → state.next ≡ Some next → next.phase ≡ Header → HoldsFront h state es must_close (now (states old)) → Advances states failures honest next log old new (Ok phase)
    → HoldsFront h (record state { next = Some (log_after Header next) }) es must_close (now (states new))
next_goes {D} states failures honest h state es must_close next log old new phase law is header k a =
    let start : Files = now (states old) in
    let number : ℕ = log_file next.generation in
    let there = log_then states failures honest next log [] [] old new phase a (next_in h state k.held next start k.stands is) in
    record {
      held = k.held;
      stands = subst (λ (fs : Files). store.Stands h (record state { next = Some (log_after Header next) }) k.held fs) (sym (files_are states failures number a.call old new a.ok.2))
          (law h state k.held next start (called a.call (start number)) k.stands is header
          (subst (λ (ph : Phase). gate_log.Stands (log_after ph next) (committed_after ph [] []) (staged_after ph []) (called a.call (start number))) header there));
      staged_is = k.staged_is;
      must_close_is = k.must_close_is;
    }

-- its header is on the disk, and the newest log is told to end
pub next_is_ready : {D : Type 0} (states : D → List Files) (failures : D → ℕ) (honest : D → Type 0) (h : History) (state : StoreState) (es : List Entry) (must_close : Bool) (next log ending : LogState) (old new : D) (phase : Phase) → NextIsReady
    → state.next ≡ Some next → next.phase ≡ HeaderWritten → ending ≡ record state.log { phase = Staged; ending = Some (state.log.generation + 1) }
    → ((batches staged : List Batch) (file : File) → gate_log.Stands state.log batches staged file → gate_log.Stands ending batches staged file)
    → HoldsFront h state es must_close (now (states old)) → Advances states failures honest next log old new (Ok phase)
    → HoldsFront h (record state { log = ending; next = Some (log_after HeaderWritten next) }) es must_close (now (states new))
next_is_ready {D} states failures honest h state es must_close next log ending old new phase law is header told stands k a =
    let start : Files = now (states old) in
    let number : ℕ = log_file next.generation in
    let there = log_then states failures honest next log [] [] old new phase a (next_in h state k.held next start k.stands is) in
    record {
      held = k.held;
      stands = subst (λ (fs : Files). store.Stands h (record state { log = ending; next = Some (log_after HeaderWritten next) }) k.held fs) (sym (files_are states failures number a.call old new a.ok.2))
          (law h state k.held next ending start (called a.call (start number)) k.stands is header
          (subst (λ (ph : Phase). gate_log.Stands (log_after ph next) (committed_after ph [] []) (staged_after ph []) (called a.call (start number))) header there) told stands);
      staged_is = k.staged_is ∙ ap (λ (x : LogState). batches_of x.committed es) (sym told);
      must_close_is = k.must_close_is;
    }
