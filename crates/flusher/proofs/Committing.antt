-- What holds of a keeper once a batch is staged or put back, and after a step that commits nothing or a batch.
use Rattle.std.proofs.Common.{◌≡◌, ℕ, ◌+◌, ◌<◌, ◌≤◌, ◌^◌, List, [], ◌∷◌, ◌++◌, length, drop, replicate, Option, None, IfSome, Bool, true, false, append-nil, refl, sym, ◌∙◌, ap, subst, arith}
use Rattle.std.proofs.lemmas.List.{length-append, append_assoc, length-map}
use Rattle.disk_model.specs.Files.{File, Files, now}
use Rattle.map_types.specs.declared.commands.Command.{Command}
use Rattle.map_model.specs.Histories.{History}
use Rattle.ticket_order.specs.declared.stripe.Entry.{Entry}
use Rattle.ticket_order.specs.declared.record.Opening.{Opening}
use Rattle.ticket_order.specs.declared.record.Record.{Record}
use Rattle.ticket_order.specs.Legality.{entries_from, history_of}
use Rattle.log_records.specs.Layout.{layout_of}
use Rattle.store_layout.specs.Logs.{Batch, frame, log_file}
use Rattle.store_layout.specs.SectionsAndLog.{IsNextOf}
use Rattle.checkpoint_file.specs.States.{CheckpointState}
use Rattle.store_layout.specs.declared.log_phase.Phase.TheVariants.{Staged, Opened}
use Rattle.gate_log.specs.States.{LogState, batch_of, commands_of, log_after}
use Rattle.gate_log.specs.LogStates as gate_log
use Rattle.store_invariant.specs.States.{StoreState, newest_batches}
use Rattle.store_invariant.specs.Laws.{BatchIsStaged, StoresStop}
use Rattle.flusher.specs.declared.keeper.Keeper.{Keeper}
use Rattle.flusher.specs.declared.sweeper.Sweeper.{Sweeper}
use Rattle.store_layout.specs.Hands.{Hand, IsRun}
use Rattle.flusher.specs.HandSteps.{SameEntries}
use Rattle.flusher.specs.Gathering.{Accounts, Gathers}
use Rattle.flusher.specs.Sweeping.{Stands}
use Rattle.flusher.specs.KeeperSteps.{MayStage, Stages, passed}
use Rattle.flusher.specs.Rotating.{MayRotate}
use Rattle.flusher.specs.Fitting.{AllowsKeys, Fits, HoldsFor, HoldsFront, IsEmptyIn, IsUnbroken, StopsFit, Stores, batches_of, store_of}
use Rattle.flusher.proofs.Staging.{accounts_staged, commands_there}
use Rattle.ticket_order.proofs.Entries.{length-entries}
use Rattle.flusher.proofs.Passing.{accounts_same, accounts_passed}
use Rattle.flusher.proofs.Keys.{keys_kept}
use Rattle.flusher.proofs.Quiet.{stands_moved}
use Rattle.flusher.proofs.FittingKeepers.{Knows, fits_moved, knows_by}
use Rattle.flusher.proofs.StoreSteps.{log_in, stops_now}

pub two_ways : (x : Bool) → x ≡ true → x ≡ false → ⊥
two_ways x a b = cc

one_batch : (first : ℕ) (es : List Entry) → 1 ≤ length es → batches_of first es ≡ batch_of first es ∷ []
one_batch first [] h = absurd (omega arith)
one_batch first (e ∷ es) h = refl

-- what is staged comes next in the history
comes_next : (hand : Hand) (done staged : List Command) (count : ℕ) (p : Record) → Knows hand (done ++ staged) p → p.opening.first + length done ≡ count → IsNextOf (history_of p) count staged
comes_next hand done staged count p k at = record { front = done; back = k.front.0; commands = k.front.1 ∙ append_assoc done staged k.front.0; place = at }

-- ---- a batch is staged, or put back

pub fits_staged : {D : Type 0} (states : D → List Files) (honest : D → Type 0) (n : ℕ) (done : List Command) (old new : Keeper D) (p : Record) (commands : List Command) → BatchIsStaged → Fits states honest n done old p
    → new ≡ record old { log = new.log; sweeper = record old.sweeper { in_hand = new.sweeper.in_hand }; staged = new.staged } → old.is_broken ≡ false → MayStage old.log old.next → IsRun old.sweeper.in_hand commands
    → old.log.committed + length commands < 2 ^ 64 → 1 ≤ length commands → Stages commands old.log old.sweeper.in_hand new.log new.sweeper.in_hand new.staged.items
    → ((batches : List Batch) (file : File) → gate_log.Stands old.log batches [] file → gate_log.Stands new.log batches (batch_of old.log.committed new.staged.items ∷ []) file)
    → Fits states honest n done new p
fits_staged {D} states honest n done old new p commands law f same works may run small some st on =
    let none_ : old.staged.items ≡ [] = subst (λ ph. IsEmptyIn ph old.staged.items) may.0.0 f.counts.empty in
    let staged_is : new.staged.items ≡ entries_from old.log.committed commands = st.entries ∙ ap (λ t. entries_from t commands) f.counts.next in
    let theirs : commands_of new.staged.items ≡ commands = ap commands_of staged_is ∙ commands_there old.log.committed commands in
    let long : length new.staged.items ≡ length commands = ap (λ (xs : List Entry). length xs) staged_is ∙ length-entries old.log.committed commands in
    let count : new.log.committed ≡ old.log.committed = ap (λ (x : LogState). x.committed) st.log in
    let broken : new.is_broken ≡ old.is_broken = ap (λ (k : Keeper D). k.is_broken) same in
    let disk : new.disk ≡ old.disk = ap (λ (k : Keeper D). k.disk) same in
    let moved : (q : Record) → q.opening ≡ p.opening → Gathers old.sweeper.in_hand (done ++ commands_of old.staged.items) q → Gathers new.sweeper.in_hand (done ++ commands_of new.staged.items) q =
    λ q o k. (
    let plain : Accounts old.sweeper.in_hand done q.opening.first q.taken q.seen =
    subst (λ z. Accounts old.sweeper.in_hand z q.opening.first q.taken q.seen) (append-nil done) (subst (λ (xs : List Entry). Accounts old.sweeper.in_hand (done ++ commands_of xs) q.opening.first q.taken q.seen) none_ k.accounts) in
    let at : q.opening.first + length done ≡ old.sweeper.in_hand.next = subst (λ (z : Opening). z.first + length done ≡ old.sweeper.in_hand.next) (sym o) (f.counts.committed ∙ sym f.counts.next) in
    let staged : Accounts (record old.sweeper.in_hand { slots = replicate (length commands) None ++ drop (length commands) old.sweeper.in_hand.slots }) (done ++ commands) q.opening.first q.taken q.seen =
    accounts_staged old.sweeper.in_hand done commands q.opening.first q.taken q.seen plain at run in
    record {
      keeper = k.keeper;
      accounts = subst (λ h. Accounts h (done ++ commands_of new.staged.items) q.opening.first q.taken q.seen) (sym st.hand_is)
          (subst (λ z. Accounts (record old.sweeper.in_hand { slots = replicate (length commands) None ++ drop (length commands) old.sweeper.in_hand.slots }) (done ++ z) q.opening.first q.taken q.seen) (sym theirs) staged);
      within = k.within;
    }
    ) in
    let stands : Stands n new.sweeper (done ++ commands_of new.staged.items) p =
    stands_moved n old.sweeper new.sweeper (done ++ commands_of old.staged.items) (done ++ commands_of new.staged.items) p (ap (λ (k : Keeper D). k.sweeper.sweep) same) (ap (λ (k : Keeper D). k.sweeper.walking) same) moved f.stands in
    let h : History = history_of p in
    let batch : Batch = batch_of old.log.committed new.staged.items in
    let follows : IsNextOf h old.log.committed batch.commands =
    comes_next new.sweeper.in_hand done (commands_of new.staged.items) old.log.committed p (knows_by n new.sweeper.sweep new.sweeper.walking new.sweeper.in_hand (done ++ commands_of new.staged.items) p stands) f.counts.committed in
    let then : LogState = record old.log { phase = Staged; count = length new.staged.items; frame = frame (layout_of old.log.version) batch ++ 0 ∷ [] } in
    let state : store_of new ≡ record (store_of old) { log = then } =
    ap store_of same ∙ ap (λ (x : LogState). let r : StoreState = record (store_of old) { log = x } in r) st.log in
    let works_on : new.is_broken ≡ false → honest new.disk → HoldsFor h new (now (states new.disk)) =
    λ is given. (
    let files : Files = now (states old.disk) in
    let k : HoldsFor h old files = f.stores.works works (subst honest disk given) in
    let bs : List Batch = newest_batches k.held.found.first k.held.found.second in
    let file : File = files (log_file old.log.generation) in
    let empty : k.held.staged ≡ [] = k.staged_is ∙ ap (batches_of old.log.committed) none_ in
    let there : gate_log.Stands old.log bs [] file = subst (λ z. gate_log.Stands old.log bs z file) empty (log_in h (store_of old) k.held files k.stands) in
    let now_there : gate_log.Stands then bs (batch ∷ []) file = subst (λ (x : LogState). gate_log.Stands x bs (batch ∷ []) file) st.log (on bs file there) in
    let holds : HoldsFront h (record (store_of old) { log = then }) new.staged.items old.must_close files = record {
      held = record k.held { staged = batch ∷ [] };
      stands = law h (store_of old) k.held files (length new.staged.items) (frame (layout_of old.log.version) batch ++ 0 ∷ []) batch k.stands may.0 may.1 follows now_there;
      staged_is = sym (one_batch old.log.committed new.staged.items (omega (arith, long, some)));
      must_close_is = k.must_close_is;
    } in
    subst (λ (x : D). HoldsFront h (store_of new) new.staged.items new.must_close (now (states x))) (sym disk)
    (subst (λ (b : Bool). HoldsFront h (store_of new) new.staged.items b files) (sym (ap (λ (x : Keeper D). x.must_close) same))
    (subst (λ (x : StoreState). HoldsFront h x new.staged.items old.must_close files) (sym state) holds))
    ) in
    record {
      stands = stands;
      counts = record {
        committed = f.counts.committed ∙ sym count;
        next = ap (λ (x : Hand). x.next) st.hand_is ∙ f.counts.next ∙ sym count;
        count = ap (λ (x : LogState). x.count) st.log;
        tickets = staged_is ∙ ap (λ t. entries_from t commands) (sym count) ∙ ap (entries_from new.log.committed) (sym theirs);
        fits = omega (arith, count, long, small);
        empty = subst (λ (x : LogState). IsEmptyIn x.phase new.staged.items) (sym st.log) tt;
      };
      tells = record {
        published = ap (λ (k : Keeper D). k.published) same ∙ f.tells.published;
        durable = omega (arith, f.tells.durable, count, ap (λ (k : Keeper D). k.published) same);
        failed = ap (λ (k : Keeper D). k.has_failed) same ∙ f.tells.failed;
      };
      stripes = record { count = ap (λ (k : Keeper D). k.stripes.count) same ∙ f.stripes.count; writer = subst (λ (o : Option CheckpointState). IfSome o (λ (w : CheckpointState). w.stripes ≡ n)) (sym (ap (λ (k : Keeper D). k.checkpoint) same)) f.stripes.writer };
      rotation = subst (λ (o : Option LogState). MayRotate o new.log new.staged.items) (sym (ap (λ (k : Keeper D). k.next) same ∙ may.1)) (ap (λ (x : LogState). x.ending) st.log ∙ may.0.1);
      keys = keys_kept old.log new.log p (ap (λ (x : LogState). x.version) st.log) f.keys;
      stores = record {
        unbroken = λ _. subst IsUnbroken (sym state) (record { log = (f.stores.unbroken works).log; next = (f.stores.unbroken works).next; writer = (f.stores.unbroken works).writer });
        works = works_on;
        stopped = λ is given. absurd (two_ways new.is_broken is (broken ∙ works));
      };
    }

pub fits_same : {D : Type 0} (states : D → List Files) (honest : D → Type 0) (n : ℕ) (done : List Command) (old new : Keeper D) (p : Record) → Fits states honest n done old p
    → new ≡ record old { log = new.log; sweeper = record old.sweeper { in_hand = new.sweeper.in_hand }; staged = new.staged } → new.log ≡ old.log → new.staged ≡ old.staged → SameEntries old.sweeper.in_hand new.sweeper.in_hand
    → Fits states honest n done new p
fits_same {D} states honest n done old new p f same l s entries =
    let sweeper : Sweeper = record old.sweeper { in_hand = new.sweeper.in_hand } in
    let is : new ≡ record old { sweeper = sweeper } = same ∙ ap (λ (x : LogState). record old { log = x; sweeper = sweeper; staged = new.staged }) l ∙ ap (λ x. record old { sweeper = sweeper; staged = x }) s in
    let moved : (q : Record) → q.opening ≡ p.opening → Gathers old.sweeper.in_hand (done ++ commands_of old.staged.items) q → Gathers new.sweeper.in_hand (done ++ commands_of old.staged.items) q =
    λ q o k. record { keeper = k.keeper; accounts = accounts_same old.sweeper.in_hand new.sweeper.in_hand (done ++ commands_of old.staged.items) q.opening.first q.taken q.seen entries k.accounts; within = k.within } in
    subst (λ (k : Keeper D). Fits states honest n done k p) (sym is)
    (fits_moved states honest n done old sweeper p p f (stands_moved n old.sweeper sweeper (done ++ commands_of old.staged.items) (done ++ commands_of old.staged.items) p refl refl moved f.stands)
    (record { opening = refl; calls = refl; published = refl; failed = refl }) entries.next f.stores)

-- ---- a step of the logs

-- nothing else of the keeper has changed
abbrev pub IsSame : {D : Type 0} → Keeper D → Keeper D → Type 0
IsSame old new = new ≡ record old { disk = new.disk; log = new.log; next = new.next; sweeper = new.sweeper; staged = new.staged; is_broken = new.is_broken }

-- what the keeper knows of the store then
pub state_then : {D : Type 0} (old new : Keeper D) → IsSame old new → store_of new ≡ record { sealed = old.sealed; log = new.log; next = new.next; writer = old.checkpoint }
state_then {D} old new same = ap store_of same

-- What a step that commits nothing leaves.
pub record Goes {D : Type 0} (states : D → List Files) (honest : D → Type 0) (old new : Keeper D) (p : Record) : Type 0 where
  pub same : IsSame old new
  pub sweeper : new.sweeper ≡ old.sweeper
  pub staged : new.staged.items ≡ old.staged.items
  pub committed : new.log.committed ≡ old.log.committed
  pub count : new.log.count ≡ old.log.count
  pub empty : IsEmptyIn new.log.phase old.staged.items
  pub rotation : MayRotate new.next new.log old.staged.items
  pub keys : AllowsKeys new.log p
  pub stores : Stores states honest new p

writer_same : {D : Type 0} (n : ℕ) (old new : Keeper D) → IsSame old new → IfSome old.checkpoint (λ (w : CheckpointState). w.stripes ≡ n) → IfSome new.checkpoint (λ (w : CheckpointState). w.stripes ≡ n)
writer_same {D} n old new same k = subst (λ (o : Option CheckpointState). IfSome o (λ (w : CheckpointState). w.stripes ≡ n)) (sym (ap (λ (k : Keeper D). k.checkpoint) same)) k

pub fits_gone : {D : Type 0} (states : D → List Files) (honest : D → Type 0) (n : ℕ) (done : List Command) (old new : Keeper D) (p : Record) → Fits states honest n done old p → Goes states honest old new p → Fits states honest n done new p
fits_gone {D} states honest n done old new p f g =
    let published : new.published ≡ old.published = ap (λ (k : Keeper D). k.published) g.same in
    record {
      stands = subst (λ (x : Sweeper). Stands n x (done ++ commands_of new.staged.items) p) (sym g.sweeper) (subst (λ (xs : List Entry). Stands n old.sweeper (done ++ commands_of xs) p) (sym g.staged) f.stands);
      counts = record {
        committed = f.counts.committed ∙ sym g.committed;
        next = ap (λ (x : Sweeper). x.in_hand.next) g.sweeper ∙ f.counts.next ∙ sym g.committed;
        count = g.count ∙ f.counts.count ∙ ap (λ (xs : List Entry). length xs) (sym g.staged);
        tickets = g.staged ∙ f.counts.tickets ∙ ap (λ t. entries_from t (commands_of old.staged.items)) (sym g.committed) ∙ ap (λ (xs : List Entry). entries_from new.log.committed (commands_of xs)) (sym g.staged);
        fits = omega (arith, g.committed, ap (λ (xs : List Entry). length xs) g.staged, f.counts.fits);
        empty = subst (λ (xs : List Entry). IsEmptyIn new.log.phase xs) (sym g.staged) g.empty;
      };
      tells = record { published = published ∙ f.tells.published; durable = omega (arith, f.tells.durable, g.committed, published); failed = ap (λ (k : Keeper D). k.has_failed) g.same ∙ f.tells.failed };
      stripes = record { count = ap (λ (k : Keeper D). k.stripes.count) g.same ∙ f.stripes.count; writer = writer_same n old new g.same f.stripes.writer };
      rotation = subst (λ (xs : List Entry). MayRotate new.next new.log xs) (sym g.staged) g.rotation;
      keys = g.keys;
      stores = g.stores;
    }

-- What the last sync of a batch leaves.
pub record Commits {D : Type 0} (states : D → List Files) (honest : D → Type 0) (old new : Keeper D) (p : Record) : Type 0 where
  pub same : IsSame old new
  pub sweeper : new.sweeper ≡ record old.sweeper { in_hand = passed (length old.staged.items) old.sweeper.in_hand }
  pub none_staged : new.staged.items ≡ []
  pub log : new.log ≡ log_after Opened old.log
  pub rotation : MayRotate new.next new.log []
  pub stores : Stores states honest new p

pub fits_committed : {D : Type 0} (states : D → List Files) (honest : D → Type 0) (n : ℕ) (done : List Command) (old new : Keeper D) (p : Record) → Fits states honest n done old p → Commits states honest old new p
    → Fits states honest n (done ++ commands_of old.staged.items) new p
fits_committed {D} states honest n done old new p f g =
    let w : new.staged.items ≡ [] = g.none_staged in
    let s = g.sweeper in
    let published : new.published ≡ old.published = ap (λ (k : Keeper D). k.published) g.same in
    let staged : List Command = commands_of old.staged.items in
    let long : length staged ≡ length old.staged.items = length-map old.staged.items (λ (e : Entry). e.command) in
    let count : new.log.committed ≡ old.log.committed + old.log.count = ap (λ (x : LogState). x.committed) g.log in
    let size : old.log.count ≡ length old.staged.items = f.counts.count in
    let both : length (done ++ staged) ≡ length done + length staged = length-append done staged in
    let after : Sweeper = record old.sweeper { in_hand = passed (length old.staged.items) old.sweeper.in_hand } in
    let moved : (q : Record) → q.opening ≡ p.opening → Gathers old.sweeper.in_hand (done ++ staged) q → Gathers after.in_hand (done ++ staged) q =
    λ q o k. (
    let at : q.opening.first + length done ≡ old.sweeper.in_hand.next = subst (λ (z : Opening). z.first + length done ≡ old.sweeper.in_hand.next) (sym o) (f.counts.committed ∙ sym f.counts.next) in
    record { keeper = k.keeper; accounts = accounts_passed old.sweeper.in_hand (length old.staged.items) (done ++ staged) q.opening.first q.taken q.seen (omega (arith, at, both, long)) k.accounts; within = k.within }
    ) in
    let stands : Stands n after (done ++ staged) p = stands_moved n old.sweeper after (done ++ staged) (done ++ staged) p refl refl moved f.stands in
    record {
      stands = subst (λ (x : Sweeper). Stands n x ((done ++ staged) ++ commands_of new.staged.items) p) (sym s)
          (subst (λ (xs : List Entry). Stands n after ((done ++ staged) ++ commands_of xs) p) (sym w) (subst (λ z. Stands n after z p) (sym (append-nil (done ++ staged))) stands));
      counts = record {
        committed = omega (arith, count, size, both, long, f.counts.committed);
        next = ap (λ (x : Sweeper). x.in_hand.next) s ∙ omega (arith, count, size, f.counts.next);
        count = ap (λ (x : LogState). x.count) g.log ∙ ap (λ (xs : List Entry). length xs) (sym w);
        tickets = w ∙ ap (λ (xs : List Entry). entries_from new.log.committed (commands_of xs)) (sym w);
        fits = omega (arith, count, size, ap (λ (xs : List Entry). length xs) w, f.counts.fits);
        empty = subst (λ (x : LogState). IsEmptyIn x.phase new.staged.items) (sym g.log) w;
      };
      tells = record { published = published ∙ f.tells.published; durable = omega (arith, f.tells.durable, count, published); failed = ap (λ (k : Keeper D). k.has_failed) g.same ∙ f.tells.failed };
      stripes = record { count = ap (λ (k : Keeper D). k.stripes.count) g.same ∙ f.stripes.count; writer = writer_same n old new g.same f.stripes.writer };
      rotation = subst (λ (xs : List Entry). MayRotate new.next new.log xs) (sym w) g.rotation;
      keys = keys_kept old.log new.log p (ap (λ (x : LogState). x.version) g.log) f.keys;
      stores = g.stores;
    }

-- ---- what a stop leaves between the calls

pub stops_by : {D : Type 0} (states : D → List Files) (honest : D → Type 0) (n : ℕ) (done : List Command) (keeper : Keeper D) (p : Record) → StoresStop → Fits states honest n done keeper p → honest keeper.disk
    → StopsFit (history_of p) keeper (now (states keeper.disk))
stops_by {D} states honest n done keeper p law f h = by_case keeper.is_broken refl
  where
    by_case : (b : Bool) → keeper.is_broken ≡ b → StopsFit (history_of p) keeper (now (states keeper.disk))
    by_case true is = f.stores.stopped is h
    by_case false is = stops_now (history_of p) (store_of keeper) keeper.staged.items keeper.must_close (now (states keeper.disk)) law (f.stores.works is h)
