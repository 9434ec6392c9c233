-- A device call of the log.
use Rattle.std.proofs.Common.{◌≡◌, ℕ, ◌+◌, ◌-◌, List, [], length, Option, None, Some, Bool, true, false, ◌==◌, if◌then◌else◌, Ok, Err, refl, sym, ◌∙◌, ap, subst, arith}
use Rattle.map_types.specs.declared.commands.Command.{Command}
use Rattle.map_types.specs.declared.refusals.Refusal.{Refusal}
use Rattle.map_types.specs.declared.refusals.Refusal.TheVariants as refusal
use Rattle.ticket_order.specs.declared.record.Record.{Record}
use Rattle.disk_model.specs.declared.fill.Fill.{Fill}
use Rattle.disk_model.specs.Files.{Files, now}
use Rattle.disk_model.specs.Gates as disk
use Rattle.store_layout.specs.Logs.{Batch, log_file, new_layout}
use Rattle.store_layout.specs.declared.log_phase.Phase.{Phase}
use Rattle.store_layout.specs.declared.log_phase.Phase.TheVariants.{Header, HeaderWritten}
use Rattle.ticket_order.specs.Legality.{history_of}
use Rattle.gate_log.specs.States.{LogState, call_in}
use Rattle.gate_log.specs.LogStates as log
use Rattle.gate_log.proofs.StandingLemmas.{placed}
use Rattle.store_invariant.specs.States.{newest_batches}
use Rattle.flusher.specs.declared.keeper.Keeper.{Keeper}
use Rattle.flusher.specs.declared.sweeper.Sweeper.{Sweeper}
use Rattle.flusher.specs.Fitting.{Fits, store_of}
use Rattle.flusher.proofs.StoreSteps.{log_in, next_in}
use Rattle.flusher.specs.Rotating.{Logs, MayRotate, due_by, due_in, due_of, logs_of}
use Rattle.sim_rules.specs.declared.event.Ending.{Ending}
use Rattle.sim_rules.specs.declared.event.Ending.TheVariants as ending
use Rattle.sim_rules.specs.declared.event.Event.TheVariants as event
use Rattle.sim_rules.specs.declared.event.Side.{Side}
use Rattle.sim_rules.specs.declared.event.Side.TheVariants as side
use Rattle.sim_rules.specs.declared.outcome.DeviceCall.{DeviceCall}
use Rattle.sim_rules.specs.declared.outcome.Outcome.TheVariants as outcome
use Rattle.sim_rules.specs.World.{World, Life, LogWork, Resting, Committing, Rotating, gate_after, is_resting}
use Rattle.sim_rules.specs.After.{call_of, called, failed, file_of, log_called, with_files}
use Rattle.sim_rules.specs.Cases.{IsDue, IsPossible, MakesCall}
use Rattle.sim_keeper.specs.Laws.{BrokenAnswers, LogAnswers, LogFails}
use Rattle.sim_keeper.specs.Promises.{IsLost, IsMade, TriesLog}
use Rattle.sim_keeper.specs.Showing.{sweep_shown, walk_by, work_shown}
use Rattle.sim_keeper.specs.KeeperInWorld.{Answers, BeginsBoth, IsWritten, KeeperStands, KnowsStore}
use Rattle.sim_keeper.proofs.Deciding.{not_true, two_ways}
use Rattle.sim_keeper.proofs.FilesTold.{files_are_told}
use Rattle.sim_keeper.proofs.Known.{staged_gate}
use Rattle.sim_keeper.proofs.LogDue.{log_due}
use Rattle.sim_keeper.proofs.SameCall.{known_call, lost_call}
use Rattle.sim_keeper.proofs.LogMoves.{Before, Moved, both_after, due_moves, moved, none_begun, same_sweep, written_beside}
use Rattle.sim_keeper.proofs.Moved.{inside, same_history}
use Rattle.sim_keeper.proofs.StagedTold.{staged_told}

-- ---- a call that succeeds

-- nothing of the life changes but the log
others : (w : World) (l : Life) (g : LogWork) → (record l { log = (log_called w l g).log; committed = (log_called w l g).committed; newest = (log_called w l g).newest; layout = (log_called w l g).layout; gate = (log_called w l g).gate }) ≡ log_called w l g
others w l Resting = refl
others w l (Committing n left) = by (left == 1)
  where
    by : (b : Bool) → (let m : Life = (if b then record l { log = Resting; committed = l.committed + n; gate = gate_after w l n } else record l { log = Committing n (left - 1) }) in
        (record l { log = m.log; committed = m.committed; newest = m.newest; layout = m.layout; gate = m.gate }) ≡ m)
    by true = refl
    by false = refl
others w l (Rotating left) = by (left == 1)
  where
    by : (b : Bool) → (let m : Life = (if b then record l { log = Resting; newest = l.newest + 1; layout = new_layout; gate = 17 } else record l { log = Rotating (left - 1) }) in
        (record l { log = m.log; committed = m.committed; newest = m.newest; layout = m.layout; gate = m.gate }) ≡ m)
    by true = refl
    by false = refl

module _ {D : Type 0} (states : D → List Files) (failures : D → ℕ) (honest : D → Type 0) (n : ℕ) (done : List Command) (old new : Keeper D) (p : Record) (w : World) (l : Life) (call : DeviceCall) (phase : Phase)
    (f : Fits states honest n done old p) (h : honest old.disk) (s : KeeperStands states old p w l) (works : old.is_broken ≡ false) (goes : is_resting l.log ≡ false) (t : TriesLog states failures honest old new (Ok phase)) (made : IsMade states call old.disk new.disk)
    (named : file_of call ≡ log_file (due_of (logs_of old)).generation) where
  k : KnowsStore states old l
  k = s.store works

  stays : is_resting (work_shown (logs_of old) (length old.staged.items)) ≡ false
  stays = sym (ap is_resting k.log) ∙ goes

  before : Before l old.log
  before = record { committed = s.committed; generation = k.newest; layout = k.layout; gate = k.gate }

  no_end : (next : Option LogState) → old.next ≡ next → next ≡ None → old.log.ending ≡ None
  no_end next e none_ = subst (λ o. MayRotate o old.log old.staged.items) (e ∙ none_) f.rotation

  goes_on : Moved w l l.log (logs_of new) (length new.staged.items)
  goes_on =
      let steps = t.steps works (due_moves w l old.log before old.next (length old.staged.items) old.staged.items f.rotation stays) in
      subst (λ g. Moved w l g (logs_of new) (length new.staged.items)) (sym k.log) (subst (λ logs. Moved w l (work_shown (logs_of old) (length old.staged.items)) logs (length new.staged.items)) (sym steps.ok.0)
      (moved w l old.log before old.next (length old.staged.items) (length new.staged.items) old.sweeper new.sweeper old.staged.items new.staged.items f.rotation (f.stores.works works h).stands.kept.ready stays refl refl t.hand
      (λ alone opened. staged_gate states honest n done old p w l f s h works opened (no_end old.next refl alone) k.layout k.gate) f.counts.count))

  after : (let m : Life = log_called w l l.log in KeeperStands states new p (with_files w (called call w.files) m) m)
  after =
      let steps = t.steps works (due_moves w l old.log before old.next (length old.staged.items) old.staged.items f.rotation stays) in
      let m : Life = record l { log = (log_called w l l.log).log; committed = (log_called w l l.log).committed; newest = (log_called w l l.log).newest; layout = (log_called w l l.log).layout; gate = (log_called w l l.log).gate } in
      let sweep = same_sweep old.next old.log.phase old.sweeper new.sweeper old.staged.items new.staged.items t.hand in
      let capture : new.capture ≡ old.capture = ap (λ (k : Keeper D). k.capture) t.same in
      let stripes : new.stripes ≡ old.stripes = ap (λ (k : Keeper D). k.stripes) t.same in
      let written : IsWritten old.checkpoint l.checkpoint (now (states new.disk)) =
      subst (λ xs. IsWritten old.checkpoint l.checkpoint (now xs)) (sym steps.ok.2.state) (written_beside old.checkpoint l.checkpoint (due_of (logs_of old)).generation (disk.called steps.call (now (states old.disk) (log_file (due_of (logs_of old)).generation))) (now (states old.disk)) k.checkpoint) in
      subst (λ m. KeeperStands states new p (with_files w (called call w.files) m) m) (others w l l.log) (record {
        life = refl;
        files = ap (called call) s.files ∙ sym made.state;
        history = same_history p p w (with_files w (called call w.files) m) l m refl refl refl refl s.history;
        stripes = s.stripes ∙ sym (ap (λ x. x.count) stripes);
        sweep = s.sweep ∙ ap sweep_shown (sym sweep.0);
        walk = s.walk ∙ ap (λ x. walk_by x.count old.sweeper.walking old.capture p) (sym stripes) ∙ ap (λ v. walk_by new.stripes.count v old.capture p) (sym sweep.1) ∙ ap (λ o. walk_by new.stripes.count new.sweeper.walking o p) (sym capture);
        committed = goes_on.committed;
        durable = s.durable ∙ sym (ap (λ (k : Keeper D). k.published) t.same);
        has_failed = s.has_failed ∙ sym (ap (λ (k : Keeper D). k.has_failed) t.same);
        is_broken = s.is_broken ∙ works ∙ sym t.works;
        staged = λ broken. absurd (two_ways new.is_broken broken t.works);
        store = λ _. record {
          log = goes_on.work;
          newest = goes_on.generation;
          layout = goes_on.layout;
          gate = goes_on.gate;
          sealed = k.sealed ∙ sym (ap (λ (k : Keeper D). k.sealed) t.same);
          checkpoint = subst (λ o. IsWritten o l.checkpoint (now (states new.disk))) (sym (ap (λ (k : Keeper D). k.checkpoint) t.same)) written;
          both = subst (λ o. BeginsBoth new.next o new.must_close) (sym (ap (λ (k : Keeper D). k.checkpoint) t.same)) (subst (λ b. BeginsBoth new.next old.checkpoint b) (sym (ap (λ (k : Keeper D). k.must_close) t.same))
              (both_after old.next new.next old.checkpoint old.must_close (λ alone. ap (λ (x : Logs). x.next) steps.ok.0 ∙ none_begun old.log old.next alone) k.both));
        };
      })

  answers : Answers states new p w l (event.Device side.Log ending.Done) (outcome.Logged call phase)
  answers =
      let steps = t.steps works (due_moves w l old.log before old.next (length old.staged.items) old.staged.items f.rotation stays) in
      let due = log_due states honest n done old p w l f h works s steps.call steps.due in
      let is : IsDue w l side.Log call = record {
        file = named ∙ due.1;
        low = 0;
        what = known_call (call_of call) steps.call (file_of call) (log_file (due_of (logs_of old)).generation) (now (states old.disk)) (now (states new.disk)) named made.state (ap now steps.ok.2.state) ∙ due.0;
        possible = subst (λ fs. IsPossible fs call) (sym s.files) made.possible;
      } in
      record { happens = (s.is_broken ∙ works, is, steps.ok.1 ∙ sym goes_on.phase); stands = after }

pub log_answers : {D : Type 0} (states : D → List Files) (failures : D → ℕ) (honest : D → Type 0) → LogAnswers states failures honest
log_answers {D} states failures honest n done old new p w l call phase f h s works has t made named =
    answers states failures honest n done old new p w l call phase f h s works (not_true (is_resting l.log) has) t made named

-- ---- a call that fails

-- the call that is due begins at the end of its file or before
module _ (files : Files) (newest : LogState) where
  abbrev IsPlacedIn : LogState → Type 0
  IsPlacedIn at = (call : disk.Call) → call_in at.phase at ≡ Some call → disk.IsPlaced call (files (log_file at.generation))

  stands_placed : (at : LogState) (batches staged : List Batch) → log.Stands at batches staged (files (log_file at.generation)) → IsPlacedIn at
  stands_placed at batches staged stands call due = placed at batches stands.knows at.phase staged (files (log_file at.generation)) stands.stands call due

  turn_placed : (ph : Phase) (next : LogState) → IsPlacedIn newest → IsPlacedIn next → IsPlacedIn (due_in ph newest next)
  turn_placed Header next first second = second
  turn_placed HeaderWritten next first second = second
  turn_placed ph next first second = first

  next_placed : (o : Option LogState) → IsPlacedIn newest → ((next : LogState) → o ≡ Some next → IsPlacedIn next) → IsPlacedIn (due_by newest o)
  next_placed None first second = first
  next_placed (Some next) first second = turn_placed next.phase next first (second next refl)

module _ {D : Type 0} (states : D → List Files) (failures : D → ℕ) (honest : D → Type 0) (n : ℕ) (done : List Command) (old new : Keeper D) (p : Record) (w : World) (l : Life) (fill : Fill) (call : DeviceCall) (e : Refusal)
    (f : Fits states honest n done old p) (h : honest old.disk) (s : KeeperStands states old p w l) (works : old.is_broken ≡ false) (goes : is_resting l.log ≡ false) (t : TriesLog states failures honest old new (Err e)) (lost : IsLost states fill call old.disk new.disk)
    (named : file_of call ≡ log_file (due_of (logs_of old)).generation) where
  abbrev files : Files
  files = now (states old.disk)

  due_placed : IsPlacedIn files old.log (due_of (logs_of old))
  due_placed =
      let holds = f.stores.works works h in
      let held = holds.held in
      next_placed files old.log old.next
      (stands_placed files old.log old.log (newest_batches held.found.first held.found.second) held.staged (log_in (history_of p) (store_of old) held files holds.stands))
      (λ next is. stands_placed files old.log next [] [] (next_in (history_of p) (store_of old) held next files holds.stands is))

  -- the call that failed is the one that is due
  lost_is_due : IsDue w l side.Log call
  lost_is_due =
      let k = s.store works in
      let stays : is_resting (work_shown (logs_of old) (length old.staged.items)) ≡ false = sym (ap is_resting k.log) ∙ goes in
      let before : Before l old.log = record { committed = s.committed; generation = k.newest; layout = k.layout; gate = k.gate } in
      let steps = t.steps works (due_moves w l old.log before old.next (length old.staged.items) old.staged.items f.rotation stays) in
      let due = log_due states honest n done old p w l f h works s steps.call steps.due in
      let fails = steps.err.2 in
      record {
        file = named ∙ due.1;
        low = 0;
        what = lost_call fill call steps.call (log_file (due_of (logs_of old)).generation) files (now (states new.disk)) fails.left named lost.state (ap now fails.state) (fails.may (due_placed steps.call steps.due)) ∙ due.0;
        possible = subst (λ fs. IsPossible fs call) (sym s.files) lost.possible;
      }

pub log_fails : {D : Type 0} (states : D → List Files) (failures : D → ℕ) (honest : D → Type 0) → LogFails states failures honest
log_fails {D} states failures honest n done old new p w l fill call e f h s works t lost named =
    let m : Life = record l { is_broken = true } in
    let capture : new.capture ≡ old.capture = ap (λ (k : Keeper D). k.capture) t.same in
    let stripes : new.stripes ≡ old.stripes = ap (λ (k : Keeper D). k.stripes) t.same in
    let sweeper_is : new.sweeper ≡ old.sweeper = t.kept.0 in
    record {
      works = s.is_broken ∙ works;
      file = named ∙ (files_are_told states honest n done old p w l f h s works).0;
      possible = subst (λ fs. IsPossible fs call) (sym s.files) lost.possible;
      due = λ has. lost_is_due states failures honest n done old new p w l fill call e f h s works
          (not_true (is_resting l.log) has) t lost named;
      stands = record {
        life = refl;
        files = ap (failed fill call) s.files ∙ sym lost.state;
        history = same_history p p w (with_files w (failed fill call w.files) m) l m refl refl refl refl s.history;
        stripes = s.stripes ∙ sym (ap (λ x. x.count) stripes);
        sweep = s.sweep ∙ ap (λ (x : Sweeper). sweep_shown x.sweep) (sym sweeper_is);
        walk = s.walk ∙ ap (λ x. walk_by x.count old.sweeper.walking old.capture p) (sym stripes) ∙ ap (λ (v : Sweeper). walk_by new.stripes.count v.walking old.capture p) (sym sweeper_is) ∙ ap (λ o. walk_by new.stripes.count new.sweeper.walking o p) (sym capture);
        committed = s.committed ∙ sym (add_none t.committed);
        durable = s.durable ∙ sym (ap (λ (k : Keeper D). k.published) t.same);
        has_failed = s.has_failed ∙ sym (ap (λ (k : Keeper D). k.has_failed) t.same);
        is_broken = sym t.kept.2;
        staged = λ broken. staged_told states honest n done old p p w l f s ∙ ap (λ xs. length xs.items) (sym t.kept.1);
        store = λ works. absurd (two_ways new.is_broken t.kept.2 works);
      };
    }
  where
    add_none : {a b : ℕ} → a ≡ b + 0 → a ≡ b
    add_none e = omega (arith, e)

-- ---- none is made

refused : (w : World) (l : Life) (s : Side) (e : Ending) → l.is_broken ≡ true → MakesCall w l s e (outcome.Refused refusal.Failed)
refused w l side.Log ending.Done broken = broken
refused w l side.Log (ending.Fails fill) broken = broken
refused w l side.Checkpoint ending.Done broken = broken
refused w l side.Checkpoint (ending.Fails fill) broken = broken

pub broken_answers : {D : Type 0} (states : D → List Files) → BrokenAnswers states
broken_answers {D} states keeper p w l s e stands broken = record { happens = refused w l s e (stands.is_broken ∙ broken); stands = inside states keeper p w l stands }
