-- A device call of the checkpoint.
use Rattle.std.proofs.Common.{◌≡◌, ◌⊎◌, inl, inr, ℕ, List, length, Option, Some, None, true, false, not, Ok, Err, refl, sym, ◌∙◌, ap, subst}
use Rattle.map_types.specs.declared.commands.Command.{Command}
use Rattle.map_types.specs.declared.refusals.Refusal.{Refusal}
use Rattle.ticket_order.specs.declared.record.Record.{Record}
use Rattle.disk_model.specs.declared.fill.Fill.{Fill}
use Rattle.disk_model.specs.Files.{File, Files, now}
use Rattle.disk_model.specs.Gates.{Call}
use Rattle.store_layout.specs.Checkpoints.{Section, checkpoint_file}
use Rattle.log_records.specs.Layout.{layout_of}
use Rattle.gate_log.specs.States.{LogState}
use Rattle.store_layout.specs.declared.checkpoint_phase.CheckpointPhase.{CheckpointPhase}
use Rattle.store_layout.specs.declared.checkpoint_phase.CheckpointPhase.TheVariants.{Idle, Gate, GateWritten, GateSynced, Ready, Staged, Header, HeaderWritten, HeaderSynced, Opened, Sealed}
use Rattle.checkpoint_file.specs.States.{CheckpointState, call_in, state_after}
use Rattle.checkpoint_file.proofs.StandingLemmas.{placed}
use Rattle.flusher.specs.declared.keeper.Keeper.{Keeper}
use Rattle.flusher.specs.Fitting.{Fits}
use Rattle.checkpoint_walk.specs.Checkpointing.{Checkpoints, HasGiven, StepsCheckpoint, call_due, checkpoints_of, kept_in}
use Rattle.store_layout.specs.UsedCheckpoint.{UsesCheckpoint}
use Rattle.store_layout.proofs.CheckpointReading.{both_true}
use Rattle.sim_rules.specs.declared.event.Ending.TheVariants as ending
use Rattle.sim_rules.specs.declared.event.Event.TheVariants as event
use Rattle.sim_rules.specs.declared.event.Side.TheVariants as side
use Rattle.sim_rules.specs.declared.outcome.DeviceCall.{DeviceCall}
use Rattle.sim_rules.specs.declared.outcome.Outcome.TheVariants as outcome
use Rattle.sim_rules.specs.World.{World, Life, Running, has_checkpoint_call, is_rotating}
use Rattle.sim_rules.specs.After as outcomes
use Rattle.sim_rules.specs.After.{called, checkpoint_called, failed, file_of, running_called, with_files}
use Rattle.sim_rules.specs.Due.{checkpoint_call, checkpoint_number, running_call}
use Rattle.sim_rules.specs.Cases.{IsDue, IsPossible, UsesRunning, is_last_call, phase_of_checkpoint, phase_of_running}
use Rattle.sim_keeper.specs.Laws.{CheckpointAnswers, CheckpointFails, file_due}
use Rattle.sim_keeper.specs.Promises.{IsLost, IsMade, TriesCheckpoint}
use Rattle.sim_keeper.specs.Showing.{running_in, running_shown, sweep_shown, walk_by, work_by}
use Rattle.sim_keeper.specs.KeeperInWorld.{Answers, BeginsBoth, IsWritten, KeeperStands, KnowsStore}
use Rattle.sim_keeper.proofs.StagedTold.{staged_told}
use Rattle.sim_keeper.proofs.CheckpointDue.{checkpoint_due}
use Rattle.sim_keeper.proofs.Deciding.{not_true, two_ways}
use Rattle.sim_keeper.proofs.FilesTold.{files_are_told}
use Rattle.sim_keeper.proofs.Moved.{same_history}
use Rattle.sim_keeper.proofs.SameCall.{known_call, lost_call}
use Rattle.sim_keeper.proofs.Sealing.{stripes_by}

-- ---- the world's checkpoint after a call

-- the call isn't the last
record GoesOn (l : Life) (w : CheckpointState) (sections : List Section) (ph : CheckpointPhase) : Type 0 where
  world : running_called l (running_in ph w sections) ≡ record l { checkpoint = Some (running_shown (state_after ph w) sections) }
  keeper : (c : Checkpoints) → kept_in ph (state_after ph w) c ≡ record c { writer = Some (state_after ph w) }
  phase : phase_of_running (running_shown (state_after ph w) sections) ≡ (state_after ph w).phase

-- the call is the last
record IsOver (l : Life) (w : CheckpointState) (sections : List Section) (ph : CheckpointPhase) : Type 0 where
  last : ph ≡ Opened
  world : running_called l (running_in ph w sections) ≡ record l { checkpoint = None; sealed = w.generation }

never : {A : Type 0} → false ≡ true → A
never e = absurd cc

call_of : (l : Life) (w : CheckpointState) (sections : List Section) (ph : CheckpointPhase)
    → has_checkpoint_call (Some (running_in ph w sections)) ≡ true → GoesOn l w sections ph ⊎ IsOver l w sections ph
call_of l w sections Idle has = never has
call_of l w sections Gate has = inl (record { world = refl; keeper = λ c. refl; phase = refl })
call_of l w sections GateWritten has = inl (record { world = refl; keeper = λ c. refl; phase = refl })
call_of l w sections GateSynced has = inl (record { world = refl; keeper = λ c. refl; phase = refl })
call_of l w sections Ready has = never has
call_of l w sections Staged has = inl (record { world = refl; keeper = λ c. refl; phase = refl })
call_of l w sections Header has = inl (record { world = refl; keeper = λ c. refl; phase = refl })
call_of l w sections HeaderWritten has = inl (record { world = refl; keeper = λ c. refl; phase = refl })
call_of l w sections HeaderSynced has = inl (record { world = refl; keeper = λ c. refl; phase = refl })
call_of l w sections Opened has = inr (record { last = refl; world = refl })
call_of l w sections Sealed has = never has

due : (w : CheckpointState) (sections : List Section) (ph : CheckpointPhase)
    → has_checkpoint_call (Some (running_in ph w sections)) ≡ true → (call : Call) × (call_in ph w ≡ Some call)
due w sections Idle has = never has
due w sections Gate has = (_, refl)
due w sections GateWritten has = (_, refl)
due w sections GateSynced has = (_, refl)
due w sections Ready has = never has
due w sections Staged has = (_, refl)
due w sections Header has = (_, refl)
due w sections HeaderWritten has = (_, refl)
due w sections HeaderSynced has = (_, refl)
due w sections Opened has = (_, refl)
due w sections Sealed has = never has

last_opened : (w : CheckpointState) (sections : List Section) (ph : CheckpointPhase)
    → is_last_call (running_in ph w sections) ≡ true → ph ≡ Opened
last_opened w sections Opened last = refl
last_opened w sections ph last = never last

-- ---- where one is due

writer_of : (o : Option CheckpointState) (running : Option Running) (files : Files) → IsWritten o running files → has_checkpoint_call running ≡ true → (w : CheckpointState) × (o ≡ Some w)
writer_of None running files is has = absurd (two_ways (has_checkpoint_call running) has (ap has_checkpoint_call is))
writer_of (Some w) running files is has = (w, refl)

not_rotating : (newest : LogState) (next : Option LogState) (n : ℕ) → is_rotating (work_by newest next n) ≡ false → next ≡ None
not_rotating newest None n e = refl
not_rotating newest (Some next) n e = absurd cc

last_by : (o : Option Running) (r : Running) → o ≡ Some r → (files : Files) (l : Life) → UsesRunning files l (Some r) → UsesRunning files l o
last_by o r is files l u = subst (UsesRunning files l) (sym is) u

module _ {D : Type 0} (states : D → List Files) (failures : D → ℕ) (honest : D → Type 0) (n : ℕ) (done : List Command) (old new : Keeper D) (p : Record) (w : World) (l : Life) (call : DeviceCall) (phase : CheckpointPhase)
    (f : Fits states honest n done old p) (h : honest new.disk) (s : KeeperStands states old p w l) (works : old.is_broken ≡ false) (alone : old.next ≡ None) (has : has_checkpoint_call l.checkpoint ≡ true)
    (t : TriesCheckpoint states failures honest old new (Ok phase)) (made : IsMade states call old.disk new.disk) (v : CheckpointState) (is : old.checkpoint ≡ Some v)
    (named : file_of call ≡ file_due old.checkpoint) where
  k : KnowsStore states old l
  k = s.store works

  written : IsWritten (Some v) l.checkpoint (now (states old.disk))
  written = subst (λ o. IsWritten o l.checkpoint (now (states old.disk))) is k.checkpoint

  shown : l.checkpoint ≡ Some (running_shown v written.0)
  shown = written.1

  has_v : has_checkpoint_call (Some (running_shown v written.0)) ≡ true
  has_v = sym (ap has_checkpoint_call shown) ∙ has

  the_due : (c : Call) × (call_in v.phase v ≡ Some c)
  the_due = due v written.0 v.phase has_v

  steps : (c : Call) × StepsCheckpoint states failures honest c v old new (Ok phase)
  steps = (the_due.0, t.steps works the_due.0 v (ap (λ o. call_due o old.checkpoint) alone ∙ ap (call_due None) is ∙ the_due.1) is)

  -- the call is the one that is due
  is_due : IsDue w l side.Checkpoint call
  unfolding steps
  is_due =
      let there : file_of call ≡ checkpoint_file v.generation = named ∙ ap file_due is in
      let stripes : v.stripes ≡ l.stripes = stripes_by n old f.stripes v is ∙ sym f.stripes.count ∙ sym s.stripes in
      let told : the_due.0 ≡ running_call l v.low (running_shown v written.0) =
      checkpoint_due v l written.2.0 written.0 (now (states old.disk) (checkpoint_file v.generation)) the_due.0 written.2.1 stripes the_due.1 in
      record {
        file = there ∙ ap checkpoint_number (sym shown);
        low = v.low;
        what = known_call (outcomes.call_of call) the_due.0 (file_of call) (checkpoint_file v.generation) (now (states old.disk)) (now (states new.disk)) there made.state (ap now steps.1.ok.2.state)
            ∙ told ∙ ap (checkpoint_call l v.low) (sym shown);
        possible = subst (λ fs. IsPossible fs call) (sym s.files) made.possible;
      }

  same_files : called call w.files ≡ now (states new.disk)
  same_files = ap (called call) s.files ∙ sym made.state

  uses : UsesRunning (called call w.files) l l.checkpoint
  uses = last_by l.checkpoint (running_shown v written.0) shown (called call w.files) l (λ last.
      let opened : v.phase ≡ Opened = last_opened v written.0 v.phase last in
      let given : HasGiven old.checkpoint written.0 (now (states old.disk)) = subst (λ o. HasGiven o written.0 (now (states old.disk))) (sym is) written.2 in
      let stripes : v.stripes ≡ l.stripes = stripes_by n old f.stripes v is ∙ sym f.stripes.count ∙ sym s.stripes in (
        v.low,
        subst (λ fs. UsesCheckpoint (record { generation = v.generation; low = v.low; stripes = l.stripes; sections = written.0 }) fs) (sym same_files)
            (subst (λ m. UsesCheckpoint (record { generation = v.generation; low = v.low; stripes = m; sections = written.0 }) (now (states new.disk))) stripes (t.sealed n done p v written.0 f h alone is opened given)),
      ))

  -- how the keeper stands where the store does so
  stands_by : (m : Life) → m ≡ record l { checkpoint = m.checkpoint; sealed = m.sealed } → KnowsStore states new m → KeeperStands states new p (with_files w (called call w.files) m) m
  stands_by m like knows =
      let capture : new.capture ≡ old.capture = ap (λ (k : Keeper D). k.capture) t.same in
      let stripes : new.stripes ≡ old.stripes = ap (λ (k : Keeper D). k.stripes) t.same in
      let sweeper_is : new.sweeper ≡ old.sweeper = ap (λ (k : Keeper D). k.sweeper) t.same in
      let u : Life = record l { checkpoint = m.checkpoint; sealed = m.sealed } in
      let at : KeeperStands states new p (with_files w (called call w.files) u) u = record {
        life = refl;
        files = same_files;
        history = same_history p p w (with_files w (called call w.files) u) l u refl refl refl refl s.history;
        stripes = s.stripes ∙ sym (ap (λ x. x.count) stripes);
        sweep = s.sweep ∙ ap (λ x. sweep_shown x.sweep) (sym sweeper_is);
        walk = s.walk ∙ ap (λ x. walk_by x.count old.sweeper.walking old.capture p) (sym stripes) ∙ ap (λ x. walk_by new.stripes.count x.walking old.capture p) (sym sweeper_is) ∙ ap (λ o. walk_by new.stripes.count new.sweeper.walking o p) (sym capture);
        committed = s.committed ∙ sym (ap (λ (k : Keeper D). k.log.committed) t.same);
        durable = s.durable ∙ sym (ap (λ (k : Keeper D). k.published) t.same);
        has_failed = s.has_failed ∙ sym (ap (λ (k : Keeper D). k.has_failed) t.same);
        is_broken = s.is_broken ∙ works ∙ sym t.works;
        staged = λ broken. absurd (two_ways new.is_broken broken t.works);
        store = λ _. subst (KnowsStore states new) like knows;
      } in
      subst (λ m. KeeperStands states new p (with_files w (called call w.files) m) m) (sym like) at

  log_same : l.log ≡ work_by new.log new.next (length new.staged.items)
  log_same = k.log ∙ ap (λ x. work_by x old.next (length old.staged.items)) (sym (ap (λ (k : Keeper D). k.log) t.same)) ∙ ap (λ x. work_by new.log x (length old.staged.items)) (sym (ap (λ (k : Keeper D). k.next) t.same))
      ∙ ap (λ x. work_by new.log new.next (length x.items)) (sym (ap (λ (k : Keeper D). k.staged) t.same))

  both_new : BeginsBoth new.next new.checkpoint new.must_close
  both_new = subst (λ o. BeginsBoth o new.checkpoint new.must_close) (sym (ap (λ (k : Keeper D). k.next) t.same ∙ alone)) tt

  goes : GoesOn l v written.0 v.phase → Answers states new p w l (event.Device side.Checkpoint ending.Done) (outcome.Checkpointed call phase)
  goes g =
      let after = state_after v.phase v in
      let c : checkpoints_of new ≡ record (checkpoints_of old) { writer = Some after } = steps.1.ok.0 ∙ g.keeper (checkpoints_of old) in
      let writer : new.checkpoint ≡ Some after = ap (λ (x : Checkpoints). x.writer) c in
      let m : Life = record l { checkpoint = Some (running_shown after written.0) } in
      let world : checkpoint_called l l.checkpoint ≡ m = ap (checkpoint_called l) shown ∙ g.world in
      let given : HasGiven (Some after) written.0 (now (states new.disk)) = t.given written.0 after (subst (λ o. HasGiven o written.0 (now (states old.disk))) (sym is) written.2) writer in
      record {
        happens = (s.is_broken ∙ works, is_due, steps.1.ok.1 ∙ sym (ap (λ (m : Life). phase_of_checkpoint m.checkpoint) world ∙ g.phase), uses);
        stands = subst (λ m. KeeperStands states new p (with_files w (called call w.files) m) m) (sym world) (stands_by m refl (record {
          log = log_same;
          newest = k.newest ∙ sym (ap (λ (k : Keeper D). k.log.generation) t.same);
          layout = k.layout ∙ sym (ap (λ (k : Keeper D). layout_of k.log.version) t.same);
          gate = k.gate ∙ sym (ap (λ (k : Keeper D). k.log.gate) t.same);
          sealed = k.sealed ∙ sym (ap (λ (x : Checkpoints). x.sealed) c);
          checkpoint = subst (λ o. IsWritten o (Some (running_shown after written.0)) (now (states new.disk))) (sym writer) (written.0, refl, given);
          both = both_new;
        }));
      }

  ends : IsOver l v written.0 v.phase → Answers states new p w l (event.Device side.Checkpoint ending.Done) (outcome.Checkpointed call phase)
  ends g =
      let c : checkpoints_of new ≡ record { sealed = v.generation; writer = None; must_close = true } = steps.1.ok.0 ∙ ap (λ ph. kept_in ph (state_after ph v) (checkpoints_of old)) g.last in
      let m : Life = record l { checkpoint = None; sealed = v.generation } in
      let world : checkpoint_called l l.checkpoint ≡ m = ap (checkpoint_called l) shown ∙ g.world in
      record {
        happens = (s.is_broken ∙ works, is_due, steps.1.ok.1 ∙ ap (λ ph. (state_after ph v).phase) g.last ∙ sym (ap (λ (m : Life). phase_of_checkpoint m.checkpoint) world), uses);
        stands = subst (λ m. KeeperStands states new p (with_files w (called call w.files) m) m) (sym world) (stands_by m refl (record {
          log = log_same;
          newest = k.newest ∙ sym (ap (λ (k : Keeper D). k.log.generation) t.same);
          layout = k.layout ∙ sym (ap (λ (k : Keeper D). layout_of k.log.version) t.same);
          gate = k.gate ∙ sym (ap (λ (k : Keeper D). k.log.gate) t.same);
          sealed = sym (ap (λ (x : Checkpoints). x.sealed) c);
          checkpoint = subst (λ o. IsWritten o None (now (states new.disk))) (sym (ap (λ (x : Checkpoints). x.writer) c)) refl;
          both = both_new;
        }));
      }

  answers : Answers states new p w l (event.Device side.Checkpoint ending.Done) (outcome.Checkpointed call phase)
  answers = elim (call_of l v written.0 v.phase has_v) [ inl g ↦ goes g | inr g ↦ ends g ]

pub checkpoint_answers : {D : Type 0} (states : D → List Files) (failures : D → ℕ) (honest : D → Type 0) → CheckpointAnswers states failures honest
checkpoint_answers {D} states failures honest n done old new p w l call phase f h s works has t made named =
    let k = s.store works in
    let b = both_true (not (is_rotating l.log)) (has_checkpoint_call l.checkpoint) has in
    let alone : old.next ≡ None = not_rotating old.log old.next (length old.staged.items) (sym (ap is_rotating k.log) ∙ not_true (is_rotating l.log) b.0) in
    let v = writer_of old.checkpoint l.checkpoint (now (states old.disk)) k.checkpoint b.1 in
    answers states failures honest n done old new p w l call phase f h s works alone b.1 t made v.0 v.1 named

-- ---- a call that fails

module _ {D : Type 0} (states : D → List Files) (failures : D → ℕ) (honest : D → Type 0) (n : ℕ) (done : List Command) (old new : Keeper D) (p : Record) (w : World) (l : Life) (fill : Fill) (call : DeviceCall) (e : Refusal)
    (f : Fits states honest n done old p) (s : KeeperStands states old p w l) (works : old.is_broken ≡ false) (alone : old.next ≡ None) (has : has_checkpoint_call l.checkpoint ≡ true)
    (t : TriesCheckpoint states failures honest old new (Err e)) (lost : IsLost states fill call old.disk new.disk) (v : CheckpointState) (is : old.checkpoint ≡ Some v)
    (named : file_of call ≡ file_due old.checkpoint) where
  -- the call that failed is the one that is due
  lost_is_due : IsDue w l side.Checkpoint call
  lost_is_due =
      let files : Files = now (states old.disk) in
      let file : File = files (checkpoint_file v.generation) in
      let written : IsWritten (Some v) l.checkpoint files = subst (λ o. IsWritten o l.checkpoint files) is (s.store works).checkpoint in
      let stands = written.2.1 in
      let one = due v written.0 v.phase (sym (ap has_checkpoint_call written.1) ∙ has) in
      let steps = t.steps works one.0 v (ap (λ o. call_due o old.checkpoint) alone ∙ ap (call_due None) is ∙ one.1) is in
      let fails = steps.err.2 in
      let there : file_of call ≡ checkpoint_file v.generation = named ∙ ap file_due is in
      let stripes : v.stripes ≡ l.stripes = stripes_by n old f.stripes v is ∙ sym f.stripes.count ∙ sym s.stripes in
      let told : one.0 ≡ running_call l v.low (running_shown v written.0) = checkpoint_due v l written.2.0 written.0 file one.0 stands stripes one.1 in
      let may = fails.may (placed v written.0 stands.knows v.phase written.2.0 file stands.stands one.0 one.1) in
      record {
        file = there ∙ ap checkpoint_number (sym written.1);
        low = v.low;
        what = lost_call fill call one.0 (checkpoint_file v.generation) files (now (states new.disk)) fails.left there lost.state (ap now fails.state) may ∙ told
            ∙ ap (checkpoint_call l v.low) (sym written.1);
        possible = subst (λ fs. IsPossible fs call) (sym s.files) lost.possible;
      }

pub checkpoint_fails : {D : Type 0} (states : D → List Files) (failures : D → ℕ) (honest : D → Type 0) → CheckpointFails states failures honest
checkpoint_fails {D} states failures honest n done old new p w l fill call e f h s works t lost named =
    let m : Life = record l { is_broken = true } in
    let capture : new.capture ≡ old.capture = ap (λ (k : Keeper D). k.capture) t.same in
    let stripes : new.stripes ≡ old.stripes = ap (λ (k : Keeper D). k.stripes) t.same in
    let sweeper_is : new.sweeper ≡ old.sweeper = ap (λ (k : Keeper D). k.sweeper) t.same in
    record {
      works = s.is_broken ∙ works;
      file = named ∙ (files_are_told states honest n done old p w l f h s works).1;
      possible = subst (λ fs. IsPossible fs call) (sym s.files) lost.possible;
      due = λ has.
          let k = s.store works in
          let b = both_true (not (is_rotating l.log)) (has_checkpoint_call l.checkpoint) has in
          let alone : old.next ≡ None = not_rotating old.log old.next (length old.staged.items)
          (sym (ap is_rotating k.log) ∙ not_true (is_rotating l.log) b.0) in
          let v = writer_of old.checkpoint l.checkpoint (now (states old.disk)) k.checkpoint b.1 in
          lost_is_due states failures honest n done old new p w l fill call e f s works alone b.1 t lost v.0 v.1 named;
      stands = record {
        life = refl;
        files = ap (failed fill call) s.files ∙ sym lost.state;
        history = same_history p p w (with_files w (failed fill call w.files) m) l m refl refl refl refl s.history;
        stripes = s.stripes ∙ sym (ap (λ x. x.count) stripes);
        sweep = s.sweep ∙ ap (λ x. sweep_shown x.sweep) (sym sweeper_is);
        walk = s.walk ∙ ap (λ x. walk_by x.count old.sweeper.walking old.capture p) (sym stripes) ∙ ap (λ x. walk_by new.stripes.count x.walking old.capture p) (sym sweeper_is) ∙ ap (λ o. walk_by new.stripes.count new.sweeper.walking o p) (sym capture);
        committed = s.committed ∙ sym (ap (λ (k : Keeper D). k.log.committed) t.same);
        durable = s.durable ∙ sym (ap (λ (k : Keeper D). k.published) t.same);
        has_failed = s.has_failed ∙ sym (ap (λ (k : Keeper D). k.has_failed) t.same);
        is_broken = sym t.breaks;
        staged = λ broken. staged_told states honest n done old p p w l f s ∙ ap (λ (k : Keeper D). length k.staged.items) (sym t.same);
        store = λ works. absurd (two_ways new.is_broken t.breaks works);
      };
    }
