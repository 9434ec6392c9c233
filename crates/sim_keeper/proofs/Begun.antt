-- A checkpoint is begun.
use Rattle.std.proofs.Common.{◌≡◌, ◌≢◌, ◌⊎◌, inl, inr, ℕ, ◌+◌, ◌<◌, ◌^◌, List, [], length, Option, Some, None, is_some, Bool, true, false, ◌&&◌, ◌||◌, ◌==◌, not, nat_lt, if◌then◌else◌, Result, Ok, Err, refl, sym, ◌∙◌, ap, subst}
use Rattle.std.proofs.lemmas.Bool.{false_from_ne_true, true_from_ne_false}
use Rattle.map_types.specs.declared.commands.Command.{Command}
use Rattle.map_types.specs.declared.refusals.Refusal.{Refusal}
use Rattle.map_types.specs.declared.refusals.Refusal.TheVariants as refusal
use Rattle.ticket_order.specs.declared.record.Record.{Record}
use Rattle.disk_model.specs.Files.{File, Files, at_rest, now}
use Rattle.store_layout.specs.Checkpoints.{checkpoint_file, is_to_close}
use Rattle.store_layout.specs.declared.log_phase.Phase.TheVariants as log_phase
use Rattle.store_layout.proofs.CheckpointReading.{both_true}
use Rattle.gate_log.specs.States.{LogState, begun as log_begun}
use Rattle.checkpoint_file.specs.States.{CheckpointState, begun, first_phase}
use Rattle.store_invariant.specs.States.{Held, StoreState}
use Rattle.store_invariant.specs.StoreStates.{WriterStands}
use Rattle.flusher.specs.declared.keeper.Keeper.{Keeper}
use Rattle.flusher.specs.Fitting.{Fits, store_of}
use Rattle.flusher.specs.Rotating.{MayRotate, due_in}
use Rattle.checkpoint_walk.specs.Checkpointing.{Begins, HasGiven, MayBegin}
use Rattle.sim_rules.specs.declared.event.Event.TheVariants as event
use Rattle.sim_rules.specs.declared.outcome.Outcome.TheVariants as outcome
use Rattle.sim_rules.specs.World.{World, Life, LogWork, Rotating, Running, is_resting, needs_rotation}
use Rattle.sim_rules.specs.After.{checkpoint_begun, clears_of, with_life}
use Rattle.sim_rules.specs.Cases.{BeginsCheckpoint, may_begin}
use Rattle.sim_keeper.specs.Laws.{BeginAnswers, begun_as}
use Rattle.sim_keeper.specs.Promises.{TriesBegin}
use Rattle.sim_keeper.specs.Showing.{calls_left, clears_left, committing, is_waiting_in, running_shown, seals_left, work_by}
use Rattle.sim_keeper.specs.KeeperInWorld.{Answers, BeginsBoth, HasKeeper, IsWritten, KeeperStands}
use Rattle.sim_keeper.proofs.Deciding.{and_true, either, is_less, is_other, is_same, less_is, not_false, not_true, resting_idle, same_is, two_ways}
use Rattle.sim_keeper.proofs.Moved.{inside, same_history}

-- ---- when it may be

none_in_world : (o : Option CheckpointState) (running : Option Running) (files : Files) → o ≡ None → IsWritten o running files → is_some running ≡ false
none_in_world None running files e is = ap is_some is
none_in_world (Some w) running files e is = absurd cc

none_writes : (o : Option CheckpointState) (running : Option Running) (files : Files) → is_some running ≡ false → IsWritten o running files → o ≡ None
none_writes None running files e is = refl
none_writes (Some w) running files e is = absurd (two_ways (is_some running) (ap is_some is.1) e)

none_follows : (next : Option LogState) (o : Option CheckpointState) (must_close : Bool) → o ≡ None → BeginsBoth next o must_close → next ≡ None
none_follows None o must_close e both = refl
none_follows (Some next) None must_close e both = absurd both
none_follows (Some next) (Some w) must_close e both = absurd cc

or_rests : (x y : Bool) → (x ≡ true → y ≡ true) → (not x || y) ≡ true
or_rests true true h = refl
or_rests true false h = h refl
or_rests false y h = refl

rests_or : (x y : Bool) → (not x || y) ≡ true → x ≡ true → y ≡ true
rests_or true true h e = refl
rests_or true false h e = h
rests_or false y h e = absurd cc

module _ {D : Type 0} (states : D → List Files) (old : Keeper D) (p : Record) (w : World) (l : Life) (s : KeeperStands states old p w l) (works : old.is_broken ≡ false) where
  may : MayBegin old → may_begin l ≡ true
  may m =
      let k = s.store works in
      and_true (not (is_some l.checkpoint)) (nat_lt (l.sealed + 1) (2 ^ 64) && (not (needs_rotation l) || is_resting l.log)) (not_false (is_some l.checkpoint) (none_in_world old.checkpoint l.checkpoint (now (states old.disk)) m.none_runs k.checkpoint))
      (and_true (nat_lt (l.sealed + 1) (2 ^ 64)) (not (needs_rotation l) || is_resting l.log) (less_is (l.sealed + 1) (2 ^ 64) (subst (λ g. g + 1 < 2 ^ 64) (sym k.sealed) m.fits))
      (or_rests (needs_rotation l) (is_resting l.log) (λ needs.
      let rests = m.rests (sym k.newest ∙ is_same l.newest l.sealed needs ∙ k.sealed) in
      ap is_resting (k.log ∙ ap (λ o. work_by old.log o (length old.staged.items)) m.no_rotation ∙ ap (λ ph. committing ph (length old.staged.items)) rests.0))))

  may_not : MayRotate old.next old.log old.staged.items → may_begin l ≡ true → MayBegin old
  may_not goes e =
      let k = s.store works in
      let a = both_true (not (is_some l.checkpoint)) (nat_lt (l.sealed + 1) (2 ^ 64) && (not (needs_rotation l) || is_resting l.log)) e in
      let b = both_true (nat_lt (l.sealed + 1) (2 ^ 64)) (not (needs_rotation l) || is_resting l.log) a.1 in
      let none_ : old.checkpoint ≡ None = none_writes old.checkpoint l.checkpoint (now (states old.disk)) (not_true (is_some l.checkpoint) a.0) k.checkpoint in
      let alone : old.next ≡ None = none_follows old.next old.checkpoint old.must_close none_ k.both in
      record {
        none_runs = none_;
        no_rotation = alone;
        fits = subst (λ g. g + 1 < 2 ^ 64) k.sealed (is_less (l.sealed + 1) (2 ^ 64) b.0);
        rests = λ needs.
            let rests : is_resting l.log ≡ true = rests_or (needs_rotation l) (is_resting l.log) b.1 (same_is l.newest l.sealed (k.newest ∙ needs ∙ sym k.sealed)) in (
              resting_idle old.log.phase (length old.staged.items) (sym (ap is_resting (k.log ∙ ap (λ o. work_by old.log o (length old.staged.items)) alone)) ∙ rests),
              subst (λ o. MayRotate o old.log old.staged.items) alone goes,
            );
      }

-- ---- what it leaves

rest_of : (o : Option CheckpointState) (store : StoreState) (held : Held) (file : File) → o ≡ None → WriterStands o store held file → file ≡ at_rest held.other
rest_of None store held file e s = s.0
rest_of (Some w) store held file e s = absurd cc

clears_by : (content : List ℕ) (must_close : Bool) → must_close ≡ is_to_close content → clears_of content ≡ clears_left (first_phase must_close)
clears_by content true e = ap (λ b. if b then 3 else 2) (sym e)
clears_by content false e = ap (λ b. if b then 3 else 2) (sym e)

never_waits : (must_close : Bool) → is_waiting_in (first_phase must_close) ≡ false
never_waits true = refl
never_waits false = refl

never_seals : (must_close : Bool) → seals_left (first_phase must_close) ≡ 0
never_seals true = refl
never_seals false = refl

begins_both : (next : Option LogState) (o : Option CheckpointState) (v : CheckpointState) (must_close : Bool) → o ≡ Some v → v.phase ≡ first_phase must_close → BeginsBoth next o must_close
begins_both None o v must_close e h = tt
begins_both (Some next) None v must_close e h = absurd cc
begins_both (Some next) (Some w) v must_close e h = let is : w ≡ v = cc in ap (λ (x : CheckpointState). x.phase) is ∙ h

-- the checkpoint is shown so
shown : (l : Life) (w : World) (sealed low stripes : ℕ) (must_close : Bool) → l.sealed ≡ sealed → must_close ≡ is_to_close (w.files (checkpoint_file (sealed + 1))).seen
    → (let r : Running = record { generation = l.sealed + 1; clears = clears_of (w.files (checkpoint_file (l.sealed + 1))).seen; sections = []; is_waiting = false; seals = 0 } in r)
    ≡ running_shown (begun (sealed + 1) low stripes must_close) []
shown l w sealed low stripes must_close e close =
    let clears : clears_of (w.files (checkpoint_file (l.sealed + 1))).seen ≡ clears_left (first_phase must_close) =
    ap (λ g. clears_of (w.files (checkpoint_file (g + 1))).seen) e ∙ clears_by (w.files (checkpoint_file (sealed + 1))).seen must_close close in
    ap (λ g. let r : Running = record { generation = g + 1; clears = clears_of (w.files (checkpoint_file (l.sealed + 1))).seen; sections = []; is_waiting = false; seals = 0 } in r) e
    ∙ ap (λ c. let r : Running = record { generation = sealed + 1; clears = c; sections = []; is_waiting = false; seals = 0 } in r) clears
    ∙ ap (λ b. let r : Running = record { generation = sealed + 1; clears = clears_left (first_phase must_close); sections = []; is_waiting = b; seals = 0 } in r) (sym (never_waits must_close))
    ∙ ap (λ c. let r : Running = record { generation = sealed + 1; clears = clears_left (first_phase must_close); sections = []; is_waiting = is_waiting_in (first_phase must_close); seals = c } in r) (sym (never_seals must_close))

written : (o : Option CheckpointState) (running : Option Running) (files : Files) (v : CheckpointState) → o ≡ Some v → running ≡ Some (running_shown v []) → HasGiven o [] files → IsWritten o running files
written None running files v e is given = absurd given
written (Some u) running files v e is given = let same : u ≡ v = cc in ([], is ∙ ap (λ x. Some (running_shown x [])) (sym same), given)

-- whichever log it goes with
goes : (b : Bool) (log : LogWork) (old : LogState) (next : Option LogState) (n : ℕ) → (b ≡ true → (follows : LogState) × (next ≡ Some follows) × (follows.phase ≡ log_phase.Header)) → (b ≡ false → (next ≡ None) × (log ≡ committing old.phase n))
    → (if b then Rotating 6 else log) ≡ work_by old next n
goes true log old next n so other = let y = so refl in sym (ap (λ o. work_by old o n) y.1 ∙ header old y.0 n y.2)
  where
    header : (old follows : LogState) (n : ℕ) → follows.phase ≡ log_phase.Header → work_by old (Some follows) n ≡ Rotating 6
    header old follows n e = ap (λ ph. Rotating (calls_left (due_in ph old follows).phase)) e ∙ ap (λ ph. Rotating (calls_left ph)) e
goes false log old next n so other = let z = other refl in z.1 ∙ sym (ap (λ o. work_by old o n) z.0)

module _ {D : Type 0} (states : D → List Files) (honest : D → Type 0) (n : ℕ) (done : List Command) (old new : Keeper D) (p : Record) (w : World) (l : Life)
    (f : Fits states honest n done old p) (h : honest old.disk) (s : KeeperStands states old p w l) (works : old.is_broken ≡ false) (m : MayBegin old) (given : HasGiven new.checkpoint [] (now (states old.disk))) where
  after : (low : ℕ) → new.checkpoint ≡ Some (begun (old.sealed + 1) low old.stripes.count old.must_close)
      → ((l.newest == l.sealed) ≡ true → (follows : LogState) × (new.next ≡ Some follows) × (follows.phase ≡ log_phase.Header)) → ((l.newest == l.sealed) ≡ false → new.next ≡ None)
      → KeeperStands states (record old { next = new.next; checkpoint = new.checkpoint }) p (with_life w (checkpoint_begun w l)) (checkpoint_begun w l)
  after low is so other =
      let k = s.store works in
      let holds = f.stores.works works h in
      let rest : now (states old.disk) (checkpoint_file (old.sealed + 1)) ≡ at_rest holds.held.other = rest_of old.checkpoint (store_of old) holds.held (now (states old.disk) (checkpoint_file (old.sealed + 1))) m.none_runs holds.stands.kept.writer in
      let close : old.must_close ≡ is_to_close (w.files (checkpoint_file (old.sealed + 1))).seen =
      holds.must_close_is ∙ ap (λ (x : File). is_to_close x.seen) (sym (ap (λ (fs : Files). fs (checkpoint_file (old.sealed + 1))) s.files ∙ rest)) in
      record {
        life = refl;
        files = s.files;
        history = same_history p p w (with_life w (checkpoint_begun w l)) l (checkpoint_begun w l) refl refl refl refl s.history;
        stripes = s.stripes;
        sweep = s.sweep;
        walk = s.walk;
        committed = s.committed;
        durable = s.durable;
        has_failed = s.has_failed;
        is_broken = s.is_broken;
        staged = λ broken. absurd (two_ways old.is_broken broken works);
        store = λ _. record {
          log = goes (l.newest == l.sealed) l.log old.log new.next (length old.staged.items) so (λ e. (other e, k.log ∙ ap (λ o. work_by old.log o (length old.staged.items)) m.no_rotation));
          newest = k.newest;
          layout = k.layout;
          gate = k.gate;
          sealed = k.sealed;
          checkpoint = written new.checkpoint (checkpoint_begun w l).checkpoint (now (states old.disk)) (begun (old.sealed + 1) low old.stripes.count old.must_close) is (ap Some (shown l w old.sealed low old.stripes.count old.must_close k.sealed close)) given;
          both = begins_both new.next new.checkpoint (begun (old.sealed + 1) low old.stripes.count old.must_close) old.must_close is refl;
        };
      }

  after_begun : Begins old new → KeeperStands states (record old { next = new.next; checkpoint = new.checkpoint }) p (with_life w (checkpoint_begun w l)) (checkpoint_begun w l)
  after_begun b =
      let k = s.store works in
      elim (either (l.newest == l.sealed)) [
        | inl so ↦
            let g : old.log.generation ≡ old.sealed = sym k.newest ∙ is_same l.newest l.sealed so ∙ k.sealed in
            let r = b.rotates g in
            after old.log.committed r.1 (λ _. (log_begun (old.sealed + 1) old.log.committed, r.0, refl)) (λ other. absurd (two_ways (l.newest == l.sealed) so other))
        | inr other ↦
            let g : old.log.generation ≢ old.sealed = λ e. is_other l.newest l.sealed other (k.newest ∙ e ∙ sym k.sealed) in
            let r = b.goes_with g in
            after old.log.low r.1 (λ so. absurd (two_ways (l.newest == l.sealed) so other)) (λ _. r.0)
      ]

-- ---- the event

ok_err : {A E : Type 0} (x : A) (e : E) → Ok x ≡ Err e → ⊥
ok_err x e same = cc

module _ {D : Type 0} (states : D → List Files) (honest : D → Type 0) (n : ℕ) (done : List Command) (old new : Keeper D) (p : Record) (w : World) (l : Life) (f : Fits states honest n done old p) (h : honest old.disk) (s : KeeperStands states old p w l) where
  refused : (e : Refusal) → BeginsCheckpoint l (outcome.Refused e) → new ≡ old → Answers states new p w l event.Begin (outcome.Refused e)
  refused e happens same = record { happens = happens; stands = subst (λ k. HasKeeper states k p w) (sym same) (inside states old p w l s) }

  refused_by : (e : Refusal) → TriesBegin states honest old new (Err e) → (e ≡ refusal.Failed) ⊎ (e ≡ refusal.WrongPhase) → BeginsCheckpoint l (outcome.Refused e)
  refused_by e t (inl is) = subst (λ x. BeginsCheckpoint l (outcome.Refused x)) (sym is) (s.is_broken ∙ t.failed.0 (ap Err is))
  refused_by e t (inr is) =
      let wrong = t.wrong_phase.0 (ap Err is) in
      subst (λ x. BeginsCheckpoint l (outcome.Refused x)) (sym is)
      (s.is_broken ∙ wrong.0, false_from_ne_true (may_begin l) (λ so. wrong.1 (may_not states old p w l s wrong.0 f.rotation so)))

  begin_by : (result : Result (Unit {0}) Refusal) → TriesBegin states honest old new result → Answers states new p w l event.Begin (begun_as result)
  begin_by (Ok unit) t =
      let works : old.is_broken ≡ false = false_from_ne_true old.is_broken (λ broken. ok_err unit refusal.Failed (t.failed.1 broken)) in
      let so : may_begin l ≡ true = true_from_ne_false (may_begin l) (λ other. ok_err unit refusal.WrongPhase (t.wrong_phase.1 (works, λ m. two_ways (may_begin l) (may states old p w l s works m) other))) in
      let m : MayBegin old = may_not states old p w l s works f.rotation so in
      let disk : new.disk ≡ old.disk = ap (λ (k : Keeper D). k.disk) t.same in
      let given : HasGiven new.checkpoint [] (now (states old.disk)) = subst (λ d. HasGiven new.checkpoint [] (now (states d))) disk (t.given n done p f h) in
      record {
        happens = (s.is_broken ∙ works, so);
        stands = subst (λ k. HasKeeper states k p (with_life w (checkpoint_begun w l))) (sym t.same) (after_begun states honest n done old new p w l f h s works m given t.ok);
      }
  begin_by (Err e) t = refused e (refused_by e t t.no_other) t.err

pub begin_answers : {D : Type 0} (states : D → List Files) (honest : D → Type 0) → BeginAnswers states honest
begin_answers {D} states honest n done old new p w l result f h s t = begin_by states honest n done old new p w l f h s result t
