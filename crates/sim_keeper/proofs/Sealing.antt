-- A checkpoint goes on to its seal.
use Rattle.std.proofs.Common.{◌≡◌, ◌⊎◌, inl, inr, ℕ, ◌+◌, ◌<◌, ◌≤◌, List, [], length, Option, Some, None, IfSome, Bool, true, false, ◌&&◌, ◌==◌, not, Result, Ok, Err, refl, sym, ◌∙◌, ap, subst, arith}
use Rattle.std.proofs.lemmas.Bool.{false_from_ne_true, true_from_ne_false}
use Rattle.java_hash.proofs.StripeLaws.{some_stripe}
use Rattle.map_types.specs.declared.commands.Command.{Command}
use Rattle.map_types.specs.declared.refusals.Refusal.{Refusal}
use Rattle.map_types.specs.declared.refusals.Refusal.TheVariants as refusal
use Rattle.ticket_order.specs.declared.record.Record.{Record}
use Rattle.disk_model.specs.Files.{File, Files, now}
use Rattle.store_layout.specs.Checkpoints.{Section, checkpoint_file}
use Rattle.gate_log.specs.States.{LogState}
use Rattle.store_layout.specs.declared.checkpoint_phase.CheckpointPhase.{CheckpointPhase}
use Rattle.store_layout.specs.declared.checkpoint_phase.CheckpointPhase.TheVariants.{Idle, Gate, GateWritten, GateSynced, Ready, Staged, Header, HeaderWritten, HeaderSynced, Opened, Sealed}
use Rattle.store_layout.proofs.CheckpointReading.{both_true}
use Rattle.checkpoint_file.specs.CheckpointStates as checkpoint
use Rattle.checkpoint_file.specs.States.{CheckpointState, TakesSeal, first_phase}
use Rattle.store_invariant.specs.States.{Held, StoreState}
use Rattle.store_invariant.specs.StoreStates.{IsUnderWay, WriterStands}
use Rattle.flusher.specs.declared.keeper.Keeper.{Keeper}
use Rattle.flusher.specs.Fitting.{Fits, HasStripes, store_of}
use Rattle.checkpoint_walk.specs.Checkpointing.{HasAllSections, HasGiven, IsMarkedAbove, sealing}
use Rattle.sim_rules.specs.declared.event.Event.TheVariants as event
use Rattle.sim_rules.specs.declared.outcome.Outcome.TheVariants as outcome
use Rattle.sim_rules.specs.World.{World, Life, Running}
use Rattle.sim_rules.specs.After.{seal_begun, with_life}
use Rattle.sim_rules.specs.Cases.{BeginsSeal, mark_of, may_seal}
use Rattle.sim_keeper.specs.Laws.{SealAnswers, sealing_as}
use Rattle.sim_keeper.specs.Promises.{TriesSeal}
use Rattle.sim_keeper.specs.Showing.{clears_left, is_waiting_in, running_shown, seals_left}
use Rattle.sim_keeper.specs.KeeperInWorld.{Answers, BeginsBoth, HasKeeper, IsWritten, KeeperStands}
use Rattle.sim_keeper.proofs.Deciding.{and_true, is_same, not_less, not_true, same_is, two_ways}
use Rattle.sim_keeper.proofs.Moved.{inside, same_history}

-- ---- the phases of a checkpoint that runs

pub under_way : (o : Option CheckpointState) (store : StoreState) (held : Held) (file : File) (w : CheckpointState) → o ≡ Some w → WriterStands o store held file → IsUnderWay w.phase store.next
under_way None store held file w e s = absurd cc
under_way (Some u) store held file w e s = let is : u ≡ w = cc in subst (λ (x : CheckpointState). IsUnderWay x.phase store.next) is s.under_way

-- no section was given, no write is left, and no seal is begun: the sections may be given
only_ready : (w : CheckpointState) (old : List ℕ) (sections : List Section) (file : File) (phase : CheckpointPhase) (next : Option LogState) → w.phase ≡ phase → IsUnderWay phase next → checkpoint.AtPhase phase w old sections file
    → (sections ≡ [] → ⊥) → is_waiting_in phase ≡ false → seals_left phase ≡ 0 → w.phase ≡ Ready
only_ready w old sections file Idle next e way at some waits seals = absurd way
only_ready w old sections file Gate next e way at some waits seals = absurd (some at.0)
only_ready w old sections file GateWritten next e way at some waits seals = absurd (some at.0)
only_ready w old sections file GateSynced next e way at some waits seals = absurd (some at.0)
only_ready w old sections file Ready next e way at some waits seals = e
only_ready w old sections file Staged next e way at some waits seals = absurd cc
only_ready w old sections file Header next e way at some waits seals = absurd (omega (arith, seals))
only_ready w old sections file HeaderWritten next e way at some waits seals = absurd (omega (arith, seals))
only_ready w old sections file HeaderSynced next e way at some waits seals = absurd (omega (arith, seals))
only_ready w old sections file Opened next e way at some waits seals = absurd (omega (arith, seals))
only_ready w old sections file Sealed next e way at some waits seals = absurd way

none_given : (sections : List Section) → sections ≡ [] → length sections ≡ 0
none_given sections e = ap (λ (xs : List Section). length xs) e

-- ---- when it may be sealed

module _ (l : Life) (o : Option CheckpointState) (files : Files) (n : ℕ) (stripes : l.stripes ≡ n) where
  seals : (w : CheckpointState) (sections : List Section) → w.stripes ≡ n → HasGiven (Some w) sections files → TakesSeal w → may_seal l (Some (running_shown w sections)) ≡ true
  seals w sections theirs given takes =
      let long : length sections ≡ l.stripes = sym given.1.knows.count ∙ takes.1 ∙ theirs ∙ sym stripes in
      and_true (length sections == l.stripes) (not (is_waiting_in w.phase) && (seals_left w.phase == 0)) (same_is (length sections) l.stripes long)
      (and_true (not (is_waiting_in w.phase)) (seals_left w.phase == 0) (ap (λ ph. not (is_waiting_in ph)) takes.0) (ap (λ ph. seals_left ph == 0) takes.0))

  takes : (w : CheckpointState) (sections : List Section) (next : Option LogState) → w.stripes ≡ n → HasGiven (Some w) sections files → IsUnderWay w.phase next → may_seal l (Some (running_shown w sections)) ≡ true → TakesSeal w
  takes w sections next theirs given way e =
      let a = both_true (length sections == l.stripes) (not (is_waiting_in w.phase) && (seals_left w.phase == 0)) e in
      let b = both_true (not (is_waiting_in w.phase)) (seals_left w.phase == 0) a.1 in
      let long : length sections ≡ l.stripes = is_same (length sections) l.stripes a.0 in
      let many : 0 < w.stripes = some_stripe w.stripes given.1.knows.allowed in (
        only_ready w given.0 sections (files (checkpoint_file w.generation)) w.phase next refl way given.1.stands
            (λ none_. omega (arith, none_given sections none_, long, stripes, theirs, many)) (not_true (is_waiting_in w.phase) b.0) (is_same (seals_left w.phase) 0 b.1),
        given.1.knows.count ∙ long ∙ stripes ∙ sym theirs,
      )

  may_by : (o : Option CheckpointState) (running : Option Running) → IsWritten o running files → ((w : CheckpointState) → o ≡ Some w → w.stripes ≡ n) → HasAllSections o → may_seal l running ≡ true
  may_by None running is theirs all = absurd all
  may_by (Some w) running is theirs all = ap (may_seal l) is.1 ∙ seals w is.0 (theirs w refl) is.2 all

  all_by : (o : Option CheckpointState) (running : Option Running) (next : Option LogState) → IsWritten o running files → ((w : CheckpointState) → o ≡ Some w → w.stripes ≡ n) → ((w : CheckpointState) → o ≡ Some w → IsUnderWay w.phase next) → may_seal l running ≡ true → HasAllSections o
  all_by None running next is theirs way e = absurd (two_ways (may_seal l running) e (ap (may_seal l) is))
  all_by (Some w) running next is theirs way e = takes w is.0 next (theirs w refl) is.2 (way w refl) (sym (ap (may_seal l) is.1) ∙ e)

above : (o : Option CheckpointState) (running : Option Running) (files : Files) (count : ℕ) → IsWritten o running files → IsMarkedAbove count o → count < mark_of running
above None running files count is marked = absurd marked
above (Some w) running files count is marked = subst (λ m. count < m) (is.2.1.knows.greatest ∙ sym (ap mark_of is.1)) marked

above_by : (o : Option CheckpointState) (running : Option Running) (files : Files) (count : ℕ) → IsWritten o running files → HasAllSections o → count < mark_of running → IsMarkedAbove count o
above_by None running files count is all marked = absurd all
above_by (Some w) running files count is all marked = subst (λ m. count < m) (sym (is.2.1.knows.greatest ∙ sym (ap mark_of is.1))) marked

-- ---- what it leaves

written : (o : Option CheckpointState) (running : Option Running) (files : Files) → IsWritten o running files → HasAllSections o → ((sections : List Section) → HasGiven o sections files → HasGiven (sealing o) sections files)
    → IsWritten (sealing o) (seal_begun running) files
written None running files is all given = absurd all
written (Some w) running files is all given =
    (is.0, ap seal_begun is.1 ∙ ap Some (sealed w is.0 all.0), given is.0 is.2)
  where
    sealed : (w : CheckpointState) (sections : List Section) → w.phase ≡ Ready → record (running_shown w sections) { seals = 4 } ≡ running_shown (record w { phase = Header }) sections
    sealed w sections ready = ap (λ ph. let r : Running = record { generation = w.generation; clears = clears_left ph; sections = sections; is_waiting = is_waiting_in ph; seals = 4 } in r) ready

not_first : (must_close : Bool) → Ready ≡ first_phase must_close → ⊥
not_first true e = cc
not_first false e = cc

alone : (next : Option LogState) (o : Option CheckpointState) (must_close : Bool) → HasAllSections o → BeginsBoth next o must_close → BeginsBoth next (sealing o) must_close
alone None o must_close all both = tt
alone (Some next) None must_close all both = absurd all
alone (Some next) (Some w) must_close all both = absurd (not_first must_close (sym all.0 ∙ both))

-- ---- the event

ok_err : {A E : Type 0} (x : A) (e : E) → Ok x ≡ Err e → ⊥
ok_err x e same = cc

pub stripes_by : {D : Type 0} (n : ℕ) (keeper : Keeper D) → HasStripes n keeper → (w : CheckpointState) → keeper.checkpoint ≡ Some w → w.stripes ≡ n
stripes_by {D} n keeper h w e = by keeper.checkpoint e h.writer
  where
    by : (o : Option CheckpointState) → o ≡ Some w → IfSome o (λ w. w.stripes ≡ n) → w.stripes ≡ n
    by None e h = absurd cc
    by (Some u) e h = let is : u ≡ w = cc in sym (ap (λ (x : CheckpointState). x.stripes) is) ∙ h

module _ {D : Type 0} (states : D → List Files) (honest : D → Type 0) (n : ℕ) (done : List Command) (old new : Keeper D) (p : Record) (w : World) (l : Life) (f : Fits states honest n done old p) (h : honest old.disk) (s : KeeperStands states old p w l) where
  stripes_are : l.stripes ≡ n
  stripes_are = s.stripes ∙ f.stripes.count

  all_may : old.is_broken ≡ false → HasAllSections old.checkpoint → may_seal l l.checkpoint ≡ true
  all_may works all = may_by l old.checkpoint (now (states old.disk)) n stripes_are old.checkpoint l.checkpoint (s.store works).checkpoint (stripes_by n old f.stripes) all

  may_all : old.is_broken ≡ false → may_seal l l.checkpoint ≡ true → HasAllSections old.checkpoint
  may_all works may =
      let holds = f.stores.works works h in
      all_by l old.checkpoint (now (states old.disk)) n stripes_are old.checkpoint l.checkpoint old.next (s.store works).checkpoint (stripes_by n old f.stripes)
      (λ v is. under_way old.checkpoint (store_of old) holds.held (now (states old.disk) (checkpoint_file (old.sealed + 1))) v is holds.stands.kept.writer) may

  refused_by : (e : Refusal) → TriesSeal states old new (Err e) → (e ≡ refusal.Failed) ⊎ (e ≡ refusal.WrongPhase) ⊎ (e ≡ refusal.TooEarly) → BeginsSeal l (outcome.Refused e)
  refused_by e t (inl is) = subst (λ x. BeginsSeal l (outcome.Refused x)) (sym is) (s.is_broken ∙ t.failed.0 (ap Err is))
  refused_by e t (inr (inl is)) =
      let wrong = t.wrong_phase.0 (ap Err is) in
      subst (λ x. BeginsSeal l (outcome.Refused x)) (sym is) (s.is_broken ∙ wrong.0, false_from_ne_true (may_seal l l.checkpoint) (λ may. wrong.1 (may_all wrong.0 may)))
  refused_by e t (inr (inr is)) =
      let early = t.early.0 (ap Err is) in
      subst (λ x. BeginsSeal l (outcome.Refused x)) (sym is)
      (s.is_broken ∙ early.0, all_may early.0 early.1, subst (λ d. d < mark_of l.checkpoint) (sym s.durable) (above old.checkpoint l.checkpoint (now (states old.disk)) old.published (s.store early.0).checkpoint early.2))

  after : old.is_broken ≡ false → HasAllSections old.checkpoint → ((sections : List Section) → HasGiven old.checkpoint sections (now (states old.disk)) → HasGiven (sealing old.checkpoint) sections (now (states old.disk)))
      → (let m : Life = record l { checkpoint = seal_begun l.checkpoint } in KeeperStands states (record old { checkpoint = sealing old.checkpoint }) p (with_life w m) m)
  after works all given =
      let m : Life = record l { checkpoint = seal_begun l.checkpoint } in
      let k = s.store works in
      record {
        life = refl;
        files = s.files;
        history = same_history p p w (with_life w m) l m refl refl refl refl s.history;
        stripes = s.stripes;
        sweep = s.sweep;
        walk = s.walk;
        committed = s.committed;
        durable = s.durable;
        has_failed = s.has_failed;
        is_broken = s.is_broken;
        staged = s.staged;
        store = λ _. record {
          log = k.log;
          newest = k.newest;
          layout = k.layout;
          gate = k.gate;
          sealed = k.sealed;
          checkpoint = written old.checkpoint l.checkpoint (now (states old.disk)) k.checkpoint all given;
          both = alone old.next old.checkpoint old.must_close all k.both;
        };
      }

  seal_by : (result : Result (Unit {0}) Refusal) → TriesSeal states old new result → Answers states new p w l event.Seal (sealing_as result)
  seal_by (Ok unit) t =
      let works : old.is_broken ≡ false = false_from_ne_true old.is_broken (λ broken. ok_err unit refusal.Failed (t.failed.1 broken)) in
      let may : may_seal l l.checkpoint ≡ true = true_from_ne_false (may_seal l l.checkpoint) (λ not_. ok_err unit refusal.WrongPhase (t.wrong_phase.1 (works, λ all. two_ways (may_seal l l.checkpoint) (all_may works all) not_))) in
      let all = may_all works may in
      let k = s.store works in
      let reached : mark_of l.checkpoint ≤ l.durable = not_less l.durable (mark_of l.checkpoint) (λ early. ok_err unit refusal.TooEarly (t.early.1 (
        works,
        all,
        above_by old.checkpoint l.checkpoint (now (states old.disk)) old.published k.checkpoint all (subst (λ d. d < mark_of l.checkpoint) s.durable early),
      ))) in
      let given : (sections : List Section) → HasGiven old.checkpoint sections (now (states old.disk)) → HasGiven (sealing old.checkpoint) sections (now (states old.disk)) =
      subst (λ (k : Keeper D). (sections : List Section) → HasGiven old.checkpoint sections (now (states old.disk)) → HasGiven k.checkpoint sections (now (states k.disk))) t.ok t.given in
      record {
        happens = (s.is_broken ∙ works, may, reached);
        stands = subst (λ k. HasKeeper states k p (with_life w (record l { checkpoint = seal_begun l.checkpoint }))) (sym t.ok) (after works all given);
      }
  seal_by (Err e) t = record { happens = refused_by e t t.no_other; stands = subst (λ k. HasKeeper states k p w) (sym t.err) (inside states old p w l s) }

pub seal_answers : {D : Type 0} (states : D → List Files) (honest : D → Type 0) → SealAnswers states honest
seal_answers {D} states honest n done old new p w l result f h s t = seal_by states honest n done old new p w l f h s result t
