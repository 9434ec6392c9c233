-- A life begins, and its workers leave the keeper as it is.
use Rattle.std.proofs.Common.{◌≡◌, ℕ, List, [], ◌∷◌, ◌++◌, length, take, drop, Option, Some, None, Bool, append-nil, refl, sym, ◌∙◌, ap, subst, arith}
use Rattle.std.proofs.lemmas.List.{append_assoc, drop-append-le, length-append, take-append-le}
use Rattle.map_types.specs.declared.commands.Command.{Command}
use Rattle.map_model.specs.Steps.{fold_of}
use Rattle.ticket_order.specs.declared.record.Asked.TheVariants.{Changing}
use Rattle.ticket_order.specs.declared.record.Record.{Record}
use Rattle.disk_model.specs.Files.{Files, now}
use Rattle.store_layout.specs.Opening.{prefix_of}
use Rattle.gate_log.specs.States.{LogState}
use Rattle.flusher.specs.declared.keeper.Keeper.{Keeper}
use Rattle.sim_rules.specs.declared.outcome.End.{End}
use Rattle.sim_rules.specs.declared.outcome.Made.{Made}
use Rattle.sim_rules.specs.declared.outcome.Made.TheVariants as made
use Rattle.sim_rules.specs.World.{World, Life, Job, Walks, begun_by}
use Rattle.sim_rules.specs.After.{history_after, with_job, with_life, worker_stepped}
use Rattle.sim_keeper.specs.Laws.{FrontIsSeen, OpeningStands, WorkersLeaveKeeper}
use Rattle.sim_keeper.specs.Showing.{committing, sweep_shown, walk_by, walking_shown, work_by}
use Rattle.sim_keeper.specs.KeeperInWorld.{BeginsBoth, HasKeeper, IsWritten, KeeperStands, SeesHistory, StandsIn}
use Rattle.checkpoint_file.specs.States.{CheckpointState}
use Rattle.sim_keeper.proofs.Deciding.{two_ways}
use Rattle.sim_keeper.proofs.Lists.{drop_front, take_front}
use Rattle.sim_keeper.proofs.Moved.{same_history}

-- ---- workers

-- the history has more commands at its end
grown_history : (p : Record) (w v : World) (l m : Life) (more : List Command) → v.history ≡ w.history ++ more → m.first ≡ l.first → SeesHistory p w l → SeesHistory p v m
grown_history p w v l m more history first s = record {
  first = s.first ∙ sym first;
  within = omega (arith, s.within, first, ap (λ (xs : List Command). length xs) history, length-append w.history more);
  opening = s.opening ∙ ap fold_of (sym (take-append-le l.first w.history more s.within) ∙ ap (take l.first) (sym history)) ∙ ap (λ n. fold_of (take n v.history)) (sym first);
  unseen = s.unseen ++ more;
  added = ap (λ n. drop n v.history) first ∙ ap (drop l.first) history ∙ drop-append-le l.first w.history more s.within ∙ ap (λ xs. xs ++ more) s.added ∙ append_assoc p.seen s.unseen more;
}

more_drawn : (h : List Command) (job : Job) (m : Made) → (more : List Command) × (history_after h job m ≡ h ++ more)
more_drawn h (Walks (Changing c) stage) (made.Drew ticket) = (c ∷ [], refl)
more_drawn h job m = ([], sym (append-nil h))

module _ {D : Type 0} (states : D → List Files) (keeper : Keeper D) (p : Record) (w : World) (l : Life) (s : KeeperStands states keeper p w l) where
  begins : (worker : ℕ) (job : Job) → HasKeeper states keeper p (with_life w (with_job worker job l))
  begins worker job =
      let m : Life = with_job worker job l in
      record {
        life = refl;
        files = s.files;
        history = same_history p p w (with_life w m) l m refl refl refl refl s.history;
        stripes = s.stripes;
        sweep = s.sweep;
        walk = s.walk;
        committed = s.committed;
        durable = s.durable;
        has_failed = s.has_failed;
        is_broken = s.is_broken;
        store = λ works. let k = s.store works in record { log = k.log; newest = k.newest; layout = k.layout; gate = k.gate; sealed = k.sealed; checkpoint = k.checkpoint; both = k.both };
        staged = s.staged;
      }

  steps : (worker : ℕ) (job : Job) (m : Made) (end : End) → HasKeeper states keeper p (worker_stepped w l worker job m end)
  steps worker job m end =
      let drawn = more_drawn w.history job m in
      record {
        life = refl;
        files = s.files;
        history = grown_history p w (worker_stepped w l worker job m end) l _ drawn.0 drawn.1 refl s.history;
        stripes = s.stripes;
        sweep = s.sweep;
        walk = s.walk;
        committed = s.committed;
        durable = s.durable;
        has_failed = s.has_failed;
        is_broken = s.is_broken;
        store = λ works. let k = s.store works in record { log = k.log; newest = k.newest; layout = k.layout; gate = k.gate; sealed = k.sealed; checkpoint = k.checkpoint; both = k.both };
        staged = s.staged;
      }

pub workers_leave_keeper : {D : Type 0} (states : D → List Files) → WorkersLeaveKeeper states
workers_leave_keeper {D} states keeper p w l worker job s = (begins states keeper p w l s worker job, steps states keeper p w l s worker job)

pub front_is_seen : FrontIsSeen
front_is_seen p w l before added rest history long first map front = record {
  first = first;
  within = omega (arith, long, ap (λ (xs : List Command). length xs) history, length-append before added);
  opening = map ∙ ap fold_of (sym (ap (λ n. take n w.history) (sym long) ∙ ap (take (length before)) history ∙ take_front before added));
  unseen = rest;
  added = ap (λ n. drop n w.history) (sym long) ∙ ap (drop (length before)) history ∙ drop_front before added ∙ front;
}

-- ---- an opening

take_all : (n : ℕ) (xs : List Command) → length xs ≡ n → take n xs ≡ xs
take_all n xs e = ap (λ k. take k xs) (sym e) ∙ ap (take (length xs)) (sym (append-nil xs)) ∙ take_front xs []

drop_all : (n : ℕ) (xs : List Command) → length xs ≡ n → drop n xs ≡ []
drop_all n xs e = ap (λ k. drop k xs) (sym e) ∙ ap (drop (length xs)) (sym (append-nil xs)) ∙ drop_front xs []

none_written : (o : Option CheckpointState) (files : Files) → o ≡ None → IsWritten o None files
none_written None files e = refl
none_written (Some v) files e = absurd cc

none_both : (next : Option LogState) (o : Option CheckpointState) (must_close : Bool) → next ≡ None → BeginsBoth next o must_close
none_both None o must_close e = tt
none_both (Some next) o must_close e = absurd cc

pub opening_stands : {D : Type 0} (states : D → List Files) → OpeningStands states
unfolding begun_by
opening_stands {D} states keeper p w stripes contents found k =
    subst (λ life. StandsIn states keeper p w life) (sym k.life) (record {
      life = k.life;
      files = k.files;
      history = record {
        first = k.first;
        within = omega (arith, k.long);
        opening = k.map ∙ ap fold_of (sym (take_all (prefix_of found) w.history k.long));
        unseen = [];
        added = drop_all (prefix_of found) w.history k.long ∙ sym (ap (λ xs. xs ++ []) k.none_seen);
      };
      stripes = sym k.stripes_are;
      sweep = sym (ap sweep_shown k.sweep);
      walk = sym (ap (λ o. walk_by keeper.stripes.count keeper.sweeper.walking o p) k.capture ∙ ap walking_shown k.walking);
      committed = sym k.committed;
      durable = sym k.published;
      has_failed = sym k.not_failed;
      is_broken = sym k.works;
      staged = λ broken. absurd (two_ways keeper.is_broken broken k.works);
      store = λ _. record {
        log = sym (ap (λ o. work_by keeper.log o (length keeper.staged.items)) k.no_next ∙ ap (λ ph. committing ph (length keeper.staged.items)) k.idle);
        newest = sym k.generation;
        layout = sym k.version;
        gate = sym k.gate;
        sealed = sym k.sealed;
        checkpoint = none_written keeper.checkpoint (now (states keeper.disk)) k.checkpoint;
        both = none_both keeper.next keeper.checkpoint keeper.must_close k.no_next;
      };
    })
