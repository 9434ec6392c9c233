-- How a store stands after a step of the log that follows, and once that log is the newest.
use Rattle.std.proofs.Common.{◌≡◌, ℕ, ◌+◌, List, [], ◌++◌, length, Option, None, Some, refl, sym, ◌∙◌, ap, subst, arith}
use Rattle.std.proofs.lemmas.List.{append-nil}
use Rattle.disk_model.specs.Files.{File, Files, MayLeave, with_file}
use Rattle.map_model.specs.Histories.{History}
use Rattle.store_layout.specs.Checkpoints.{Checkpoint, checkpoint_file}
use Rattle.store_layout.specs.Logs.{Batch, commands_in, log_file}
use Rattle.store_layout.specs.Opening.{Opened, logged_by}
use Rattle.store_layout.specs.SectionsAndLog.{IsLogOf, IsNextOf, Restores}
use Rattle.store_layout.specs.declared.checkpoint_phase.CheckpointPhase.{CheckpointPhase}
use Rattle.store_layout.specs.declared.checkpoint_phase.CheckpointPhase.TheVariants as checkpoint_phase
use Rattle.gate_log.specs.LogStates as log
use Rattle.store_layout.specs.declared.log_phase.Phase.TheVariants.{Idle, Header, HeaderWritten, Staged, Opened as log_opened}
use Rattle.gate_log.specs.States.{LogState, log_after}
use Rattle.store_invariant.specs.Laws.{LogEnds, NextIsReady, NextStepsOn}
use Rattle.store_invariant.specs.States.{StoreState, Held, low_after, newest_batches}
use Rattle.store_invariant.specs.StoreStates.{Follows, HasEnded, IsSealedIn, IsTurn, IsUnderWay, LogsStand, MayCapture, NextLogIsOf, NextStands, Stands, WriterStands}
use Rattle.store_invariant.proofs.Places.{checkpoint_is_no_log, elsewhere, here, log_before, next_log}
use Rattle.store_invariant.proofs.Logs.{ended as ended_in}
use Rattle.store_invariant.proofs.LogSteps.{none_is_some, newest_stands, writer_kept, is_not_idle}

-- ---- the log that follows

-- the newest log is not touched by it, and is told something perhaps
logs_beside : (k : Checkpoint) (first : List Batch) (second : Option (List Batch)) (old newest : LogState) (staged : List Batch) (generation : ℕ) (start : Files) (file : File) → second ≡ None → newest.generation ≡ old.generation
    → newest.low ≡ old.low → generation ≡ old.generation + 1 → ((batches staged : List Batch) (file : File) → log.Stands old batches staged file → log.Stands newest batches staged file)
    → LogsStand k first second old staged start → LogsStand k first second newest staged (with_file (log_file generation) file start)
logs_beside k first None old newest staged generation start file none_ same low next told logs = (
  same ∙ logs.0,
  low ∙ logs.1,
  told first staged (with_file (log_file generation) file start (log_file k.generation))
      (elsewhere (log.Stands old first staged) (log_file generation) file start (log_file k.generation) (next_log k.generation generation (next ∙ ap (λ n. n + 1) logs.0)) logs.2),
)
logs_beside k first (Some second) old newest staged generation start file none_ same low next told logs = absurd (none_is_some second (sym none_))

-- a checkpoint that goes with it does not open its gate meanwhile
still_follows : (phase : CheckpointPhase) (old : Option LogState) (next new : LogState) → old ≡ Some next → IsUnderWay phase old → IsUnderWay phase (Some new)
still_follows checkpoint_phase.HeaderSynced old next new follows under = absurd (none_is_some next (sym under ∙ follows))
still_follows checkpoint_phase.Opened old next new follows under = absurd (none_is_some next (sym under ∙ follows))
still_follows checkpoint_phase.Idle old next new follows under = under
still_follows checkpoint_phase.Sealed old next new follows under = under
still_follows checkpoint_phase.Gate old next new follows under = tt
still_follows checkpoint_phase.GateWritten old next new follows under = tt
still_follows checkpoint_phase.GateSynced old next new follows under = tt
still_follows checkpoint_phase.Ready old next new follows under = tt
still_follows checkpoint_phase.Staged old next new follows under = tt
still_follows checkpoint_phase.Header old next new follows under = tt
still_follows checkpoint_phase.HeaderWritten old next new follows under = tt

module _ (h : History) (store : StoreState) (held : Held) (next : LogState) (start : Files) (file : File) (stands : Stands h store held start) (is : store.next ≡ Some next) where
  follows_now : Follows next store.log held.found.second start
  follows_now = subst (λ o. NextStands o store.log held.found.second start) is stands.kept.next

  next_moved : (newest new : LogState) → newest.generation ≡ store.log.generation → newest.low ≡ store.log.low → newest.committed ≡ store.log.committed → log.IsReady newest.phase
      → ((batches staged : List Batch) (file : File) → log.Stands store.log batches staged file → log.Stands newest batches staged file)
      → new.generation ≡ next.generation → new.low ≡ next.low → new.ending ≡ next.ending → IsTurn new.phase newest → log.Stands new [] [] file
      → Stands h (record store { log = newest; next = Some new }) held (with_file (log_file next.generation) file start)
  next_moved newest new generation low committed ready told generation' low' ending' turn stand =
      let k = held.found.checkpoint in
      let number = log_file next.generation in
      let after : StoreState = record store { log = newest; next = Some new } in
      let same : new.low ≡ low_after store.log store.next = low' ∙ ap (low_after store.log) (sym is) in
      record {
        kept = record {
          sealed = stands.kept.sealed;
          checkpoint = elsewhere (IsSealedIn k) number file start (checkpoint_file store.sealed) (checkpoint_is_no_log store.sealed next.generation) stands.kept.checkpoint;
          older = stands.kept.older;
          ready = ready;
          logs = logs_beside k held.found.first held.found.second store.log newest held.staged next.generation start file follows_now.newest_is_first generation low follows_now.generation told stands.kept.logs;
          next = record {
            newest_is_first = follows_now.newest_is_first;
            generation = generation' ∙ follows_now.generation ∙ ap (λ n. n + 1) (sym generation);
            low = low' ∙ follows_now.low ∙ sym committed;
            goes_on = ending' ∙ follows_now.goes_on;
            turn = turn;
            stands = here (log.Stands new [] []) number file start (log_file new.generation) (ap log_file generation') stand;
          };
          writer = elsewhere (WriterStands store.writer after held) number file start (checkpoint_file (store.sealed + 1)) (checkpoint_is_no_log (store.sealed + 1) next.generation)
              (writer_kept store.writer store after held held.found held.staged (start (checkpoint_file (store.sealed + 1))) refl same (λ has. tt) (λ phase under. still_follows phase store.next next new is under) stands.kept.writer);
        };
        of_history = record {
          restores = stands.of_history.restores;
          next = subst (λ t. IsNextOf h t (commands_in held.staged)) (sym committed) stands.of_history.next;
          next_log = subst (λ n. IsLogOf h n []) (sym low') (subst (λ o. NextLogIsOf h o held.found.second (low_after store.log o)) is stands.of_history.next_log);
          capture = subst (MayCapture h store.writer held.sections) (sym committed) stands.of_history.capture;
        };
      }

pub next_steps_on : NextStepsOn
next_steps_on h store held next start file stands is from stand =
    let follows = follows_now h store held next start file stands is in
    let turn : IsTurn HeaderWritten store.log = subst (λ p. IsTurn p store.log) from follows.turn in
    next_moved h store held next start file stands is store.log (log_after Header next) refl refl refl stands.kept.ready (λ batches staged f s. s) refl refl refl turn stand

pub next_is_ready : NextIsReady
next_is_ready h store held next ending start file stands is from stand ends told =
    let phase : ending.phase ≡ Staged = ap (λ (l : LogState). l.phase) ends in
    let generation : ending.generation ≡ store.log.generation = ap (λ (l : LogState). l.generation) ends in
    let named : ending.ending ≡ Some (ending.generation + 1) = ap (λ (l : LogState). l.ending) ends ∙ ap (λ n. Some (n + 1)) (sym generation) in
    next_moved h store held next start file stands is ending (log_after HeaderWritten next) generation (ap (λ (l : LogState). l.low) ends) (ap (λ (l : LogState). l.committed) ends)
    (subst log.IsReady (sym phase) tt) told refl refl refl (is_not_idle ending.phase Staged phase (λ e. cc), named) stand

-- ---- it is the newest

-- whatever a stop may leave of a log with its content
abbrev pub StopsOfLogs : Type 0
StopsOfLogs = (newest : LogState) (batches : List Batch) (staged : List Batch) (file : File) (content : List ℕ) → log.Stands newest batches staged file → log.IsReady newest.phase
    → MayLeave file content → log.MayRead newest.phase newest.ending newest batches staged content

-- behind an end frame nothing is staged
none_staged : (newest : LogState) (next : ℕ) (batches staged : List Batch) (file : File) → newest.phase ≡ log_opened → newest.ending ≡ Some next → log.Stands newest batches staged file → staged ≡ []
none_staged newest next batches staged file opened ending stands =
    let at : log.AtPhase log_opened newest batches staged file = subst (λ p. log.AtPhase p newest batches staged file) opened stands.stands in
    let has : log.HasNext (Some next) newest staged = subst (λ e. log.HasNext e newest staged) ending at.0 in
    has.0.none_staged

ended : StopsOfLogs → (newest : LogState) (batches : List Batch) (file : File) → newest.phase ≡ Idle → newest.ending ≡ Some (newest.generation + 1) → log.Stands newest batches [] file
    → HasEnded newest.generation newest.low batches file
ended stops newest batches file idle ending stands content left =
    ended_in newest batches content
    (subst (λ e. log.MayRead Idle e newest batches [] content) ending
    (subst (λ p. log.MayRead p newest.ending newest batches [] content) idle (stops newest batches [] file content stands (subst log.IsReady (sym idle) tt) left)))

logs_ended : (k : Checkpoint) (first : List Batch) (second : Option (List Batch)) (old next : LogState) (staged : List Batch) (start : Files) (file : File) → second ≡ None → next.generation ≡ old.generation + 1 → next.low ≡ old.committed
    → log.Stands next [] [] (start (log_file next.generation)) → staged ≡ [] → HasEnded old.generation old.low (newest_batches first second) file
    → LogsStand k first second old staged start → LogsStand k first (Some []) next staged (with_file (log_file old.generation) file start)
logs_ended k first None old next staged start file none_ generation low stands nothing ends logs =
    let number = log_file old.generation in
    let here_ : next.generation ≡ k.generation + 1 = generation ∙ ap (λ n. n + 1) logs.0 in (
      here_,
      low ∙ logs.2.knows.committed ∙ ap (λ n. n + length (commands_in first)) logs.1,
      subst (λ l. log.Stands next [] l (with_file number file start (log_file (k.generation + 1)))) (sym nothing)
          (elsewhere (log.Stands next [] []) number file start (log_file (k.generation + 1)) (log_before old.generation (k.generation + 1) (ap (λ n. n + 1) (sym logs.0)))
          (subst (λ n. log.Stands next [] [] (start (log_file n))) here_ stands)),
      here (HasEnded k.generation k.low first) number file start (log_file k.generation) (ap log_file (sym logs.0))
          (subst (λ n. HasEnded n k.low first file) logs.0 (subst (λ n. HasEnded old.generation n first file) logs.1 ends)),
    )
logs_ended k first (Some second) old next staged start file none_ generation low stands nothing ends logs = absurd (none_is_some second (sym none_))

now_newest : (phase : CheckpointPhase) (next : Option LogState) → IsUnderWay phase next → IsUnderWay phase None
now_newest checkpoint_phase.HeaderSynced next under = refl
now_newest checkpoint_phase.Opened next under = refl
now_newest checkpoint_phase.Idle next under = under
now_newest checkpoint_phase.Sealed next under = under
now_newest checkpoint_phase.Gate next under = tt
now_newest checkpoint_phase.GateWritten next under = tt
now_newest checkpoint_phase.GateSynced next under = tt
now_newest checkpoint_phase.Ready next under = tt
now_newest checkpoint_phase.Staged next under = tt
now_newest checkpoint_phase.Header next under = tt
now_newest checkpoint_phase.HeaderWritten next under = tt

-- the second log has no batch
first_only : (first : List Batch) (second : Option (List Batch)) → second ≡ None → logged_by first second ≡ logged_by first (Some [])
first_only first None none_ = sym (append-nil (commands_in first))
first_only first (Some second) none_ = absurd (none_is_some second (sym none_))

pub log_ends : StopsOfLogs → LogEnds
log_ends stops h store held next start file stands is idle opened stand =
    let k = held.found.checkpoint in
    let first = held.found.first in
    let second = held.found.second in
    let number = log_file store.log.generation in
    let follows = follows_now h store held next start file stands is in
    let turn : IsTurn Idle store.log = subst (λ p. IsTurn p store.log) idle follows.turn in
    let was = newest_stands k first second store.log held.staged start stands.kept.logs in
    let nothing : held.staged ≡ [] = none_staged store.log (store.log.generation + 1) (newest_batches first second) held.staged was.0 opened turn.1 was.1 in
    let batches : newest_batches first second ++ held.staged ≡ newest_batches first second = ap (λ l. newest_batches first second ++ l) nothing ∙ append-nil (newest_batches first second) in
    let ends : HasEnded store.log.generation store.log.low (newest_batches first second) file =
    ended stops (log_after log_opened store.log) (newest_batches first second) file refl turn.1 (subst (λ l. log.Stands (log_after log_opened store.log) l [] file) batches stand) in
    let committed : next.committed ≡ store.log.committed = omega (arith, follows.stands.knows.committed, follows.low) in
    let found : Opened = record held.found { second = Some [] } in
    let new : StoreState = record store { log = next; next = None } in
    record {
      kept = record {
        sealed = stands.kept.sealed;
        checkpoint = elsewhere (IsSealedIn k) number file start (checkpoint_file store.sealed) (checkpoint_is_no_log store.sealed store.log.generation) stands.kept.checkpoint;
        older = stands.kept.older;
        ready = subst log.IsReady (sym idle) tt;
        logs = logs_ended k first second store.log next held.staged start file follows.newest_is_first follows.generation follows.low follows.stands nothing ends stands.kept.logs;
        next = follows.goes_on;
        writer = elsewhere (WriterStands store.writer new (record held { found = found })) number file start (checkpoint_file (store.sealed + 1)) (checkpoint_is_no_log (store.sealed + 1) store.log.generation)
            (writer_kept store.writer store new held found held.staged (start (checkpoint_file (store.sealed + 1))) refl (ap (low_after store.log) (sym is)) (λ has. tt) (λ phase under. now_newest phase store.next under) stands.kept.writer);
      };
      of_history = record {
        restores = subst (Restores h k.stripes k.sections k.low) (first_only first second follows.newest_is_first) stands.of_history.restores;
        next = subst (λ t. IsNextOf h t (commands_in held.staged)) (sym committed) stands.of_history.next;
        next_log = subst (λ o. NextLogIsOf h o second (low_after store.log o)) is stands.of_history.next_log;
        capture = subst (MayCapture h store.writer held.sections) (sym committed) stands.of_history.capture;
      };
    }
