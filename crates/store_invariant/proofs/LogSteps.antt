-- How a store stands after a step of its newest log.
use Rattle.std.proofs.Common.{◌≡◌, ◌≢◌, ℕ, ◌+◌, ◌≤◌, List, [], ◌++◌, length, Option, None, Some, refl, sym, ◌∙◌, ap, subst, arith, append_assoc, length-append}
use Rattle.disk_model.specs.Files.{File, Files, with_file}
use Rattle.map_types.specs.declared.commands.Command.{Command}
use Rattle.map_model.specs.Histories.{History}
use Rattle.store_layout.specs.Checkpoints.{Section, Checkpoint, checkpoint_file}
use Rattle.store_layout.specs.Laws.{LogsGoOn, RestoringGoesOn}
use Rattle.store_layout.specs.Logs.{Batch, commands_in, log_file}
use Rattle.store_layout.specs.Opening.{Opened, log_of, logged_by}
use Rattle.store_layout.specs.SectionsAndLog.{IsLogOf, IsNextOf, Restores}
use Rattle.store_layout.specs.declared.checkpoint_phase.CheckpointPhase.{CheckpointPhase}
use Rattle.store_layout.specs.declared.checkpoint_phase.CheckpointPhase.TheVariants as checkpoint_phase
use Rattle.checkpoint_file.specs.States.{CheckpointState}
use Rattle.gate_log.specs.LogSteps.{committed_after, staged_after}
use Rattle.gate_log.specs.LogStates as log
use Rattle.store_layout.specs.declared.log_phase.Phase.{Phase}
use Rattle.store_layout.specs.declared.log_phase.Phase.TheVariants.{Idle, Header, HeaderWritten, Staged, Written, Synced, Opened as log_opened}
use Rattle.gate_log.specs.States.{LogState, log_after}
use Rattle.store_invariant.specs.Laws.{EndStepsOn, LogStays, LogStepsOn, stepped}
use Rattle.store_invariant.specs.States.{StoreState, Held, low_after, newest_batches, with_batches}
use Rattle.store_invariant.specs.StoreStates.{HasEnded, HasNextLog, IsReached, IsSealedIn, IsTurn, IsUnderWay, LogsStand, MayCapture, NextLogIsOf, NextStands, Stands, WriterStands}
use Rattle.store_invariant.proofs.Contents.{commands_append}
use Rattle.store_invariant.proofs.Places.{checkpoint_is_no_log, elsewhere, here, log_before, next_log}

-- ---- parts of a standing store

pub none_is_some : {X : Type 0} (x : X) → None ≡ Some x → ⊥
none_is_some x e = cc

-- how many commands are committed
pub committed_is : (k : Checkpoint) (first : List Batch) (second : Option (List Batch)) (newest : LogState) (staged : List Batch) (files : Files) → LogsStand k first second newest staged files
    → newest.committed ≡ k.low + length (logged_by first second)
committed_is k first None newest staged files logs = omega (arith, logs.2.knows.committed, logs.1)
committed_is k first (Some second) newest staged files logs = omega (arith, logs.2.knows.committed, logs.1, length-append (commands_in first) (commands_in second))

-- the newest log's file
pub newest_stands : (k : Checkpoint) (first : List Batch) (second : Option (List Batch)) (newest : LogState) (staged : List Batch) (files : Files) → LogsStand k first second newest staged files
    → (file : File) × log.Stands newest (newest_batches first second) staged file
newest_stands k first None newest staged files logs = (files (log_file k.generation), logs.2)
newest_stands k first (Some second) newest staged files logs = (files (log_file (k.generation + 1)), logs.2)

-- the marks stay committed where more commands are
pub reached_up : (phase : CheckpointPhase) (sections : List Section) (a b : ℕ) → a ≤ b → IsReached phase sections a → IsReached phase sections b
reached_up checkpoint_phase.Header sections a b up is = omega (arith, up, is)
reached_up checkpoint_phase.HeaderWritten sections a b up is = omega (arith, up, is)
reached_up checkpoint_phase.HeaderSynced sections a b up is = omega (arith, up, is)
reached_up checkpoint_phase.Opened sections a b up is = omega (arith, up, is)
reached_up checkpoint_phase.Idle sections a b up is = tt
reached_up checkpoint_phase.Gate sections a b up is = tt
reached_up checkpoint_phase.GateWritten sections a b up is = tt
reached_up checkpoint_phase.GateSynced sections a b up is = tt
reached_up checkpoint_phase.Ready sections a b up is = tt
reached_up checkpoint_phase.Staged sections a b up is = tt
reached_up checkpoint_phase.Sealed sections a b up is = tt

pub capture_up : (h : History) (w : Option CheckpointState) (sections : List Section) (a b : ℕ) → a ≤ b → MayCapture h w sections a → MayCapture h w sections b
capture_up h None sections a b up capture = tt
capture_up h (Some w) sections a b up capture = record { parts = capture.parts; marks = capture.marks; reached = reached_up w.phase sections a b up capture.reached }

low_kept : (next : Option LogState) (old newest : LogState) → newest.low ≡ old.low → low_after newest next ≡ low_after old next
low_kept None old newest low = low
low_kept (Some next) old newest low = refl

-- the checkpoint that is written, where its log stays or becomes the newest
pub writer_kept : (w : Option CheckpointState) (old new : StoreState) (held : Held) (found : Opened) (staged : List Batch) (file : File) → new.sealed ≡ old.sealed
    → low_after new.log new.next ≡ low_after old.log old.next → (HasNextLog old.next held.found.second → HasNextLog new.next found.second)
    → ((phase : CheckpointPhase) → IsUnderWay phase old.next → IsUnderWay phase new.next) → WriterStands w old held file
    → WriterStands w new (record held { found = found; staged = staged }) file
writer_kept None old new held found staged file sealed low has under writes = writes
writer_kept (Some w) old new held found staged file sealed low has under writes = record {
  generation = writes.generation ∙ ap (λ n. n + 1) (sym sealed);
  low = writes.low ∙ sym low;
  has_log = has writes.has_log;
  under_way = under w.phase writes.under_way;
  stands = writes.stands;
}

-- ---- the newest log has moved, and has the same batches

-- while its end frame is committed
turn_kept : (phase : Phase) (old newest : LogState) → old.phase ≢ Idle → newest.phase ≢ Idle → newest.generation ≡ old.generation → newest.ending ≡ old.ending → IsTurn phase old → IsTurn phase newest
turn_kept Header old newest was is generation ending turn = absurd (was turn.0)
turn_kept HeaderWritten old newest was is generation ending turn = absurd (was turn.0)
turn_kept Idle old newest was is generation ending turn = (is, ending ∙ turn.1 ∙ ap (λ n. Some (n + 1)) (sym generation))
turn_kept Staged old newest was is generation ending turn = absurd turn
turn_kept Written old newest was is generation ending turn = absurd turn
turn_kept Synced old newest was is generation ending turn = absurd turn
turn_kept log_opened old newest was is generation ending turn = absurd turn

module _ (old newest : LogState) (start : Files) (file : File) (generation : newest.generation ≡ old.generation) where
  next_kept : (next : Option LogState) (second : Option (List Batch)) → newest.committed ≡ old.committed → newest.ending ≡ old.ending
      → ((phase : Phase) → IsTurn phase old → IsTurn phase newest) → NextStands next old second start → NextStands next newest second (with_file (log_file old.generation) file start)
  next_kept None second committed ending turn stands = ending ∙ stands
  next_kept (Some next) second committed ending turn stands = record {
    newest_is_first = stands.newest_is_first;
    generation = stands.generation ∙ ap (λ n. n + 1) (sym generation);
    low = stands.low ∙ sym committed;
    goes_on = stands.goes_on;
    turn = turn next.phase stands.turn;
    stands = elsewhere (log.Stands next [] []) (log_file old.generation) file start (log_file next.generation) (log_before old.generation next.generation stands.generation) stands.stands;
  }

  logs_kept : (k : Checkpoint) (first : List Batch) (second : Option (List Batch)) (staged : List Batch) → newest.low ≡ old.low → LogsStand k first second old staged start
      → log.Stands newest (newest_batches first second) staged file → LogsStand k first second newest staged (with_file (log_file old.generation) file start)
  logs_kept k first None staged low logs stands =
      (generation ∙ logs.0, low ∙ logs.1, here (log.Stands newest first staged) (log_file old.generation) file start (log_file k.generation) (ap log_file (sym logs.0)) stands)
  logs_kept k first (Some second) staged low logs stands = (
    generation ∙ logs.0,
    low ∙ logs.1,
    here (log.Stands newest second staged) (log_file old.generation) file start (log_file (k.generation + 1)) (ap log_file (sym logs.0)) stands,
    elsewhere (HasEnded k.generation k.low first) (log_file old.generation) file start (log_file k.generation) (next_log k.generation old.generation logs.0) logs.3,
  )

module _ (h : History) (store : StoreState) (held : Held) (start : Files) (file : File) (stands : Stands h store held start) where
  log_moved : (newest : LogState) → newest.generation ≡ store.log.generation → newest.low ≡ store.log.low → newest.committed ≡ store.log.committed → newest.ending ≡ store.log.ending
      → log.IsReady newest.phase → ((phase : Phase) → IsTurn phase store.log → IsTurn phase newest)
      → log.Stands newest (newest_batches held.found.first held.found.second) held.staged file
      → Stands h (record store { log = newest }) held (with_file (log_file store.log.generation) file start)
  log_moved newest generation low committed ending ready turn is =
      let k = held.found.checkpoint in
      let number = log_file store.log.generation in
      let same : low_after newest store.next ≡ low_after store.log store.next = low_kept store.next store.log newest low in
      record {
        kept = record {
          sealed = stands.kept.sealed;
          checkpoint = elsewhere (IsSealedIn k) number file start (checkpoint_file store.sealed) (checkpoint_is_no_log store.sealed store.log.generation) stands.kept.checkpoint;
          older = stands.kept.older;
          ready = ready;
          logs = logs_kept store.log newest start file generation k held.found.first held.found.second held.staged low stands.kept.logs is;
          next = next_kept store.log newest start file generation store.next held.found.second committed ending turn stands.kept.next;
          writer = elsewhere (WriterStands store.writer (record store { log = newest }) held) number file start (checkpoint_file (store.sealed + 1))
              (checkpoint_is_no_log (store.sealed + 1) store.log.generation)
              (writer_kept store.writer store (record store { log = newest }) held held.found held.staged (start (checkpoint_file (store.sealed + 1))) refl same (λ has. has) (λ phase under. under) stands.kept.writer);
        };
        of_history = record {
          restores = stands.of_history.restores;
          next = subst (λ t. IsNextOf h t (commands_in held.staged)) (sym committed) stands.of_history.next;
          next_log = subst (NextLogIsOf h store.next held.found.second) (sym same) stands.of_history.next_log;
          capture = subst (MayCapture h store.writer held.sections) (sym committed) stands.of_history.capture;
        };
      }

  -- a step before the last
  log_stepped : (phase : Phase) → store.log.phase ≢ Idle → phase ≢ Idle → log.IsReady phase
      → log.Stands (record store.log { phase = phase }) (newest_batches held.found.first held.found.second) held.staged file
      → Stands h (record store { log = record store.log { phase = phase } }) held (with_file (log_file store.log.generation) file start)
  log_stepped phase was is ready stand =
      log_moved (record store.log { phase = phase }) refl refl refl refl ready (λ turning turn. turn_kept turning store.log (record store.log { phase = phase }) was is refl refl turn) stand

pub is_not_idle : (phase from : Phase) → phase ≡ from → from ≢ Idle → phase ≢ Idle
is_not_idle phase from is other idle = other (sym is ∙ idle)

not_ready : (phase from : Phase) → phase ≡ from → log.IsReady phase → log.IsReady from
not_ready phase from is ready = subst log.IsReady is ready

pub log_stays : LogStays
log_stays h store held start file stands stand = log_moved h store held start file stands store.log refl refl refl refl stands.kept.ready (λ phase turn. turn) stand

pub end_steps_on : EndStepsOn
end_steps_on h store held next start file stands follows idle other is = by_phase store.log.phase refl is
  where
    by_phase : (phase : Phase) → store.log.phase ≡ phase → log.Stands (log_after phase store.log) (newest_batches held.found.first held.found.second) held.staged file
        → Stands h (record store { log = log_after phase store.log }) held (with_file (log_file store.log.generation) file start)
    by_phase Idle from stand = log_moved h store held start file stands store.log refl refl refl refl stands.kept.ready (λ phase turn. turn) stand
    by_phase Header from stand = absurd (not_ready store.log.phase Header from stands.kept.ready)
    by_phase HeaderWritten from stand = absurd (not_ready store.log.phase HeaderWritten from stands.kept.ready)
    by_phase Staged from stand = log_stepped h store held start file stands Written (is_not_idle store.log.phase Staged from (λ e. cc)) (λ e. cc) tt stand
    by_phase Written from stand = log_stepped h store held start file stands Synced (is_not_idle store.log.phase Written from (λ e. cc)) (λ e. cc) tt stand
    by_phase Synced from stand = log_stepped h store held start file stands log_opened (is_not_idle store.log.phase Synced from (λ e. cc)) (λ e. cc) tt stand
    by_phase log_opened from stand = absurd (other from)

-- ---- the staged batch is committed

-- the batch that is staged has as many commands as the log counts
staged_counted : (newest : LogState) (batches staged : List Batch) (file : File) → newest.phase ≡ log_opened → newest.ending ≡ None → log.Stands newest batches staged file
    → newest.count ≡ length (commands_in staged)
staged_counted newest batches staged file opened on stands =
    let at : log.AtPhase log_opened newest batches staged file = subst (λ p. log.AtPhase p newest batches staged file) opened stands.stands in
    let has : log.HasNext None newest staged = subst (λ e. log.HasNext e newest staged) on at.0 in
    omega (arith, has.2.count, ap (λ s. length (commands_in s)) has.1, length-append has.0.commands [])

-- no log follows one that commits a batch
no_turn : (phase : Phase) (newest : LogState) → newest.phase ≢ Idle → newest.ending ≡ None → IsTurn phase newest → ⊥
no_turn Header newest other on turn = other turn.0
no_turn HeaderWritten newest other on turn = other turn.0
no_turn Idle newest other on turn = none_is_some (newest.generation + 1) (sym on ∙ turn.1)
no_turn Staged newest other on turn = turn
no_turn Written newest other on turn = turn
no_turn Synced newest other on turn = turn
no_turn log_opened newest other on turn = turn

next_committed : (next : Option LogState) (old newest : LogState) (second second' : Option (List Batch)) (start files : Files) → old.phase ≢ Idle → old.ending ≡ None → newest.ending ≡ old.ending
    → NextStands next old second start → NextStands next newest second' files
next_committed None old newest second second' start files other on ending stands = ending ∙ stands
next_committed (Some next) old newest second second' start files other on ending stands = absurd (no_turn next.phase old other on stands.turn)

abbrev opened_with : Checkpoint → List Batch → Option (List Batch) → Opened
opened_with k first second = record { checkpoint = k; first = first; second = second }

has_log_after : (next : Option LogState) (k : Checkpoint) (first : List Batch) (second : Option (List Batch)) (staged : List Batch) → HasNextLog next second → HasNextLog next (with_batches staged (opened_with k first second)).second
has_log_after None k first None staged has = has
has_log_after None k first (Some second) staged has = tt
has_log_after (Some next) k first second staged has = tt

same_checkpoint : (k : Checkpoint) (first : List Batch) (second : Option (List Batch)) (staged : List Batch) → (with_batches staged (opened_with k first second)).checkpoint ≡ k
same_checkpoint k first None staged = refl
same_checkpoint k first (Some second) staged = refl

log_appended : (k : Checkpoint) (first : List Batch) (second : Option (List Batch)) (staged : List Batch) → log_of (with_batches staged (opened_with k first second)) ≡ logged_by first second ++ commands_in staged
log_appended k first None staged = commands_append first staged
log_appended k first (Some second) staged = ap (λ l. commands_in first ++ l) (commands_append second staged) ∙ sym (append_assoc (commands_in first) (commands_in second) (commands_in staged))

logs_committed : (old newest : LogState) (start : Files) (file : File) (k : Checkpoint) (first : List Batch) (second : Option (List Batch)) (staged : List Batch) → newest.generation ≡ old.generation → newest.low ≡ old.low
    → LogsStand k first second old staged start → log.Stands newest (newest_batches first second ++ staged) [] file
    → LogsStand k (with_batches staged (opened_with k first second)).first (with_batches staged (opened_with k first second)).second newest [] (with_file (log_file old.generation) file start)
logs_committed old newest start file k first None staged generation low logs stands =
    (generation ∙ logs.0, low ∙ logs.1, here (log.Stands newest (first ++ staged) []) (log_file old.generation) file start (log_file k.generation) (ap log_file (sym logs.0)) stands)
logs_committed old newest start file k first (Some second) staged generation low logs stands = (
  generation ∙ logs.0,
  low ∙ logs.1,
  here (log.Stands newest (second ++ staged) []) (log_file old.generation) file start (log_file (k.generation + 1)) (ap log_file (sym logs.0)) stands,
  elsewhere (HasEnded k.generation k.low first) (log_file old.generation) file start (log_file k.generation) (next_log k.generation old.generation logs.0) logs.3,
)

next_log_committed : (h : History) (next : Option LogState) (k : Checkpoint) (first : List Batch) (second : Option (List Batch)) (old newest : LogState) (staged : List Batch) (files : Files) → LogsGoOn → newest.low ≡ old.low
    → LogsStand k first second old staged files → IsNextOf h old.committed (commands_in staged) → NextLogIsOf h next second (low_after old next)
    → NextLogIsOf h next (with_batches staged (opened_with k first second)).second (low_after newest next)
next_log_committed h None k first None old newest staged files go_on low logs comes is = tt
next_log_committed h None k first (Some second) old newest staged files go_on low logs comes is =
    subst (λ n. IsLogOf h n (commands_in (second ++ staged))) (sym low) (subst (IsLogOf h old.low) (sym (commands_append second staged))
    (go_on h old.low (commands_in second) (commands_in staged) is (subst (λ t. IsNextOf h t (commands_in staged)) logs.2.knows.committed comes)))
next_log_committed h (Some next) k first None old newest staged files go_on low logs comes is = is
next_log_committed h (Some next) k first (Some second) old newest staged files go_on low logs comes is = is

-- the history's next commands come behind these
next_behind : (h : History) (ticket count : ℕ) (new : List Command) → count ≡ length new → IsNextOf h ticket new → IsNextOf h (ticket + count) []
next_behind h ticket count new counted comes = record {
  front = comes.front ++ new;
  back = comes.back;
  commands = comes.commands ∙ sym (append_assoc comes.front new comes.back);
  place = omega (arith, comes.place, counted, length-append comes.front new);
}

module _ (restoring : RestoringGoesOn) (logs_go_on : LogsGoOn) (h : History) (store : StoreState) (held : Held) (start : Files) (file : File) (stands : Stands h store held start) where
  log_committed : store.log.phase ≡ log_opened → store.log.ending ≡ None
      → log.Stands (log_after log_opened store.log) (newest_batches held.found.first held.found.second ++ held.staged) [] file
      → Stands h (record store { log = log_after log_opened store.log }) (record held { found = with_batches held.staged held.found; staged = [] }) (with_file (log_file store.log.generation) file start)
  log_committed opened on is =
      let k = held.found.checkpoint in
      let first = held.found.first in
      let second = held.found.second in
      let newest = log_after log_opened store.log in
      let number = log_file store.log.generation in
      let after : Opened = with_batches held.staged (opened_with k first second) in
      let new : StoreState = record store { log = newest } in
      let other : store.log.phase ≢ Idle = is_not_idle store.log.phase log_opened opened (λ e. cc) in
      let was = newest_stands k first second store.log held.staged start stands.kept.logs in
      let counted : store.log.count ≡ length (commands_in held.staged) = staged_counted store.log (newest_batches first second) held.staged was.0 opened on was.1 in
      let same : low_after newest store.next ≡ low_after store.log store.next = low_kept store.next store.log newest refl in
      let checkpoint : after.checkpoint ≡ k = same_checkpoint k first second held.staged in
      record {
        kept = record {
          sealed = ap (λ (c : Checkpoint). c.generation) checkpoint ∙ stands.kept.sealed;
          checkpoint = subst (λ c. IsSealedIn c (with_file number file start (checkpoint_file store.sealed))) (sym checkpoint)
              (elsewhere (IsSealedIn k) number file start (checkpoint_file store.sealed) (checkpoint_is_no_log store.sealed store.log.generation) stands.kept.checkpoint);
          older = stands.kept.older;
          ready = tt;
          logs = subst (λ c. LogsStand c after.first after.second newest [] (with_file number file start)) (sym checkpoint)
              (logs_committed store.log newest start file k first second held.staged refl refl stands.kept.logs is);
          next = next_committed store.next store.log newest second after.second start (with_file number file start) other on refl stands.kept.next;
          writer = elsewhere (WriterStands store.writer new (record held { found = after; staged = [] })) number file start (checkpoint_file (store.sealed + 1)) (checkpoint_is_no_log (store.sealed + 1) store.log.generation)
              (writer_kept store.writer store new held after [] (start (checkpoint_file (store.sealed + 1))) refl same (has_log_after store.next k first second held.staged) (λ phase under. under) stands.kept.writer);
        };
        of_history = record {
          restores = subst (λ c. Restores h c.stripes c.sections c.low (log_of after)) (sym checkpoint) (subst (Restores h k.stripes k.sections k.low) (sym (log_appended k first second held.staged))
              (restoring h k.stripes k.low k.sections (logged_by first second) (commands_in held.staged) stands.of_history.restores
              (subst (λ t. IsNextOf h t (commands_in held.staged)) (committed_is k first second store.log held.staged start stands.kept.logs) stands.of_history.next)));
          next = next_behind h store.log.committed store.log.count (commands_in held.staged) counted stands.of_history.next;
          next_log = next_log_committed h store.next k first second store.log newest held.staged start logs_go_on refl stands.kept.logs stands.of_history.next stands.of_history.next_log;
          capture = capture_up h store.writer held.sections store.log.committed newest.committed (omega arith) stands.of_history.capture;
        };
      }

pub log_steps_on : RestoringGoesOn → LogsGoOn → LogStepsOn
log_steps_on restoring logs_go_on h store held start file stands on is = by_phase store.log.phase refl is
  where
    by_phase : (phase : Phase) → store.log.phase ≡ phase
        → log.Stands (log_after phase store.log) (committed_after phase (newest_batches held.found.first held.found.second) held.staged) (staged_after phase held.staged) file
        → Stands h (record store { log = log_after phase store.log }) (stepped phase held) (with_file (log_file store.log.generation) file start)
    by_phase Idle from stand = log_moved h store held start file stands store.log refl refl refl refl stands.kept.ready (λ phase turn. turn) stand
    by_phase Header from stand = absurd (not_ready store.log.phase Header from stands.kept.ready)
    by_phase HeaderWritten from stand = absurd (not_ready store.log.phase HeaderWritten from stands.kept.ready)
    by_phase Staged from stand = log_stepped h store held start file stands Written (is_not_idle store.log.phase Staged from (λ e. cc)) (λ e. cc) tt stand
    by_phase Written from stand = log_stepped h store held start file stands Synced (is_not_idle store.log.phase Written from (λ e. cc)) (λ e. cc) tt stand
    by_phase Synced from stand = log_stepped h store held start file stands log_opened (is_not_idle store.log.phase Synced from (λ e. cc)) (λ e. cc) tt stand
    by_phase log_opened from stand = log_committed restoring logs_go_on h store held start file stands from on stand
