-- How a store that was opened stands, also once its history has grown.
use Rattle.std.proofs.Common.{◌≡◌, ℕ, ◌+◌, ◌<◌, ◌≤◌, max, List, [], length, Option, None, Some, refl, sym, ap₂, subst, arith}
use Rattle.std.proofs.lemmas.List.{length-append}
use Rattle.disk_model.specs.Files.{Contents, Files, MayLeave, at_rest}
use Rattle.map_types.specs.declared.commands.Command.{Command}
use Rattle.map_model.specs.Histories.{History}
use Rattle.map_model.specs.Maps.{Map}
use Rattle.disk_model.proofs.FileLemmas.{rest_leaves}
use Rattle.store_layout.specs.Checkpoints.{Section, Checkpoint, checkpoint_file}
use Rattle.store_layout.specs.Laws.{LogsAreOpened, LogsStay, MarksWiden, NextStays, PartsStay, RestoringStays}
use Rattle.store_layout.specs.Logs.{Batch, commands_in, log_file}
use Rattle.store_layout.specs.Opening.{AreLogs, IsEndedIn, Opened, history_of, log_of, logged_by, map_of, newest_by, prefix_of}
use Rattle.store_layout.specs.OpeningLaws.{FoundRestores}
use Rattle.store_layout.specs.SectionsAndLog.{AreMarks, Restores, grown, reach}
use Rattle.checkpoint_file.specs.States.{CheckpointState}
use Rattle.gate_log.specs.LogStates as log
use Rattle.gate_log.specs.States.{LogState, IsResting}
use Rattle.store_invariant.specs.Laws.{OpenedStands, StandingStays}
use Rattle.store_invariant.specs.States.{low_after}
use Rattle.store_invariant.specs.StoreStates.{LogsStand, MayCapture, NextLogIsOf}
use Rattle.store_invariant.proofs.LogSteps.{committed_is}
use Rattle.store_invariant.proofs.Places.{checkpoint_low, log_low}

-- ---- a history that grows

longer : (h : History) (more : List Command) → reach h ≤ reach (grown h more)
longer h more = omega (arith, length-append h.commands more)

above_first : (low high first other : ℕ) (sections : List Section) → MarksWiden → low ≡ max first other → AreMarks low high sections → AreMarks first high sections
above_first low high first other sections widen is marks = widen low high first high sections (omega (arith, is)) (omega arith) marks

capture_stays : (h : History) (w : Option CheckpointState) (sections : List Section) (committed : ℕ) (more : List Command) → PartsStay → MarksWiden
    → MayCapture h w sections committed → MayCapture (grown h more) w sections committed
capture_stays h None sections committed more parts widen capture = tt
capture_stays h (Some w) sections committed more parts widen capture = record {
  parts = parts h w.stripes 0 sections more (above_first (max h.first w.low) (reach h) h.first w.low sections widen refl capture.marks) capture.parts;
  marks = widen (max h.first w.low) (reach h) (max h.first w.low) (reach (grown h more)) sections (omega arith) (longer h more) capture.marks;
  reached = capture.reached;
}

next_log_stays : (h : History) (next : Option LogState) (second : Option (List Batch)) (low : ℕ) (more : List Command) → LogsStay → NextLogIsOf h next second low → NextLogIsOf (grown h more) next second low
next_log_stays h None None low more stay is = tt
next_log_stays h None (Some second) low more stay is = stay h low (commands_in second) more is
next_log_stays h (Some next) second low more stay is = stay h low [] more is

pub standing_stays : RestoringStays → NextStays → LogsStay → PartsStay → MarksWiden → StandingStays
standing_stays restoring next_ logs parts widen h store held files more stands = record {
  kept = stands.kept;
  of_history = record {
    restores = restoring h held.found.checkpoint.stripes held.found.checkpoint.low held.found.checkpoint.sections (log_of held.found) more stands.of_history.restores;
    next = next_ h store.log.committed (commands_in held.staged) more stands.of_history.next;
    next_log = next_log_stays h store.next held.found.second (low_after store.log store.next) more logs stands.of_history.next_log;
    capture = capture_stays h store.writer held.sections store.log.committed more parts widen stands.of_history.capture;
  };
}

-- ---- what is opened

ready_at_rest : (newest : LogState) → IsResting newest → log.IsReady newest.phase
ready_at_rest newest rests = subst log.IsReady (sym rests.0) tt

logs_opened : (contents : Contents) (newest : LogState) (files : Files) → ((n : ℕ) → n < 4 → files n ≡ at_rest (contents n)) → (k : Checkpoint) (first : List Batch) (second : Option (List Batch)) → AreLogs contents k first second
    → newest.generation ≡ (newest_by k first second).generation → newest.low ≡ (newest_by k first second).low
    → log.Stands newest (newest_by k first second).batches [] (at_rest (contents (log_file newest.generation))) → LogsStand k first second newest [] files
logs_opened contents newest files at k first None are generation low stands = (
  generation,
  low,
  subst (λ f. log.Stands newest first [] f) (sym (at (log_file k.generation) (log_low k.generation))) (subst (λ g. log.Stands newest first [] (at_rest (contents (log_file g)))) generation stands),
)
logs_opened contents newest files at k first (Some second) are generation low stands = (
  generation,
  low,
  subst (λ f. log.Stands newest second [] f) (sym (at (log_file (k.generation + 1)) (log_low (k.generation + 1))))
      (subst (λ g. log.Stands newest second [] (at_rest (contents (log_file g)))) generation stands),
  λ content left. subst (IsEndedIn k.generation k.low first (k.generation + 1))
      (sym (rest_leaves (contents (log_file k.generation)) content (subst (λ f. MayLeave f content) (at (log_file k.generation) (log_low k.generation)) left))) are.0,
)

-- a second log that is found ends where the history is known from
next_log_opened : (h : History) (k : Checkpoint) (first : List Batch) (second : Option (List Batch)) (low : ℕ) → LogsAreOpened → h.first ≡ k.low + length (logged_by first second)
    → low ≡ (newest_by k first second).low → NextLogIsOf h None second low
next_log_opened h k first None low opened from is = tt
next_log_opened h k first (Some second) low opened from is = opened h low (commands_in second) (omega (arith, from, is, length-append (commands_in first) (commands_in second)))

same_history : (h : History) (found : Opened) → h.first ≡ prefix_of found → h.opening ≡ map_of found → grown (history_of found) h.commands ≡ h
same_history h found first opening =
    let of : ℕ → Map → History = λ p m. record { first = p; opening = m; commands = h.commands } in
    ap₂ of (sym first) (sym opening)

pub opened_stands : FoundRestores → RestoringStays → LogsAreOpened → OpenedStands
opened_stands restores stay opened h found contents newest files holds at first opening generation low rests stands =
    let k = found.checkpoint in
    let logs = logs_opened contents newest files at k found.first found.second holds.logs generation low stands in
    let committed : newest.committed ≡ prefix_of found = committed_is k found.first found.second newest [] files logs in
    record {
      kept = record {
        sealed = refl;
        checkpoint = record { content = contents (checkpoint_file k.generation); settled = at (checkpoint_file k.generation) (checkpoint_low k.generation); checkpoint = holds.checkpoint };
        older = holds.other;
        ready = ready_at_rest newest rests;
        logs = logs;
        next = rests.1;
        writer = (at (checkpoint_file (k.generation + 1)) (checkpoint_low (k.generation + 1)), refl);
      };
      of_history = record {
        restores = subst (λ x. Restores x k.stripes k.sections k.low (log_of found)) (same_history h found first opening)
            (stay (history_of found) k.stripes k.low k.sections (log_of found) h.commands (restores contents found holds));
        next = record { front = []; back = h.commands; commands = refl; place = omega (arith, first, committed) };
        next_log = next_log_opened h k found.first found.second newest.low opened first low;
        capture = tt;
      };
    }
