-- How a store stands after a step of its checkpoint.
use Rattle.std.proofs.Common.{◌≡◌, ◌≢◌, ℕ, ◌+◌, ◌≤◌, max, Bool, true, false, List, [], ◌∷◌, ◌++◌, length, Option, None, Some, refl, sym, ◌∙◌, ap, subst, arith}
use Rattle.java_hash.proofs.StripeLaws.{some_stripe}
use Rattle.disk_model.specs.Files.{File, Files, at_rest, with_file}
use Rattle.map_model.specs.Histories.{History, fold_to}
use Rattle.map_model.specs.Parts.{part_of}
use Rattle.disk_model.proofs.FileLemmas.{with_other}
use Rattle.store_layout.specs.Checkpoints.{Section, Checkpoint, checkpoint_file, greatest_mark}
use Rattle.store_layout.specs.Laws.{LogsBegin, MarksGoOn, PartsAndLogRestore, PartsGoOn}
use Rattle.store_layout.specs.Logs.{Batch, commands_in, log_file, new_layout, new_version}
use Rattle.store_layout.specs.Opening.{IsOlder, checkpoint_layout, log_of}
use Rattle.store_layout.specs.OpeningLaws.{OlderCheckpoint}
use Rattle.store_layout.specs.Faults.{version_in}
use Rattle.store_layout.specs.SectionsAndLog.{AreMarks, AreParts, IsLogOf, reach}
use Rattle.store_layout.proofs.OwnLayouts.{own_of, checkpoint_in_own}
use Rattle.store_layout.proofs.Versions.{read_for}
use Rattle.checkpoint_file.specs.CheckpointStates as checkpoint
use Rattle.checkpoint_file.specs.States as checkpoint_states
use Rattle.checkpoint_file.specs.States.{CheckpointState, state_after}
use Rattle.store_layout.specs.declared.checkpoint_phase.CheckpointPhase.{CheckpointPhase}
use Rattle.store_layout.specs.declared.checkpoint_phase.CheckpointPhase.TheVariants as checkpoint_phase
use Rattle.gate_log.specs.LogStates as log
use Rattle.gate_log.specs.States.{LogState, begun}
use Rattle.store_invariant.specs.Laws.{CheckpointBegins, CheckpointIsSealed, RotationBegins, SealBegins, SectionIsGiven, WriterStepsOn}
use Rattle.store_invariant.specs.States.{StoreState, Held, low_after, next_batches}
use Rattle.store_invariant.specs.StoreStates.{Follows, HasEnded, HasNextLog, IsCapture, IsReached, IsSealedIn, IsUnderWay, LogsStand, MayCapture, NextLogIsOf, NextStands, Stands, WriterStands, Writes}
use Rattle.store_invariant.proofs.Contents.{marks_below}
use Rattle.store_invariant.proofs.LogSteps.{committed_is}
use Rattle.store_invariant.proofs.Places.{checkpoint_again, checkpoint_before, elsewhere, here, log_is_no_checkpoint, next_checkpoint}

-- ---- the files of the logs stay

module _ (number : ℕ) (start files : Files) (others : (n : ℕ) → n ≢ checkpoint_file number → files n ≡ start n) where
  log_same : (P : File → Type 0) (generation : ℕ) → P (start (log_file generation)) → P (files (log_file generation))
  log_same P generation p = subst P (sym (others (log_file generation) (log_is_no_checkpoint generation number))) p

  next_same : (next : Option LogState) (newest : LogState) (second : Option (List Batch)) → NextStands next newest second start → NextStands next newest second files
  next_same None newest second stands = stands
  next_same (Some next) newest second stands = record {
    newest_is_first = stands.newest_is_first;
    generation = stands.generation;
    low = stands.low;
    goes_on = stands.goes_on;
    turn = stands.turn;
    stands = log_same (log.Stands next [] []) next.generation stands.stands;
  }

  logs_same : (k : Checkpoint) (first : List Batch) (second : Option (List Batch)) (newest : LogState) (staged : List Batch) → LogsStand k first second newest staged start → LogsStand k first second newest staged files
  logs_same k first None newest staged logs = (logs.0, logs.1, log_same (log.Stands newest first staged) k.generation logs.2)
  logs_same k first (Some second) newest staged logs =
      (logs.0, logs.1, log_same (log.Stands newest second staged) (k.generation + 1) logs.2, log_same (HasEnded k.generation k.low first) k.generation logs.3)

  -- the next checkpoint's log is the only one once that is sealed
  logs_sealed : (k new : Checkpoint) (first : List Batch) (second : Option (List Batch)) (newest : LogState) (staged : List Batch) → HasNextLog None second → new.generation ≡ k.generation + 1 → new.low ≡ newest.low
      → LogsStand k first second newest staged start → LogsStand new (next_batches second) None newest staged files
  logs_sealed k new first None newest staged has generation low logs = absurd has
  logs_sealed k new first (Some second) newest staged has generation low logs =
      (logs.0 ∙ sym generation, sym low, log_same (log.Stands newest second staged) new.generation (subst (λ n. log.Stands newest second staged (start (log_file n))) (sym generation) logs.2))

-- ---- the checkpoint that is written goes on

module _ (h : History) (store : StoreState) (held : Held) (start : Files) (stands : Stands h store held start) where
  writer_moved : (next : Option LogState) (w : CheckpointState) (sections : List Section) (files : Files) → ((n : ℕ) → n ≢ checkpoint_file (store.sealed + 1) → files n ≡ start n)
      → NextStands next store.log held.found.second files → NextLogIsOf h next held.found.second (low_after store.log next)
      → w.generation ≡ store.sealed + 1 → w.low ≡ low_after store.log next → HasNextLog next held.found.second → IsUnderWay w.phase next
      → checkpoint.Stands w held.other sections (files (checkpoint_file (store.sealed + 1))) → IsCapture h w sections store.log.committed
      → Stands h (record store { next = next; writer = Some w }) (record held { sections = sections }) files
  writer_moved next w sections files others follows next_log generation low has under stand capture = record {
    kept = record {
      sealed = stands.kept.sealed;
      checkpoint = subst (IsSealedIn held.found.checkpoint) (sym (others (checkpoint_file store.sealed) (next_checkpoint store.sealed (store.sealed + 1) refl))) stands.kept.checkpoint;
      older = stands.kept.older;
      ready = stands.kept.ready;
      logs = logs_same (store.sealed + 1) start files others held.found.checkpoint held.found.first held.found.second store.log held.staged stands.kept.logs;
      next = follows;
      writer = record { generation = generation; low = low; has_log = has; under_way = under; stands = stand };
    };
    of_history = record { restores = stands.of_history.restores; next = stands.of_history.next; next_log = next_log; capture = capture };
  }

  -- the log that it goes with stays
  writer_stepped : (w : CheckpointState) (sections : List Section) (files : Files) → ((n : ℕ) → n ≢ checkpoint_file (store.sealed + 1) → files n ≡ start n) → w.generation ≡ store.sealed + 1
      → w.low ≡ low_after store.log store.next → HasNextLog store.next held.found.second → IsUnderWay w.phase store.next
      → checkpoint.Stands w held.other sections (files (checkpoint_file (store.sealed + 1))) → IsCapture h w sections store.log.committed
      → Stands h (record store { writer = Some w }) (record held { sections = sections }) files
  writer_stepped w sections files others generation low has under stand capture =
      writer_moved store.next w sections files others (next_same (store.sealed + 1) start files others store.next store.log held.found.second stands.kept.next) stands.of_history.next_log generation low has under stand capture

  writes_now : (w : CheckpointState) → store.writer ≡ Some w → Writes w store held (start (checkpoint_file (store.sealed + 1)))
  writes_now w is = subst (λ o. WriterStands o store held (start (checkpoint_file (store.sealed + 1)))) is stands.kept.writer

  captures_now : (w : CheckpointState) → store.writer ≡ Some w → IsCapture h w held.sections store.log.committed
  captures_now w is = subst (λ o. MayCapture h o held.sections store.log.committed) is stands.of_history.capture

-- ---- it is begun

under_way_first : (must_close : Bool) (next : Option LogState) → IsUnderWay (checkpoint_states.first_phase must_close) next
under_way_first true next = tt
under_way_first false next = tt

reached_first : (must_close : Bool) (sections : List Section) (committed : ℕ) → IsReached (checkpoint_states.first_phase must_close) sections committed
reached_first true sections committed = tt
reached_first false sections committed = tt

begun_captures : (h : History) (generation low stripes : ℕ) (must_close : Bool) (sections : List Section) (committed : ℕ) → sections ≡ []
    → IsCapture h (checkpoint_states.begun generation low stripes must_close) sections committed
begun_captures h generation low stripes must_close sections committed none_ =
    subst (λ l. IsCapture h (checkpoint_states.begun generation low stripes must_close) l committed) (sym none_) (record { parts = tt; marks = tt; reached = reached_first must_close [] committed })

begun_stands : (w : CheckpointState) (store : StoreState) (held : Held) (file : File) → WriterStands None store held file → checkpoint.Stands w held.other [] (at_rest held.other) → checkpoint.Stands w held.other held.sections file
begun_stands w store held file rests stand = subst (λ l. checkpoint.Stands w held.other l file) (sym rests.1) (subst (checkpoint.Stands w held.other []) (sym rests.0) stand)

-- a second log is there where the newest one has the next generation
second_there : (k : Checkpoint) (first : List Batch) (second : Option (List Batch)) (newest : LogState) (staged : List Batch) (files : Files) → newest.generation ≡ k.generation + 1 → LogsStand k first second newest staged files
    → HasNextLog None second
second_there k first None newest staged files generation logs = absurd (omega (arith, generation, logs.0))
second_there k first (Some second) newest staged files generation logs = tt

first_newest : (k : Checkpoint) (first : List Batch) (second : Option (List Batch)) (newest : LogState) (staged : List Batch) (files : Files) → newest.generation ≡ k.generation → LogsStand k first second newest staged files
    → second ≡ None
first_newest k first None newest staged files generation logs = refl
first_newest k first (Some second) newest staged files generation logs = absurd (omega (arith, generation, logs.0))

pub checkpoint_begins : CheckpointBegins
checkpoint_begins h store held files stripes must_close stands none_ alone generation stand =
    let w = checkpoint_states.begun (store.sealed + 1) store.log.low stripes must_close in
    let rests : WriterStands None store held (files (checkpoint_file (store.sealed + 1))) = subst (λ o. WriterStands o store held (files (checkpoint_file (store.sealed + 1)))) none_ stands.kept.writer in
    let has = second_there held.found.checkpoint held.found.first held.found.second store.log held.staged files (generation ∙ ap (λ n. n + 1) (sym stands.kept.sealed)) stands.kept.logs in
    writer_stepped h store held files stands w held.sections files (λ n other. refl) refl (ap (low_after store.log) (sym alone))
    (subst (λ o. HasNextLog o held.found.second) (sym alone) has) (under_way_first must_close store.next)
    (begun_stands w store held (files (checkpoint_file (store.sealed + 1))) rests stand)
    (begun_captures h (store.sealed + 1) store.log.low stripes must_close held.sections store.log.committed rests.1)

pub rotation_begins : LogsBegin → RotationBegins
rotation_begins logs_begin h store held files stripes must_close stands none_ alone generation resting header stand =
    let next = begun (store.sealed + 1) store.log.committed in
    let w = checkpoint_states.begun (store.sealed + 1) store.log.committed stripes must_close in
    let k = held.found.checkpoint in
    let rests : WriterStands None store held (files (checkpoint_file (store.sealed + 1))) = subst (λ o. WriterStands o store held (files (checkpoint_file (store.sealed + 1)))) none_ stands.kept.writer in
    let committed : store.log.committed ≡ k.low + length (log_of held.found) = committed_is k held.found.first held.found.second store.log held.staged files stands.kept.logs in
    let restores = stands.of_history.restores in
    let follows : Follows next store.log held.found.second files = record {
      newest_is_first = first_newest k held.found.first held.found.second store.log held.staged files (generation ∙ sym stands.kept.sealed) stands.kept.logs;
      generation = ap (λ n. n + 1) (sym generation);
      low = refl;
      goes_on = refl;
      turn = resting;
      stands = header (files (log_file (store.sealed + 1)));
    } in
    writer_moved h store held files stands (Some next) w held.sections files (λ n other. refl) follows
    (logs_begin h store.log.committed (omega (arith, restores.from_first, committed)) (omega (arith, restores.within, committed)))
    refl refl tt (under_way_first must_close (Some next)) (begun_stands w store held (files (checkpoint_file (store.sealed + 1))) rests stand)
    (begun_captures h (store.sealed + 1) store.log.committed stripes must_close held.sections store.log.committed rests.1)

-- ---- its sections

pub section_is_given : PartsGoOn → MarksGoOn → SectionIsGiven
section_is_given parts marks h store held files w entries section stands is map from to stand =
    let writes = writes_now h store held files stands w is in
    let capture = captures_now h store held files stands w is in
    let new = checkpoint_states.with_section section.mark entries w in
    let place : length held.sections ≡ 0 + length held.sections = omega arith in
    writer_stepped h store held files stands new (held.sections ++ section ∷ []) files (λ n other. refl) writes.generation writes.low writes.has_log tt
    (subst (λ g. checkpoint.Stands new held.other (held.sections ++ section ∷ []) (files (checkpoint_file g))) writes.generation stand)
    (record {
      parts = parts h w.stripes 0 held.sections section capture.parts (subst (λ n. section.map ≡ part_of w.stripes n (fold_to h section.mark)) place map);
      marks = marks (max h.first w.low) (reach h) held.sections section capture.marks from to;
      reached = tt;
    })

pub seal_begins : SealBegins
seal_begins h store held files w stands is reached stand =
    let writes = writes_now h store held files stands w is in
    let capture = captures_now h store held files stands w is in
    let new : CheckpointState = record w { phase = checkpoint_phase.Header } in
    writer_stepped h store held files stands new held.sections files (λ n other. refl) writes.generation writes.low writes.has_log tt
    (subst (λ g. checkpoint.Stands new held.other held.sections (files (checkpoint_file g))) writes.generation stand)
    (record { parts = capture.parts; marks = capture.marks; reached = reached })

-- ---- its device calls

module _ (h : History) (store : StoreState) (held : Held) (w : CheckpointState) (start : Files) (file : File) (stands : Stands h store held start) (is : store.writer ≡ Some w) where
  others_same : (n : ℕ) → n ≢ checkpoint_file (store.sealed + 1) → with_file (checkpoint_file w.generation) file start n ≡ start n
  others_same n other = with_other (checkpoint_file w.generation) file start n (λ e. other (e ∙ ap checkpoint_file (writes_now h store held start stands w is).generation))

  called : (new : CheckpointState) → new.generation ≡ w.generation → new.low ≡ w.low → new.stripes ≡ w.stripes → IsUnderWay new.phase store.next → IsReached new.phase held.sections store.log.committed
      → checkpoint.Stands new held.other held.sections file
      → Stands h (record store { writer = Some new }) held (with_file (checkpoint_file w.generation) file start)
  called new generation low stripes under reached stand =
      let writes = writes_now h store held start stands w is in
      let capture = captures_now h store held start stands w is in
      writer_stepped h store held start stands new held.sections (with_file (checkpoint_file w.generation) file start) others_same (generation ∙ writes.generation) (low ∙ writes.low) writes.has_log under
      (here (checkpoint.Stands new held.other held.sections) (checkpoint_file w.generation) file start (checkpoint_file (store.sealed + 1)) (ap checkpoint_file (sym writes.generation)) stand)
      (record {
        parts = subst (λ n. AreParts h n 0 held.sections) (sym stripes) capture.parts;
        marks = subst (λ n. AreMarks (max h.first n) (reach h) held.sections) (sym low) capture.marks;
        reached = reached;
      })

pub writer_steps_on : WriterStepsOn
writer_steps_on h store held w start file stands is alone other stand = by_phase w.phase refl stand
  where
    writes : Writes w store held (start (checkpoint_file (store.sealed + 1)))
    writes = writes_now h store held start stands w is

    capture : IsCapture h w held.sections store.log.committed
    capture = captures_now h store held start stands w is

    under : (phase : CheckpointPhase) → w.phase ≡ phase → IsUnderWay phase store.next
    under phase from = subst (λ p. IsUnderWay p store.next) from writes.under_way

    reached : (phase : CheckpointPhase) → w.phase ≡ phase → IsReached phase held.sections store.log.committed
    reached phase from = subst (λ p. IsReached p held.sections store.log.committed) from capture.reached

    by_phase : (phase : CheckpointPhase) → w.phase ≡ phase → checkpoint.Stands (state_after phase w) held.other held.sections file
        → Stands h (record store { writer = Some (state_after phase w) }) held (with_file (checkpoint_file w.generation) file start)
    by_phase checkpoint_phase.Idle from at = absurd (under checkpoint_phase.Idle from)
    by_phase checkpoint_phase.Gate from at = called h store held w start file stands is (state_after checkpoint_phase.Gate w) refl refl refl tt tt at
    by_phase checkpoint_phase.GateWritten from at = called h store held w start file stands is (state_after checkpoint_phase.GateWritten w) refl refl refl tt tt at
    by_phase checkpoint_phase.GateSynced from at = called h store held w start file stands is (state_after checkpoint_phase.GateSynced w) refl refl refl tt tt at
    by_phase checkpoint_phase.Ready from at = called h store held w start file stands is w refl refl refl writes.under_way capture.reached at
    by_phase checkpoint_phase.Staged from at = called h store held w start file stands is (state_after checkpoint_phase.Staged w) refl refl refl tt tt at
    by_phase checkpoint_phase.Header from at = called h store held w start file stands is (state_after checkpoint_phase.Header w) refl refl refl tt (reached checkpoint_phase.Header from) at
    by_phase checkpoint_phase.HeaderWritten from at =
        called h store held w start file stands is (state_after checkpoint_phase.HeaderWritten w) refl refl refl alone (reached checkpoint_phase.HeaderWritten from) at
    by_phase checkpoint_phase.HeaderSynced from at =
        called h store held w start file stands is (state_after checkpoint_phase.HeaderSynced w) refl refl refl alone (reached checkpoint_phase.HeaderSynced from) at
    by_phase checkpoint_phase.Opened from at = absurd (other from)
    by_phase checkpoint_phase.Sealed from at = absurd (under checkpoint_phase.Sealed from)

-- ---- it is sealed

-- its log
log_there : (h : History) (second : Option (List Batch)) (low : ℕ) → HasNextLog None second → NextLogIsOf h None second low → IsLogOf h low (commands_in (next_batches second))
log_there h None low has is = absurd has
log_there h (Some second) low has is = is

committed_there : (k : Checkpoint) (first : List Batch) (second : Option (List Batch)) (newest : LogState) (staged : List Batch) (files : Files) → HasNextLog None second → LogsStand k first second newest staged files
    → newest.committed ≡ newest.low + length (commands_in (next_batches second))
committed_there k first None newest staged files has logs = absurd has
committed_there k first (Some second) newest staged files has logs = logs.2.knows.committed

pub checkpoint_is_sealed : PartsAndLogRestore → OlderCheckpoint → CheckpointIsSealed
checkpoint_is_sealed restore older h store held w start file stands is alone opened stand =
    let k = held.found.checkpoint in
    let first = held.found.first in
    let second = held.found.second in
    let number = checkpoint_file w.generation in
    let files = with_file number file start in
    let writes = writes_now h store held start stands w is in
    let capture = captures_now h store held start stands w is in
    let others = others_same h store held w start file stands is in
    let has : HasNextLog None second = subst (λ o. HasNextLog o second) alone writes.has_log in
    let low : w.low ≡ store.log.low = writes.low ∙ ap (low_after store.log) alone in
    let new : Checkpoint = checkpoint.checkpoint_of w held.sections in
    let sealed = stand.stands.1 in
    let content = stands.kept.checkpoint.content in
    let committed : store.log.committed ≡ w.low + length (commands_in (next_batches second)) =
    committed_there k first second store.log held.staged start has stands.kept.logs ∙ ap (λ n. n + length (commands_in (next_batches second))) (sym low) in
    let reached : greatest_mark held.sections ≤ store.log.committed = subst (λ p. IsReached p held.sections store.log.committed) opened capture.reached in
    record {
      kept = record {
        sealed = writes.generation;
        checkpoint = here (IsSealedIn new) number file start (checkpoint_file (store.sealed + 1)) (ap checkpoint_file (sym writes.generation)) (record { content = sealed.content; settled = sealed.settled; checkpoint = checkpoint_in_own new_layout (own_of new_version) new sealed.content sealed.checkpoint });
        older = subst (λ n. IsOlder (store.sealed + 1) n content) (ap checkpoint_file stands.kept.sealed ∙ sym (checkpoint_again store.sealed))
            (older (checkpoint_layout content) k (store.sealed + 1) content (read_for (version_in content)) stands.kept.checkpoint.checkpoint (omega (arith, stands.kept.sealed)));
        ready = stands.kept.ready;
        logs = logs_sealed (store.sealed + 1) start files others k new first second store.log held.staged has (writes.generation ∙ ap (λ n. n + 1) (sym stands.kept.sealed)) low stands.kept.logs;
        next = subst (λ o. NextStands o store.log None files) (sym alone) (subst (λ o. NextStands o store.log second start) alone stands.kept.next);
        writer = (
          elsewhere (λ f. f ≡ at_rest content) number file start (checkpoint_file (store.sealed + 1 + 1)) (checkpoint_before w.generation (store.sealed + 1 + 1) (ap (λ n. n + 1) (sym writes.generation)))
              (ap start (checkpoint_again store.sealed) ∙ stands.kept.checkpoint.settled),
          refl,
        );
      };
      of_history = record {
        restores = restore h w.stripes w.low held.sections (commands_in (next_batches second)) capture.parts
            (subst (λ n. AreMarks (max h.first w.low) n held.sections) committed (marks_below (max h.first w.low) (reach h) store.log.committed held.sections capture.marks reached))
            (sym stand.knows.count ∙ stand.stands.0) (some_stripe w.stripes stand.knows.allowed)
            (subst (λ n. IsLogOf h n (commands_in (next_batches second))) (sym low)
            (log_there h second store.log.low has (subst (λ o. NextLogIsOf h o second (low_after store.log o)) alone stands.of_history.next_log)));
        next = stands.of_history.next;
        next_log = subst (λ o. NextLogIsOf h o None (low_after store.log o)) (sym alone) tt;
        capture = tt;
      };
    }
