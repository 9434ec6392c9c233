-- The logs that a stop may leave of a store.
use Rattle.std.proofs.Common.{◌≡◌, ◌≢◌, ◌⊎◌, inl, inr, ℕ, ◌+◌, List, [], ◌++◌, length, Option, None, Some, refl, sym, ◌∙◌, ap, subst, arith, append_assoc, length-append}
use Rattle.std.proofs.lemmas.List.{append-nil}
use Rattle.std.proofs.lemmas.Option.{none-some}
use Rattle.disk_model.specs.Files.{Contents, Files}
use Rattle.map_types.specs.declared.commands.Command.{Command}
use Rattle.map_model.specs.Histories.{History}
use Rattle.log_records.specs.Layout.{layout_of}
use Rattle.store_layout.specs.Checkpoints.{Checkpoint}
use Rattle.store_layout.specs.Logs.{Batch, IsClosed, IsEnded, commands_in, log_file}
use Rattle.store_layout.specs.Opening.{IsClosedIn, IsEndedIn, logged_by, next_low}
use Rattle.store_layout.specs.SectionsAndLog.{IsLogOf}
use Rattle.store_layout.proofs.OwnLayouts.{own_of, closed_in_own, ended_in_own}
use Rattle.gate_log.specs.LogStates as log
use Rattle.gate_log.specs.States.{LogState}
use Rattle.store_layout.specs.declared.log_phase.Phase.{Phase}
use Rattle.store_layout.specs.declared.log_phase.Phase.TheVariants.{Idle, Header, HeaderWritten, Staged, Written, Synced, Opened}
use Rattle.store_invariant.specs.States.{low_after, newest_batches}
use Rattle.store_invariant.specs.StoreStates.{HasNextLog, IsTurn, LogsStand, NextLogIsOf, NextStands}
use Rattle.store_invariant.proofs.Contents.{LogsRead, commands_append}

-- ---- what one log's content may be

before_or_after : (phase : Phase) (newest : LogState) (batches staged : List Batch) (content : List ℕ) → log.MayRead phase None newest batches staged content → log.IsBeforeOrAfter newest batches staged content
before_or_after Idle newest batches staged content read = read
before_or_after Header newest batches staged content read = read
before_or_after HeaderWritten newest batches staged content read = read
before_or_after Staged newest batches staged content read = read
before_or_after Written newest batches staged content read = read
before_or_after Synced newest batches staged content read = read
before_or_after Opened newest batches staged content read = read

under_way : (phase : Phase) (ending : Option ℕ) (newest : LogState) (batches staged : List Batch) (content : List ℕ) → phase ≢ Idle → log.MayRead phase ending newest batches staged content
    → log.IsBeforeOrAfter newest batches staged content
under_way Idle ending newest batches staged content other read = absurd (other refl)
under_way Header ending newest batches staged content other read = read
under_way HeaderWritten ending newest batches staged content other read = read
under_way Staged ending newest batches staged content other read = read
under_way Written ending newest batches staged content other read = read
under_way Synced ending newest batches staged content other read = read
under_way Opened ending newest batches staged content other read = read

-- a content in the layout of the log's version is read in it
closed : (newest : LogState) (batches : List Batch) (content : List ℕ) → IsClosed (layout_of newest.version) newest.generation newest.low batches content
    → IsClosedIn newest.generation newest.low batches content
closed newest batches content is = closed_in_own (layout_of newest.version) (own_of newest.version) newest.generation newest.low batches content is

pub ended : (newest : LogState) (batches : List Batch) (content : List ℕ) → IsEnded (layout_of newest.version) newest.generation newest.low batches (newest.generation + 1) content
    → IsEndedIn newest.generation newest.low batches (newest.generation + 1) content
ended newest batches content is = ended_in_own (layout_of newest.version) (own_of newest.version) newest.generation newest.low batches content is

-- a log that was not told to end is closed
pub goes_on : (newest : LogState) (batches staged : List Batch) (content : List ℕ) → newest.ending ≡ None → log.MayRead newest.phase newest.ending newest batches staged content
    → IsClosedIn newest.generation newest.low batches content ⊎ IsClosedIn newest.generation newest.low (batches ++ staged) content
goes_on newest batches staged content none read =
    by (before_or_after newest.phase newest batches staged content (subst (λ (o : Option ℕ). log.MayRead newest.phase o newest batches staged content) none read))
  where
    by : log.IsBeforeOrAfter newest batches staged content
        → IsClosedIn newest.generation newest.low batches content ⊎ IsClosedIn newest.generation newest.low (batches ++ staged) content
    by (inl before) = inl (closed newest batches content before)
    by (inr done) = inr (closed newest (batches ++ staged) content (subst (λ (o : Option ℕ). log.IsDone o newest batches staged content) none done))

-- ---- both logs

-- the log of the checkpoint's generation has ended
abbrev pub EndedReads : Option (List Batch) → Checkpoint → List Batch → Contents → Type 0
EndedReads None k first contents = Unit {0}
EndedReads (Some second) k first contents = IsEndedIn k.generation k.low first (k.generation + 1) (contents (log_file k.generation))

-- the log that follows has no batch, once its header is on the disk
abbrev pub NextReads : Option LogState → Contents → Type 0
NextReads None contents = Unit {0}
NextReads (Some next) contents = log.IsReady next.phase → IsClosedIn next.generation next.low [] (contents (log_file next.generation))

module _ (contents : Contents) where
  abbrev ClosedAt : ℕ → ℕ → List Batch → Type 0
  ClosedAt generation low batches = IsClosedIn generation low batches (contents (log_file generation))

  moved : (a b c d : ℕ) (batches : List Batch) → a ≡ c → b ≡ d → ClosedAt a b batches → ClosedAt c d batches
  moved a b c d batches generation low closed =
      subst (λ n. ClosedAt c n batches) low (subst (λ n. ClosedAt n b batches) generation closed)

  module _ (k : Checkpoint) (first : List Batch) (newest : LogState) (staged : List Batch) (files : Files) where
    abbrev Reads : List Batch → Type 0
    Reads batches = log.MayRead newest.phase newest.ending newest batches staged (contents (log_file newest.generation))

    -- the first log is the newest
    first_closed : (batches : List Batch) → newest.generation ≡ k.generation → newest.low ≡ k.low
        → (commands_in batches ≡ commands_in first) ⊎ (commands_in batches ≡ commands_in first ++ commands_in staged) → ClosedAt newest.generation newest.low batches
        → LogsRead contents k (commands_in first) (commands_in staged)
    first_closed batches generation low logged closed = record {
      first = batches;
      second = None;
      are = moved newest.generation newest.low k.generation k.low batches generation low closed;
      logged = logged;
    }

    first_goes_on : newest.generation ≡ k.generation → newest.low ≡ k.low → newest.ending ≡ None → Reads first → LogsRead contents k (commands_in first) (commands_in staged)
    first_goes_on generation low none read =
        elim (goes_on newest first staged (contents (log_file newest.generation)) none read) [
          | inl before ↦ first_closed first generation low (inl refl) before
          | inr after ↦ first_closed (first ++ staged) generation low (inr (commands_append first staged)) after
        ]

    -- it has ended, and the one that follows has no batch
    first_ended : (next : LogState) → newest.generation ≡ k.generation → newest.low ≡ k.low → next.generation ≡ newest.generation + 1 → next.low ≡ next_low k first
        → IsEndedIn newest.generation newest.low first (newest.generation + 1) (contents (log_file newest.generation)) → ClosedAt next.generation next.low []
        → LogsRead contents k (commands_in first) (commands_in staged)
    first_ended next generation low follows from ended closed = record {
      first = first;
      second = Some [];
      are = (
        subst (λ n. IsEndedIn k.generation n first (k.generation + 1) (contents (log_file k.generation))) low
            (subst (λ n. IsEndedIn n newest.low first (n + 1) (contents (log_file n))) generation ended),
        moved next.generation next.low (k.generation + 1) (next_low k first) [] (omega (arith, follows, generation)) from closed,
      );
      logged = inl (append-nil (commands_in first));
    }

    first_turns : (next : LogState) (phase : Phase) → next.phase ≡ phase → IsTurn phase newest → newest.generation ≡ k.generation → newest.low ≡ k.low
        → next.generation ≡ newest.generation + 1 → next.low ≡ next_low k first → Reads first → NextReads (Some next) contents
        → LogsRead contents k (commands_in first) (commands_in staged)
    first_turns next Header is turn generation low follows from read its = first_goes_on generation low turn.1 read
    first_turns next HeaderWritten is turn generation low follows from read its = first_goes_on generation low turn.1 read
    first_turns next Idle is turn generation low follows from read its =
        elim (under_way newest.phase newest.ending newest first staged (contents (log_file newest.generation)) turn.0 read) [
          | inl before ↦ first_closed first generation low (inl refl) (closed newest first (contents (log_file newest.generation)) before)
          | inr done ↦ first_ended next generation low follows from
              (ended newest first (contents (log_file newest.generation)) (subst (λ (o : Option ℕ). log.IsDone o newest first staged (contents (log_file newest.generation))) turn.1 done))
              (its (subst (λ p. log.IsReady p) (sym is) tt))
        ]
    first_turns next Staged is turn generation low follows from read its = absurd turn
    first_turns next Written is turn generation low follows from read its = absurd turn
    first_turns next Synced is turn generation low follows from read its = absurd turn
    first_turns next Opened is turn generation low follows from read its = absurd turn

    -- the second log is the newest
    second_closed : (second batches : List Batch) → newest.generation ≡ k.generation + 1 → newest.low ≡ next_low k first
        → (commands_in batches ≡ commands_in second) ⊎ (commands_in batches ≡ commands_in second ++ commands_in staged)
        → EndedReads (Some second) k first contents → ClosedAt newest.generation newest.low batches
        → LogsRead contents k (commands_in first ++ commands_in second) (commands_in staged)
    second_closed second batches generation low logged ended closed = record {
      first = first;
      second = Some batches;
      are = (ended, moved newest.generation newest.low (k.generation + 1) (next_low k first) batches generation low closed);
      logged = both logged;
    }
      where
        both : (commands_in batches ≡ commands_in second) ⊎ (commands_in batches ≡ commands_in second ++ commands_in staged)
            → (commands_in first ++ commands_in batches ≡ commands_in first ++ commands_in second) ⊎ (commands_in first ++ commands_in batches ≡ (commands_in first ++ commands_in second) ++ commands_in staged)
        both (inl same) = inl (ap (λ (l : List Command). commands_in first ++ l) same)
        both (inr more) = inr (ap (λ (l : List Command). commands_in first ++ l) more ∙ sym (append_assoc (commands_in first) (commands_in second) (commands_in staged)))

    second_goes_on : (second : List Batch) → newest.generation ≡ k.generation + 1 → newest.low ≡ next_low k first → newest.ending ≡ None
        → EndedReads (Some second) k first contents → Reads second → LogsRead contents k (commands_in first ++ commands_in second) (commands_in staged)
    second_goes_on second generation low none ended read =
        elim (goes_on newest second staged (contents (log_file newest.generation)) none read) [
          | inl before ↦ second_closed second second generation low (inl refl) ended before
          | inr after ↦ second_closed second (second ++ staged) generation low (inr (commands_append second staged)) ended after
        ]

    -- how many commands are committed
    pub committed_is : (second : Option (List Batch)) → LogsStand k first second newest staged files → newest.committed ≡ k.low + length (logged_by first second)
    committed_is None stand = omega (arith, stand.2.knows.committed, stand.1)
    committed_is (Some second) stand = omega (arith, stand.2.knows.committed, stand.1, length-append (commands_in first) (commands_in second))

    -- the logs of the sealed checkpoint
    pub logs_read : (next : Option LogState) (second : Option (List Batch)) → LogsStand k first second newest staged files → NextStands next newest second files
        → Reads (newest_batches first second) → EndedReads second k first contents → NextReads next contents → LogsRead contents k (logged_by first second) (commands_in staged)
    logs_read None None stand none read ended its = first_goes_on stand.0 stand.1 none read
    logs_read None (Some second) stand none read ended its = second_goes_on second stand.0 stand.1 none ended read
    logs_read (Some next) None stand follows read ended its =
        first_turns next next.phase refl follows.turn stand.0 stand.1 follows.generation (follows.low ∙ committed_is None stand) read its
    logs_read (Some next) (Some second) stand follows read ended its = absurd (none-some second (sym follows.newest_is_first))

-- ---- the log of the checkpoint that is written

-- the log of a checkpoint of the next generation
pub record NewLog (h : History) (contents : Contents) (k : Checkpoint) (committed : ℕ) (staged : List Batch) : Type 0 where
  pub batches : List Batch
  pub of_history : IsLogOf h k.low (commands_in batches)
  pub committed_is : committed ≡ k.low + length (commands_in batches)
  pub read : LogsRead contents k (commands_in batches) (commands_in staged)

module _ (h : History) (contents : Contents) (k new : Checkpoint) (first : List Batch) (newest : LogState) (staged : List Batch) (files : Files) where
  new_closed : (second batches : List Batch) → newest.generation ≡ new.generation → newest.low ≡ new.low
      → (commands_in batches ≡ commands_in second) ⊎ (commands_in batches ≡ commands_in second ++ commands_in staged)
      → IsClosedIn newest.generation newest.low batches (contents (log_file newest.generation)) → LogsRead contents new (commands_in second) (commands_in staged)
  new_closed second batches generation low logged closed = record {
    first = batches;
    second = None;
    are = moved contents newest.generation newest.low new.generation new.low batches generation low closed;
    logged = logged;
  }

  pub new_log : (next : Option LogState) (second : Option (List Batch)) → next ≡ None → HasNextLog next second → LogsStand k first second newest staged files → NextStands next newest second files
      → NextLogIsOf h next second (low_after newest next) → new.generation ≡ k.generation + 1 → new.low ≡ low_after newest next
      → log.MayRead newest.phase newest.ending newest (newest_batches first second) staged (contents (log_file newest.generation)) → NewLog h contents new newest.committed staged
  new_log (Some next) second none has stand follows of generation low read = absurd (none-some next (sym none))
  new_log None None none has stand follows of generation low read = absurd has
  new_log None (Some second) none has stand follows of generation low read = record {
    batches = second;
    of_history = subst (λ n. IsLogOf h n (commands_in second)) (sym low) of;
    committed_is = omega (arith, stand.2.knows.committed, low);
    read = elim (goes_on newest second staged (contents (log_file newest.generation)) follows read) [
      | inl before ↦ new_closed second second (stand.0 ∙ sym generation) (sym low) (inl refl) before
      | inr after ↦ new_closed second (second ++ staged) (stand.0 ∙ sym generation) (sym low) (inr (commands_append second staged)) after
    ];
  }
