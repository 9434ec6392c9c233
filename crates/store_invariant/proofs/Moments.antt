-- What each of the four files may hold after a stop, now and at each moment of a step.
use Rattle.std.proofs.Common.{◌≡◌, ◌≢◌, inl, inr, ℕ, ◌+◌, ◌<◌, List, [], Option, None, Some, refl, sym, subst, arith}
use Rattle.disk_model.specs.Files.{Contents, Files, Leaves, MayLeave}
use Rattle.map_model.specs.Histories.{History}
use Rattle.disk_model.proofs.FileLemmas.{rest_leaves}
use Rattle.store_layout.specs.Checkpoints.{Checkpoint, checkpoint_file}
use Rattle.store_layout.specs.Logs.{Batch, log_file}
use Rattle.store_layout.specs.Opening.{IsCheckpointIn, prefix_of}
use Rattle.checkpoint_file.specs.CheckpointStates as checkpoint
use Rattle.checkpoint_file.specs.States.{CheckpointState}
use Rattle.gate_log.specs.LogStates as log
use Rattle.gate_log.specs.States.{LogState}
use Rattle.store_layout.specs.declared.log_phase.Phase.{Phase}
use Rattle.store_layout.specs.declared.log_phase.Phase.TheVariants.{Idle, Header, HeaderWritten, Staged, Written, Synced, Opened}
use Rattle.store_invariant.specs.States.{StoreState, Held, newest_batches}
use Rattle.store_invariant.specs.StoreStates.{Follows, IsTurn, LogsStand, NextStands, Stands, WriterStands}
use Rattle.store_invariant.proofs.Logs.{EndedReads, NextReads, committed_is, goes_on}
use Rattle.store_invariant.proofs.Stops.{CheckpointsStop, LogsStop, MayHold, WriterReads}

-- ---- the numbers of the files

checkpoint_below : (g : ℕ) → checkpoint_file g < 4
checkpoint_below g = omega arith

log_below : (g : ℕ) → log_file g < 4
log_below g = omega arith

not_a_log : (g n : ℕ) → checkpoint_file g ≢ log_file n
not_a_log g n same = omega (arith, same)

not_a_checkpoint : (g n : ℕ) → log_file g ≢ checkpoint_file n
not_a_checkpoint g n same = omega (arith, same)

logs_apart : (g n : ℕ) → n ≡ g + 1 → log_file g ≢ log_file n
logs_apart g n next same = omega (arith, next, same)

checkpoints_apart : (g n : ℕ) → n ≡ g + 1 → checkpoint_file g ≢ checkpoint_file n
checkpoints_apart g n next same = omega (arith, next, same)

-- ---- each file by itself

module _ (logs : LogsStop) (checkpoints : CheckpointsStop) (h : History) (store : StoreState) (held : Held) (start : Files) (stands : Stands h store held start) (contents : Contents) where
  abbrev k : Checkpoint
  k = held.found.checkpoint

  abbrev newest : LogState
  newest = store.log

  abbrev first : List Batch
  first = held.found.first

  abbrev Left : ℕ → Type 0
  Left n = MayLeave (start n) (contents n)

  abbrev SealedReads : Type 0
  SealedReads = IsCheckpointIn k (contents (checkpoint_file store.sealed))

  abbrev NewestReads : Type 0
  NewestReads = log.MayRead newest.phase newest.ending newest (newest_batches first held.found.second) held.staged (contents (log_file newest.generation))

  abbrev WrittenReads : Type 0
  WrittenReads = WriterReads store.writer held (contents (checkpoint_file (store.sealed + 1)))

  sealed_reads : Left (checkpoint_file store.sealed) → SealedReads
  sealed_reads left =
      let content = contents (checkpoint_file store.sealed) in
      let sealed = stands.kept.checkpoint in
      subst (λ (l : List ℕ). IsCheckpointIn k l) (sym (rest_leaves sealed.content content (subst (λ f. MayLeave f content) sealed.settled left))) sealed.checkpoint

  newest_stands : (second : Option (List Batch)) → LogsStand k first second newest held.staged start → log.Stands newest (newest_batches first second) held.staged (start (log_file newest.generation))
  newest_stands None stand = subst (λ n. log.Stands newest first held.staged (start (log_file n))) (sym stand.0) stand.2
  newest_stands (Some second) stand = subst (λ n. log.Stands newest second held.staged (start (log_file n))) (sym stand.0) stand.2

  newest_reads : Left (log_file newest.generation) → NewestReads
  newest_reads left =
      logs newest (newest_batches first held.found.second) held.staged (start (log_file newest.generation)) (contents (log_file newest.generation))
      (newest_stands held.found.second stands.kept.logs) stands.kept.ready left

  ended_in : (second : Option (List Batch)) → LogsStand k first second newest held.staged start → (newest.generation ≡ k.generation + 1 → Left (log_file k.generation)) → EndedReads second k first contents
  ended_in None stand left = tt
  ended_in (Some second) stand left = stand.3 (contents (log_file k.generation)) (left stand.0)

  ended_reads : (newest.generation ≡ k.generation + 1 → Left (log_file k.generation)) → EndedReads held.found.second k first contents
  ended_reads left = ended_in held.found.second stands.kept.logs left

  next_in : (next : Option LogState) → NextStands next newest held.found.second start → ((n : ℕ) → n ≡ newest.generation + 1 → Left (log_file n)) → NextReads next contents
  next_in None follows left = tt
  next_in (Some next) follows left = λ ready.
      let content = contents (log_file next.generation) in
      elim (goes_on next [] [] content follows.goes_on (logs next [] [] (start (log_file next.generation)) content follows.stands ready (left next.generation follows.generation))) [
        | inl closed ↦ closed
        | inr closed ↦ closed
      ]

  next_reads : ((n : ℕ) → n ≡ newest.generation + 1 → Left (log_file n)) → NextReads store.next contents
  next_reads left = next_in store.next stands.kept.next left

  writer_in : (writer : Option CheckpointState) → WriterStands writer store held (start (checkpoint_file (store.sealed + 1))) → Left (checkpoint_file (store.sealed + 1))
      → WriterReads writer held (contents (checkpoint_file (store.sealed + 1)))
  writer_in None rests left =
      let content = contents (checkpoint_file (store.sealed + 1)) in
      rest_leaves held.other content (subst (λ f. MayLeave f content) rests.0 left)
  writer_in (Some w) writes left =
      checkpoints w held.other held.sections (start (checkpoint_file (store.sealed + 1))) (contents (checkpoint_file (store.sealed + 1))) writes.stands left

  written_reads : Left (checkpoint_file (store.sealed + 1)) → WrittenReads
  written_reads left = writer_in store.writer stands.kept.writer left

  -- ---- now

  pub may_hold : Leaves start contents → MayHold store held contents
  may_hold leaves = record {
    sealed = sealed_reads (leaves (checkpoint_file store.sealed) (checkpoint_below store.sealed));
    newest = newest_reads (leaves (log_file newest.generation) (log_below newest.generation));
    ended = ended_reads (λ later. leaves (log_file k.generation) (log_below k.generation));
    next = next_reads (λ n is. leaves (log_file n) (log_below n));
    writer = written_reads (leaves (checkpoint_file (store.sealed + 1)) (checkpoint_below (store.sealed + 1)));
  }

  -- ---- at a moment of a step

  module _ (files : Files) (leaves : Leaves files contents) where
    -- a file that is as at the start
    back : (n : ℕ) → n < 4 → files n ≡ start n → Left n
    back n below same = subst (λ f. MayLeave f (contents n)) same (leaves n below)

    -- of the newest log
    pub log_may_hold : log.IsKept newest (newest_batches first held.found.second) held.staged start files → MayHold store held contents
    log_may_hold kept = record {
      sealed = sealed_reads (back (checkpoint_file store.sealed) (checkpoint_below store.sealed) (kept.others (checkpoint_file store.sealed) (not_a_log store.sealed newest.generation)));
      newest = kept.reads stands.kept.ready (contents (log_file newest.generation)) (leaves (log_file newest.generation) (log_below newest.generation));
      ended = ended_reads (λ later. back (log_file k.generation) (log_below k.generation) (kept.others (log_file k.generation) (logs_apart k.generation newest.generation later)));
      next = next_reads (λ n is. back (log_file n) (log_below n) (kept.others (log_file n) (λ same. logs_apart newest.generation n is (sym same))));
      writer = written_reads (back (checkpoint_file (store.sealed + 1)) (checkpoint_below (store.sealed + 1))
          (kept.others (checkpoint_file (store.sealed + 1)) (not_a_log (store.sealed + 1) newest.generation)));
    }

    -- of the log that follows it
    pub next_may_hold : (next : LogState) → store.next ≡ Some next → next.phase ≢ Idle → log.IsKept next [] [] start files → MayHold store held contents
    next_may_hold next is other kept =
        let follows : Follows next newest held.found.second start = subst (λ (o : Option LogState). NextStands o newest held.found.second start) is stands.kept.next in
        record {
          sealed = sealed_reads (back (checkpoint_file store.sealed) (checkpoint_below store.sealed) (kept.others (checkpoint_file store.sealed) (not_a_log store.sealed next.generation)));
          newest = newest_reads (back (log_file newest.generation) (log_below newest.generation)
              (kept.others (log_file newest.generation) (logs_apart newest.generation next.generation follows.generation)));
          ended = subst (λ (o : Option (List Batch)). EndedReads o k first contents) (sym follows.newest_is_first) tt;
          next = subst (λ (o : Option LogState). NextReads o contents) (sym is) (λ ready. absurd (unready next.phase other follows.turn ready));
          writer = written_reads (back (checkpoint_file (store.sealed + 1)) (checkpoint_below (store.sealed + 1))
              (kept.others (checkpoint_file (store.sealed + 1)) (not_a_log (store.sealed + 1) next.generation)));
        }
      where
        unready : (phase : Phase) → phase ≢ Idle → IsTurn phase newest → log.IsReady phase → ⊥
        unready Idle other turn ready = other refl
        unready Header other turn ready = ready
        unready HeaderWritten other turn ready = ready
        unready Staged other turn ready = turn
        unready Written other turn ready = turn
        unready Synced other turn ready = turn
        unready Opened other turn ready = turn

    -- of the checkpoint that is written
    pub writer_may_hold : (w : CheckpointState) → store.writer ≡ Some w → checkpoint.IsKept w held.other held.sections start files → MayHold store held contents
    writer_may_hold w is kept =
        let writes = subst (λ (o : Option CheckpointState). WriterStands o store held (start (checkpoint_file (store.sealed + 1)))) is stands.kept.writer in
        let generation : w.generation ≡ store.sealed + 1 = writes.generation in
        record {
          sealed = sealed_reads (back (checkpoint_file store.sealed) (checkpoint_below store.sealed)
              (kept.others (checkpoint_file store.sealed) (checkpoints_apart store.sealed w.generation generation)));
          newest = newest_reads (back (log_file newest.generation) (log_below newest.generation) (kept.others (log_file newest.generation) (not_a_checkpoint newest.generation w.generation)));
          ended = ended_reads (λ later. back (log_file k.generation) (log_below k.generation) (kept.others (log_file k.generation) (not_a_checkpoint k.generation w.generation)));
          next = next_reads (λ n follows. back (log_file n) (log_below n) (kept.others (log_file n) (not_a_checkpoint n w.generation)));
          writer = subst (λ (o : Option CheckpointState). WriterReads o held (contents (checkpoint_file (store.sealed + 1)))) (sym is)
              (subst (λ n. checkpoint.MayRead w.phase w held.other held.sections (contents (checkpoint_file n))) generation
              (kept.reads (contents (checkpoint_file w.generation)) (leaves (checkpoint_file w.generation) (checkpoint_below w.generation))));
        }

  -- the committed commands are those that are found
  pub committed_found : newest.committed ≡ prefix_of held.found
  committed_found = committed_is contents k first newest held.staged start held.found.second stands.kept.logs
