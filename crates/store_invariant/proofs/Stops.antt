-- What a stop leaves of a store, now and at each moment of a step, stands for a front of its history.
use Rattle.std.proofs.Common.{◌≡◌, ◌⊎◌, inl, inr, ℕ, ◌+◌, ◌≤◌, max, false, List, length, Option, None, Some, refl, sym, ◌∙◌, ap, subst, arith}
use Rattle.java_hash.proofs.StripeLaws.{some_stripe}
use Rattle.disk_model.specs.Files.{Contents, File, Files, MayLeave}
use Rattle.map_model.specs.Histories.{History}
use Rattle.store_layout.specs.Checkpoints.{Section, Checkpoint, checkpoint_file, greatest_mark, is_sealed}
use Rattle.store_layout.specs.Logs.{Batch, commands_in, log_file, new_layout, new_version}
use Rattle.store_layout.specs.Opening.{Holds, IsCheckpointIn, IsOlder, Opened, StandsForFront, checkpoint_layout, log_of, prefix_of}
use Rattle.store_layout.specs.OpeningLaws.{OlderCheckpoint, RestoredStands}
use Rattle.store_layout.specs.Laws.{PartsAndLogRestore, RestoringGoesOn}
use Rattle.store_layout.specs.Faults.{version_in}
use Rattle.store_layout.specs.SectionsAndLog.{IsNextOf, Restores, reach}
use Rattle.store_layout.proofs.OwnLayouts.{own_of, checkpoint_in_own}
use Rattle.store_layout.proofs.Versions.{read_for}
use Rattle.checkpoint_file.specs.CheckpointStates as checkpoint
use Rattle.checkpoint_file.specs.States.{CheckpointState}
use Rattle.store_layout.specs.declared.checkpoint_phase.CheckpointPhase.{CheckpointPhase}
use Rattle.store_layout.specs.declared.checkpoint_phase.CheckpointPhase.TheVariants.{Idle, Gate, GateWritten, GateSynced, Ready, Staged, Header, HeaderWritten, HeaderSynced, Opened as gate_opened, Sealed}
use Rattle.gate_log.specs.LogStates as log
use Rattle.gate_log.specs.States.{LogState}
use Rattle.store_invariant.specs.States.{StoreState, Held, newest_batches}
use Rattle.store_invariant.specs.StoreStates.{IsCapture, IsReached, IsUnderWay, MayCapture, Stands, Writes, WriterStands, staged_count}
use Rattle.store_invariant.specs.Laws.{IsUnsealing}
use Rattle.store_invariant.proofs.Contents.{HasCheckpoint, LogsRead, holds_found, marks_below, stands_for_front}
use Rattle.store_invariant.proofs.Logs.{EndedReads, NewLog, NextReads, committed_is, logs_read, new_log}

-- ---- the laws of the parts

abbrev pub LogsStop : Type 0
LogsStop = (newest : LogState) (batches staged : List Batch) (file : File) (content : List ℕ) → log.Stands newest batches staged file → log.IsReady newest.phase
    → MayLeave file content → log.MayRead newest.phase newest.ending newest batches staged content

abbrev pub CheckpointsStop : Type 0
CheckpointsStop = (w : CheckpointState) (old : List ℕ) (sections : List Section) (file : File) (content : List ℕ) → checkpoint.Stands w old sections file
    → MayLeave file content → checkpoint.MayRead w.phase w old sections content

-- ---- the four contents, each by itself

abbrev pub WriterReads : Option CheckpointState → Held → List ℕ → Type 0
WriterReads None held content = content ≡ held.other
WriterReads (Some w) held content = checkpoint.MayRead w.phase w held.other held.sections content

pub record MayHold (store : StoreState) (held : Held) (contents : Contents) : Type 0 where
  pub sealed : IsCheckpointIn held.found.checkpoint (contents (checkpoint_file store.sealed))
  pub newest : log.MayRead store.log.phase store.log.ending store.log (newest_batches held.found.first held.found.second) held.staged (contents (log_file store.log.generation))
  pub ended : EndedReads held.found.second held.found.checkpoint held.found.first contents
  pub next : NextReads store.next contents
  pub writer : WriterReads store.writer held (contents (checkpoint_file (store.sealed + 1)))

-- ---- the checkpoint that is written

-- this content may have its seal
pub record Seals (h : History) (store : StoreState) (held : Held) (file : File) (content : List ℕ) (w : CheckpointState) : Type 0 where
  pub writes : Writes w store held file
  pub capture : IsCapture h w held.sections store.log.committed
  pub opening : (w.phase ≡ HeaderSynced) ⊎ (w.phase ≡ gate_opened)
  pub has_log : store.next ≡ None
  pub all : w.count ≡ w.stripes
  pub reached : greatest_mark held.sections ≤ store.log.committed
  pub checkpoint : IsCheckpointIn (checkpoint.checkpoint_of w held.sections) content

module _ (h : History) (store : StoreState) (held : Held) (file : File) (content : List ℕ) where
  -- an old content, or nothing sealed
  abbrev IsOld : Type 0
  IsOld = (content ≡ held.other) ⊎ (is_sealed content ≡ false)

  abbrev MaySeal : Option CheckpointState → Type 0
  MaySeal writer = IsOld ⊎ ((w : CheckpointState) × (writer ≡ Some w) × Seals h store held file content w)

  opening_reads : (w : CheckpointState) → (w.phase ≡ HeaderSynced) ⊎ (w.phase ≡ gate_opened) → Writes w store held file → IsCapture h w held.sections store.log.committed
      → store.next ≡ None → w.count ≡ w.stripes → greatest_mark held.sections ≤ store.log.committed → checkpoint.IsSealedOrNot w held.sections content → MaySeal (Some w)
  opening_reads w opening writes capture none all reached (inl unsealed) = inl (inr unsealed)
  opening_reads w opening writes capture none all reached (inr sealed) =
      inr (w, refl, record { writes = writes; capture = capture; opening = opening; has_log = none; all = all; reached = reached; checkpoint = checkpoint_in_own new_layout (own_of new_version) (checkpoint.checkpoint_of w held.sections) content sealed })

  reads_in : (w : CheckpointState) (phase : CheckpointPhase) → w.phase ≡ phase → Writes w store held file → IsCapture h w held.sections store.log.committed
      → checkpoint.AtPhase phase w held.other held.sections file → IsUnderWay phase store.next → IsReached phase held.sections store.log.committed
      → checkpoint.MayRead phase w held.other held.sections content → MaySeal (Some w)
  reads_in w Idle is writes capture at on reached read = absurd on
  reads_in w Gate is writes capture at on reached read = inl read
  reads_in w GateWritten is writes capture at on reached read = inl read
  reads_in w GateSynced is writes capture at on reached read = inl (inr read)
  reads_in w Ready is writes capture at on reached read = inl (inr read)
  reads_in w Staged is writes capture at on reached read = inl (inr read)
  reads_in w Header is writes capture at on reached read = inl (inr read)
  reads_in w HeaderWritten is writes capture at on reached read = inl (inr read)
  reads_in w HeaderSynced is writes capture at on reached read = opening_reads w (inl is) writes capture on at.0 reached read
  reads_in w gate_opened is writes capture at on reached read = opening_reads w (inr is) writes capture on at.0 reached read
  reads_in w Sealed is writes capture at on reached read = absurd on

  writer_reads : (writer : Option CheckpointState) → WriterStands writer store held file → MayCapture h writer held.sections store.log.committed → WriterReads writer held content → MaySeal writer
  writer_reads None stands capture read = inl (inl read)
  writer_reads (Some w) stands capture read = reads_in w w.phase refl stands capture stands.stands.stands stands.under_way capture.reached read

-- ---- all four

next_is_other : (g : ℕ) → checkpoint_file (g + 1 + 1) ≡ checkpoint_file g
next_is_other g = omega arith

module _ (older : OlderCheckpoint) (restore : PartsAndLogRestore) (goes_on : RestoringGoesOn) (stands_for : RestoredStands)
    (h : History) (store : StoreState) (held : Held) (start : Files) (stands : Stands h store held start) (contents : Contents) (may : MayHold store held contents) where
  abbrev k : Checkpoint
  k = held.found.checkpoint

  abbrev content : List ℕ
  content = contents (checkpoint_file (store.sealed + 1))

  abbrev written_file : File
  written_file = start (checkpoint_file (store.sealed + 1))

  abbrev Front : Type 0
  Front = StandsForFront h store.log.committed (store.log.committed + staged_count held) contents

  committed_here : store.log.committed ≡ prefix_of held.found
  committed_here = committed_is contents k held.found.first store.log held.staged start held.found.second stands.kept.logs

  -- the sealed checkpoint is used
  has_sealed : IsOld h store held written_file content → HasCheckpoint contents k
  has_sealed old = record {
    checkpoint = subst (λ n. IsCheckpointIn k (contents (checkpoint_file n))) (sym stands.kept.sealed) may.sealed;
    other = subst (λ n. IsOlder n (checkpoint_file (n + 1)) (contents (checkpoint_file (n + 1)))) (sym stands.kept.sealed) (by old);
  }
    where
      by : IsOld h store held written_file content → IsOlder store.sealed (checkpoint_file (store.sealed + 1)) content
      by (inl same) = subst (λ (l : List ℕ). IsOlder store.sealed (checkpoint_file (store.sealed + 1)) l) (sym same) stands.kept.older
      by (inr unsealed) = inl unsealed

  logs_sealed : LogsRead contents k (log_of held.found) (commands_in held.staged)
  logs_sealed = logs_read contents k held.found.first store.log held.staged start store.next held.found.second stands.kept.logs stands.kept.next may.newest may.ended may.next

  next_sealed : IsNextOf h (prefix_of held.found) (commands_in held.staged)
  next_sealed = subst (λ n. IsNextOf h n (commands_in held.staged)) committed_here stands.of_history.next

  holds_sealed : IsOld h store held written_file content → (found : Opened) × Holds contents found × (found.checkpoint ≡ k)
  holds_sealed old =
      let read = logs_sealed in (
        record { checkpoint = k; first = read.first; second = read.second },
        holds_found h contents k (log_of held.found) (commands_in held.staged) (has_sealed old) read goes_on stands.of_history.restores next_sealed,
        refl,
      )

  old_stands : IsOld h store held written_file content → Front
  old_stands old =
      subst (λ n. StandsForFront h n (n + staged_count held) contents) (sym committed_here)
      (stands_for_front h contents k (log_of held.found) (commands_in held.staged) (has_sealed old) logs_sealed goes_on stands_for stands.of_history.restores next_sealed)

  -- the written one is used
  module _ (w : CheckpointState) (s : Seals h store held written_file content w) where
    abbrev new : Checkpoint
    new = checkpoint.checkpoint_of w held.sections

    new_generation : w.generation ≡ k.generation + 1
    new_generation = s.writes.generation ∙ ap (λ n. n + 1) (sym stands.kept.sealed)

    has_new : HasCheckpoint contents new
    has_new = record {
      checkpoint = subst (λ n. IsCheckpointIn new (contents (checkpoint_file n))) (sym s.writes.generation) s.checkpoint;
      other = subst (λ n. IsOlder w.generation n (contents n)) (sym (ap (λ n. checkpoint_file (n + 1)) s.writes.generation ∙ next_is_other store.sealed))
          (subst (λ n. IsOlder w.generation (checkpoint_file n) (contents (checkpoint_file n))) stands.kept.sealed
          (older (checkpoint_layout (contents (checkpoint_file k.generation))) k w.generation (contents (checkpoint_file k.generation)) (read_for (version_in (contents (checkpoint_file k.generation)))) (subst (λ n. IsCheckpointIn k (contents (checkpoint_file n))) (sym stands.kept.sealed) may.sealed)
          (omega (arith, new_generation))));
    }

    log_new : NewLog h contents new store.log.committed held.staged
    log_new =
        new_log h contents k new held.found.first store.log held.staged start store.next held.found.second s.has_log s.writes.has_log stands.kept.logs stands.kept.next
        stands.of_history.next_log new_generation s.writes.low may.newest

    restores_new : Restores h w.stripes held.sections w.low (commands_in log_new.batches)
    restores_new =
        restore h w.stripes w.low held.sections (commands_in log_new.batches) s.capture.parts
        (marks_below (max h.first w.low) (reach h) (w.low + length (commands_in log_new.batches)) held.sections s.capture.marks (omega (arith, s.reached, log_new.committed_is)))
        (sym s.writes.stands.knows.count ∙ s.all) (some_stripe w.stripes s.writes.stands.knows.allowed) log_new.of_history

    next_new : IsNextOf h (w.low + length (commands_in log_new.batches)) (commands_in held.staged)
    next_new = subst (λ n. IsNextOf h n (commands_in held.staged)) log_new.committed_is stands.of_history.next

    new_stands : Front
    new_stands =
        subst (λ n. StandsForFront h n (n + staged_count held) contents) (sym log_new.committed_is)
        (stands_for_front h contents new (commands_in log_new.batches) (commands_in held.staged) has_new log_new.read goes_on stands_for restores_new next_new)

  read_of_writer : MaySeal h store held written_file content store.writer
  read_of_writer = writer_reads h store held written_file content store.writer stands.kept.writer stands.of_history.capture may.writer

  pub contents_stand : Front
  contents_stand =
      elim read_of_writer [
        | inl old ↦ old_stands old
        | inr seals ↦ new_stands seals.0 seals.2
      ]

  pub sealed_is_used : IsUnsealing store → (found : Opened) × Holds contents found × (found.checkpoint ≡ k)
  sealed_is_used unsealing =
      elim read_of_writer [
        | inl old ↦ holds_sealed old
        | inr seals ↦ absurd (no_seal seals.0 seals.1 seals.2.opening)
      ]
    where
      no_seal : (w : CheckpointState) → store.writer ≡ Some w → (w.phase ≡ HeaderSynced) ⊎ (w.phase ≡ gate_opened) → ⊥
      no_seal w is (inl synced) = (unsealing w is).0 synced
      no_seal w is (inr opened) = (unsealing w is).1 opened
