-- How many device calls the logs took.
use Rattle.std.proofs.Common.{◌≡◌, ℕ, ◌+◌, ◌≤◌, List, length, Option, None, Some, refl, sym, ap, ap₂, subst, ◌∙◌, arith}
use Rattle.std.specs.Prelude.{slice_index_or}
use Rattle.log_records.specs.Layout.{Layout, IsLayout}
use Rattle.store_layout.specs.Calls.{body_bytes, checkpoint_calls, log_calls, logs_calls}
use Rattle.store_layout.specs.Checkpoints.{Checkpoint, checkpoint_file}
use Rattle.store_layout.specs.Faults.{body_length_in, version_in}
use Rattle.store_layout.specs.Logs.{Batch, commands_in, log_file}
use Rattle.store_layout.specs.Opening.{Contents, AreLogs, Holds, IsCheckpointIn, IsClosedIn, IsEndedIn, Opened, checkpoint_layout, log_layout}
use Rattle.store_layout.specs.Readings.{gate_behind}
use Rattle.store_layout.proofs.CheckpointFields.{has_body_length, one_checkpoint}
use Rattle.store_layout.proofs.Versions.{room_for}
use Rattle.store_layout.proofs.Openings.{used}
use Rattle.store_layout.proofs.ReadingLemmas.{one_closed, one_end, never_both}
use Rattle.recovery.specs.declared.replay.End.TheVariants.{Closed, Ended}
use Rattle.recovery.specs.Heads.{IsUsed}
use Rattle.recovery.specs.LogReading.{EndsAt}

-- the layout of the file that has the log of this generation
abbrev pub layout_at : Contents → ℕ → Layout
layout_at contents generation = log_layout (contents (log_file generation))

room_at : (contents : Contents) (generation : ℕ) → IsLayout (layout_at contents generation)
room_at contents generation = room_for (slice_index_or (contents (log_file generation)) 0 0)

-- up to its last gate the first log takes no more calls than both logs
pub record FirstEnds (contents : Contents) (k : Checkpoint) (first : List Batch) (second : Option (List Batch)) : Type 0 where
  pub last : ℕ
  pub ends : EndsAt (layout_at contents k.generation) k.generation k.low (contents (log_file k.generation)) last
  pub fewer : log_calls last ≤ logs_calls contents k first second

pub first_ends : (contents : Contents) (k : Checkpoint) (first : List Batch) (second : Option (List Batch)) → AreLogs contents k first second → FirstEnds contents k first second
first_ends contents k first None logs = record {
  last = gate_behind (layout_at contents k.generation) k.generation k.low first;
  ends = record { end = Closed; batches = first; ends = logs; gate = refl };
  fewer = omega arith;
}
first_ends contents k first (Some second) logs = record {
  last = gate_behind (layout_at contents k.generation) k.generation k.low first + 14;
  ends = record { end = Ended; batches = first; ends = logs.0; gate = refl };
  fewer = omega arith;
}

module _ (contents : Contents) (k : Checkpoint) (batches : List Batch) (gate : ℕ) (is : gate ≡ gate_behind (layout_at contents k.generation) k.generation k.low batches) where
  -- the first log is closed
  pub one_log_calls : IsClosedIn k.generation k.low batches (contents (log_file k.generation)) → (first : List Batch) (second : Option (List Batch)) → AreLogs contents k first second
      → log_calls gate ≡ logs_calls contents k first second
  one_log_calls closed first None logs =
      ap log_calls (is ∙ ap (λ (bs : List Batch). gate_behind (layout_at contents k.generation) k.generation k.low bs) (one_closed (layout_at contents k.generation) (room_at contents k.generation) k.generation k.low (contents (log_file k.generation)) batches first closed logs))
  one_log_calls closed first (Some second) logs =
      absurd (never_both (layout_at contents k.generation) (room_at contents k.generation) k.generation k.low (k.generation + 1) (contents (log_file k.generation)) batches first closed logs.0)

  module _ (ended : IsEndedIn k.generation k.low batches (k.generation + 1) (contents (log_file k.generation))) (next low later : ℕ) (others : List Batch) (next_is : next ≡ k.generation + 1)
      (low_is : low ≡ k.low + length (commands_in batches)) (later_is : later ≡ gate_behind (layout_at contents next) next low others)
      (closed : IsClosedIn next low others (contents (log_file next))) where
    -- the first has ended, and the next is closed
    pub two_logs_calls : (first : List Batch) (second : Option (List Batch)) → AreLogs contents k first second → log_calls (gate + 14) + log_calls later ≡ logs_calls contents k first second
    two_logs_calls first None logs = absurd (never_both (layout_at contents k.generation) (room_at contents k.generation) k.generation k.low (k.generation + 1) (contents (log_file k.generation)) first batches logs ended)
    two_logs_calls first (Some second) logs =
        let same : batches ≡ first = (one_end (layout_at contents k.generation) (room_at contents k.generation) k.generation k.low (k.generation + 1) (k.generation + 1) (contents (log_file k.generation)) batches first ended logs.0).0 in
        let low_same : low ≡ k.low + length (commands_in first) = low_is ∙ ap (λ (bs : List Batch). k.low + length (commands_in bs)) same in
        let there = subst (λ (n : ℕ). IsClosedIn (k.generation + 1) n others (contents (log_file (k.generation + 1)))) low_same (subst (λ (n : ℕ). IsClosedIn n low others (contents (log_file n))) next_is closed) in
        let others_same : others ≡ second = one_closed (layout_at contents (k.generation + 1)) (room_at contents (k.generation + 1)) (k.generation + 1) (k.low + length (commands_in first)) (contents (log_file (k.generation + 1))) others second there logs.1 in
        let gate_same : gate ≡ gate_behind (layout_at contents k.generation) k.generation k.low first = is ∙ ap (λ (bs : List Batch). gate_behind (layout_at contents k.generation) k.generation k.low bs) same in
        let later_same : later ≡ gate_behind (layout_at contents (k.generation + 1)) (k.generation + 1) (k.low + length (commands_in first)) second =
        later_is ∙ ap₂ (λ (n l : ℕ). gate_behind (layout_at contents n) n l others) next_is low_same ∙ ap (λ (bs : List Batch). gate_behind (layout_at contents (k.generation + 1)) (k.generation + 1) (k.low + length (commands_in first)) bs) others_same in
        ap₂ (λ (a b : ℕ). log_calls (a + 14) + log_calls b) gate_same later_same

-- the next log, which is closed, and what both take up to its last gate
pub record NextEnds (contents : Contents) (next low gate most : ℕ) : Type 0 where
  pub last : ℕ
  pub batches : List Batch
  pub closed : IsClosedIn next low batches (contents (log_file next))
  pub ends : EndsAt (layout_at contents next) next low (contents (log_file next)) last
  pub both : log_calls (gate + 14) + log_calls last ≡ most

-- the first log has ended
pub next_ends : (contents : Contents) (k : Checkpoint) (batches : List Batch) (gate next low : ℕ) → gate ≡ gate_behind (layout_at contents k.generation) k.generation k.low batches
    → IsEndedIn k.generation k.low batches (k.generation + 1) (contents (log_file k.generation)) → next ≡ k.generation + 1 → low ≡ k.low + length (commands_in batches)
    → (first : List Batch) (second : Option (List Batch)) → AreLogs contents k first second → NextEnds contents next low gate (logs_calls contents k first second)
next_ends contents k batches gate next low is ended next_is low_is first None logs =
    absurd (never_both (layout_at contents k.generation) (room_at contents k.generation) k.generation k.low (k.generation + 1) (contents (log_file k.generation)) first batches logs ended)
next_ends contents k batches gate next low is ended next_is low_is first (Some second) logs =
    let same : batches ≡ first = (one_end (layout_at contents k.generation) (room_at contents k.generation) k.generation k.low (k.generation + 1) (k.generation + 1) (contents (log_file k.generation)) batches first ended logs.0).0 in
    let low_same : low ≡ k.low + length (commands_in first) = low_is ∙ ap (λ (bs : List Batch). k.low + length (commands_in bs)) same in
    let there = subst (λ (n : ℕ). IsClosedIn n low second (contents (log_file n))) (sym next_is)
    (subst (λ (n : ℕ). IsClosedIn (k.generation + 1) n second (contents (log_file (k.generation + 1)))) (sym low_same) logs.1) in
    record {
      last = gate_behind (layout_at contents next) next low second;
      batches = second;
      closed = there;
      ends = record { end = Closed; batches = second; ends = there; gate = refl };
      both = two_logs_calls contents k batches gate is ended next low (gate_behind (layout_at contents next) next low second) second next_is low_is refl there first (Some second) logs;
    }

-- the next log has not ended as well
pub never_twice : (contents : Contents) (next low gate most : ℕ) (others : List Batch) → NextEnds contents next low gate most
    → IsEndedIn next low others (next + 1) (contents (log_file next)) → ⊥
never_twice contents next low gate most others ends ended =
    never_both (layout_at contents next) (room_at contents next) next low (next + 1) (contents (log_file next)) ends.batches others ends.closed ended

-- the body of the checkpoint that is found
pub body_found : (contents : Contents) (file : ℕ) → IsUsed contents file → (found : Opened) → Holds contents found
    → checkpoint_calls (body_length_in (contents file)) ≡ checkpoint_calls (body_bytes contents found.checkpoint)
body_found contents file is found holds =
    let heads = used contents found.checkpoint holds.checkpoint holds.other in
    let number : file ≡ checkpoint_file found.checkpoint.generation = is.newest ∙ heads.1 in
    let there = contents (checkpoint_file found.checkpoint.generation) in
    ap (λ (n : ℕ). checkpoint_calls (body_length_in (contents n))) number ∙ ap checkpoint_calls (has_body_length (checkpoint_layout there) found.checkpoint there holds.checkpoint)

-- the checkpoint that was read is the one that is found
pub record IsTheSame (contents : Contents) (file : ℕ) (found : Opened) (k : Checkpoint) : Type 0 where
  pub logs : AreLogs contents k found.first found.second
  pub body : checkpoint_calls (body_length_in (contents file)) ≡ checkpoint_calls (body_bytes contents found.checkpoint)
  pub calls : logs_calls contents k found.first found.second ≡ logs_calls contents found.checkpoint found.first found.second

pub checkpoint_found : (contents : Contents) (file : ℕ) → IsUsed contents file → (found : Opened) → Holds contents found → (k : Checkpoint) → IsCheckpointIn k (contents file) → IsTheSame contents file found k
checkpoint_found contents file is found holds k checkpoint =
    let heads = used contents found.checkpoint holds.checkpoint holds.other in
    let number : file ≡ checkpoint_file found.checkpoint.generation = is.newest ∙ heads.1 in
    let here = subst (λ (n : ℕ). IsCheckpointIn found.checkpoint (contents n)) (sym number) holds.checkpoint in
    let same : found.checkpoint ≡ k = one_checkpoint (checkpoint_layout (contents file)) (room_for (version_in (contents file))) found.checkpoint k (contents file) here checkpoint in
    record {
      logs = subst (λ (j : Checkpoint). AreLogs contents j found.first found.second) same holds.logs;
      body = body_found contents file is found holds;
      calls = ap (λ (j : Checkpoint). logs_calls contents j found.first found.second) (sym same);
    }
