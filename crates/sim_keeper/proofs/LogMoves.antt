-- A call of the log that succeeds.
use Rattle.std.proofs.Common.{◌≡◌, ◌≢◌, ℕ, ◌+◌, List, length, Option, Some, None, Bool, false, refl, sym, ◌∙◌, ap, subst, arith}
use Rattle.ticket_order.specs.declared.stripe.Entry.{Entry}
use Rattle.disk_model.specs.Files.{File, Files, with_file}
use Rattle.store_layout.specs.Checkpoints.{checkpoint_file}
use Rattle.log_records.specs.Layout.{layout_of}
use Rattle.store_layout.specs.Logs.{log_file}
use Rattle.store_layout.specs.declared.log_phase.Phase.{Phase}
use Rattle.store_layout.specs.declared.log_phase.Phase.TheVariants.{Idle, Header, HeaderWritten, Staged, Written, Synced, Opened}
use Rattle.gate_log.specs.States.{LogState, begun, log_after}
use Rattle.gate_log.specs.LogStates.{IsReady}
use Rattle.checkpoint_file.specs.States.{CheckpointState}
use Rattle.checkpoint_file.specs.CheckpointStates as checkpoint
use Rattle.store_invariant.specs.StoreStates.{IsTurn}
use Rattle.store_invariant.proofs.Places.{checkpoint_is_no_log, elsewhere}
use Rattle.flusher.specs.declared.sweeper.Sweeper.{Sweeper}
use Rattle.flusher.specs.KeeperSteps.{IsPast}
use Rattle.flusher.specs.Rotating.{Logs, MayRotate, due_by, due_in, ended_in, rotated_in, stepped_by}
use Rattle.sim_rules.specs.World.{World, Life, LogWork, Committing, Rotating, Running, gate_after, is_resting}
use Rattle.sim_rules.specs.After.{log_called}
use Rattle.sim_rules.specs.Cases.{phase_of_log}
use Rattle.sim_keeper.specs.Showing.{calls_left, committing, work_by}
use Rattle.sim_keeper.specs.KeeperInWorld.{BeginsBoth, IsWritten}
use Rattle.sim_keeper.proofs.Deciding.{two_ways}

-- the world's log after a call is as the keeper's logs, of which so many commands are staged
pub record Moved (w : World) (l : Life) (g : LogWork) (logs : Logs) (m : ℕ) : Type 0 where
  pub work : (log_called w l g).log ≡ work_by logs.newest logs.next m
  pub phase : phase_of_log (log_called w l g).log ≡ (due_by logs.newest logs.next).phase
  pub committed : (log_called w l g).committed ≡ logs.newest.committed
  pub generation : (log_called w l g).newest ≡ logs.newest.generation
  pub layout : (log_called w l g).layout ≡ layout_of logs.newest.version
  pub gate : (log_called w l g).gate ≡ logs.newest.gate

-- before it
pub record Before (l : Life) (newest : LogState) : Type 0 where
  pub committed : l.committed ≡ newest.committed
  pub generation : l.newest ≡ newest.generation
  pub layout : l.layout ≡ layout_of newest.version
  pub gate : l.gate ≡ newest.gate

same_count : (n m : ℕ) (staged es : List Entry) → length staged ≡ n → length es ≡ m → es ≡ staged → n ≡ m
same_count n m staged es has left_is same = sym has ∙ sym (ap (λ (xs : List Entry). length xs) same) ∙ left_is

-- the log that follows has its header
idle_work : (newest next : LogState) (m : ℕ) → next.phase ≡ Idle → Rotating (calls_left newest.phase) ≡ work_by newest (Some next) m
idle_work newest next m idle = ap (λ ph. Rotating (calls_left (due_in ph newest next).phase)) (sym idle)

idle_due : (newest next : LogState) → next.phase ≡ Idle → newest.phase ≡ (due_by newest (Some next)).phase
idle_due newest next idle = ap (λ ph. (due_in ph newest next).phase) (sym idle)

module _ (w : World) (l : Life) (newest : LogState) (b : Before l newest) where
  -- no log follows
  alone : (ph : Phase) (n m : ℕ) (old left : Sweeper) (staged es : List Entry) → IsReady ph → ph ≢ Idle → length staged ≡ n → length es ≡ m → IsPast None ph old staged left es → (ph ≡ Opened → gate_after w l n ≡ newest.gate + length newest.frame) → newest.count ≡ n
      → Moved w l (committing ph n) (record { newest = log_after ph newest; next = None }) m
  alone Idle n m old left staged es ready moves has left_is past gate count = absurd (moves refl)
  alone Header n m old left staged es ready moves has left_is past gate count = absurd ready
  alone HeaderWritten n m old left staged es ready moves has left_is past gate count = absurd ready
  alone Staged n m old left staged es ready moves has left_is past gate count =
      record { work = ap (λ k. Committing k 3) (same_count n m staged es has left_is past.1); phase = refl; committed = b.committed; generation = b.generation; layout = b.layout; gate = b.gate }
  alone Written n m old left staged es ready moves has left_is past gate count =
      record { work = ap (λ k. Committing k 2) (same_count n m staged es has left_is past.1); phase = refl; committed = b.committed; generation = b.generation; layout = b.layout; gate = b.gate }
  alone Synced n m old left staged es ready moves has left_is past gate count =
      record { work = ap (λ k. Committing k 1) (same_count n m staged es has left_is past.1); phase = refl; committed = b.committed; generation = b.generation; layout = b.layout; gate = b.gate }
  alone Opened n m old left staged es ready moves has left_is past gate count =
      record { work = refl; phase = refl; committed = omega (arith, b.committed, count); generation = b.generation; layout = b.layout; gate = gate refl }

  -- the newest log ends
  ends : (ph : Phase) (next : LogState) (m : ℕ) → IsReady ph → ph ≢ Idle → next.phase ≡ Idle → next ≡ record (begun (newest.generation + 1) newest.committed) { phase = next.phase; is_broken = next.is_broken }
      → Moved w l (Rotating (calls_left ph)) (ended_in ph newest next) m
  ends Idle next m ready moves idle is = absurd (moves refl)
  ends Header next m ready moves idle is = absurd ready
  ends HeaderWritten next m ready moves idle is = absurd ready
  ends Staged next m ready moves idle is =
      record { work = idle_work (log_after Staged newest) next m idle; phase = idle_due (log_after Staged newest) next idle; committed = b.committed; generation = b.generation; layout = b.layout; gate = b.gate }
  ends Written next m ready moves idle is =
      record { work = idle_work (log_after Written newest) next m idle; phase = idle_due (log_after Written newest) next idle; committed = b.committed; generation = b.generation; layout = b.layout; gate = b.gate }
  ends Synced next m ready moves idle is =
      record { work = idle_work (log_after Synced newest) next m idle; phase = idle_due (log_after Synced newest) next idle; committed = b.committed; generation = b.generation; layout = b.layout; gate = b.gate }
  ends Opened next m ready moves idle is = record {
    work = sym (ap (λ ph. committing ph m) idle);
    phase = sym idle;
    committed = b.committed ∙ sym (ap (λ (x : LogState). x.committed) is);
    generation = ap (λ g. g + 1) b.generation ∙ sym (ap (λ (x : LogState). x.generation) is);
    layout = sym (ap (λ (x : LogState). layout_of x.version) is);
    gate = sym (ap (λ (x : LogState). x.gate) is);
  }

  -- one follows
  rotates : (ph : Phase) (next : LogState) (m : ℕ) → next.phase ≡ ph → IsTurn ph newest → IsReady newest.phase → next ≡ record (begun (newest.generation + 1) newest.committed) { phase = next.phase; is_broken = next.is_broken }
      → Moved w l (Rotating (calls_left (due_in ph newest next).phase)) (rotated_in ph newest next) m
  rotates Idle next m e turn ready is = ends newest.phase next m ready turn.0 e is
  rotates Header next m e turn ready is = subst (λ ph. Moved w l (Rotating (calls_left ph)) (rotated_in Header newest next) m) (sym e)
      (record { work = refl; phase = refl; committed = b.committed; generation = b.generation; layout = b.layout; gate = b.gate })
  rotates HeaderWritten next m e turn ready is = subst (λ ph. Moved w l (Rotating (calls_left ph)) (rotated_in HeaderWritten newest next) m) (sym e)
      (record { work = refl; phase = refl; committed = b.committed; generation = b.generation; layout = b.layout; gate = b.gate })
  rotates Staged next m e turn ready is = absurd turn
  rotates Written next m e turn ready is = absurd turn
  rotates Synced next m e turn ready is = absurd turn
  rotates Opened next m e turn ready is = absurd turn

  pub moved : (next : Option LogState) (n m : ℕ) (old left : Sweeper) (staged es : List Entry) → MayRotate next newest staged → IsReady newest.phase → is_resting (work_by newest next n) ≡ false → length staged ≡ n → length es ≡ m
      → IsPast next newest.phase old staged left es → (next ≡ None → newest.phase ≡ Opened → gate_after w l n ≡ newest.gate + length newest.frame) → newest.count ≡ n → Moved w l (work_by newest next n) (stepped_by newest next) m
  moved None n m old left staged es may ready works has left_is past gate count =
      alone newest.phase n m old left staged es ready (λ idle. two_ways (is_resting (committing newest.phase n)) (ap (λ ph. is_resting (committing ph n)) idle) works) has left_is past (gate refl) count
  moved (Some next) n m old left staged es may ready works has left_is past gate count = rotates next.phase next m refl may.turn ready may.is

  -- a call is due
  by_turn : (ph : Phase) (next : LogState) → next.phase ≡ ph → IsTurn ph newest → (due_in ph newest next).phase ≢ Idle
  by_turn Idle next e turn = turn.0
  by_turn Header next e turn = λ idle. header (sym e ∙ idle)
    where
      header : Header ≡ Idle → ⊥
      header e = cc
  by_turn HeaderWritten next e turn = λ idle. header (sym e ∙ idle)
    where
      header : HeaderWritten ≡ Idle → ⊥
      header e = cc
  by_turn Staged next e turn = absurd turn
  by_turn Written next e turn = absurd turn
  by_turn Synced next e turn = absurd turn
  by_turn Opened next e turn = absurd turn

  pub due_moves : (next : Option LogState) (n : ℕ) (staged : List Entry) → MayRotate next newest staged → is_resting (work_by newest next n) ≡ false → (due_by newest next).phase ≢ Idle
  due_moves None n staged may works = λ idle. two_ways (is_resting (committing newest.phase n)) (ap (λ ph. is_resting (committing ph n)) idle) works
  due_moves (Some next) n staged may works = by_turn next.phase next refl may.turn

-- the sweep stays where it is
pub same_sweep : (next : Option LogState) (ph : Phase) (old left : Sweeper) (staged es : List Entry) → IsPast next ph old staged left es → (left.sweep ≡ old.sweep) × (left.walking ≡ old.walking)
same_sweep None Idle old left staged es past = (ap (λ (x : Sweeper). x.sweep) past.0, ap (λ (x : Sweeper). x.walking) past.0)
same_sweep None Header old left staged es past = (ap (λ (x : Sweeper). x.sweep) past.0, ap (λ (x : Sweeper). x.walking) past.0)
same_sweep None HeaderWritten old left staged es past = (ap (λ (x : Sweeper). x.sweep) past.0, ap (λ (x : Sweeper). x.walking) past.0)
same_sweep None Staged old left staged es past = (ap (λ (x : Sweeper). x.sweep) past.0, ap (λ (x : Sweeper). x.walking) past.0)
same_sweep None Written old left staged es past = (ap (λ (x : Sweeper). x.sweep) past.0, ap (λ (x : Sweeper). x.walking) past.0)
same_sweep None Synced old left staged es past = (ap (λ (x : Sweeper). x.sweep) past.0, ap (λ (x : Sweeper). x.walking) past.0)
same_sweep None Opened old left staged es past = (ap (λ (x : Sweeper). x.sweep) past.0, ap (λ (x : Sweeper). x.walking) past.0)
same_sweep (Some next) ph old left staged es past = (ap (λ (x : Sweeper). x.sweep) past.0, ap (λ (x : Sweeper). x.walking) past.0)

-- the checkpoint's file isn't a log's
pub written_beside : (o : Option CheckpointState) (running : Option Running) (g : ℕ) (file : File) (files : Files) → IsWritten o running files → IsWritten o running (with_file (log_file g) file files)
written_beside None running g file files is = is
written_beside (Some w) running g file files is =
    (is.0, is.1, (is.2.0, elsewhere (checkpoint.Stands w is.2.0 is.0) (log_file g) file files (checkpoint_file w.generation) (checkpoint_is_no_log w.generation g) is.2.1))

-- where a log still follows, one did before
pub both_after : (before after : Option LogState) (o : Option CheckpointState) (must_close : Bool) → (before ≡ None → after ≡ None) → BeginsBoth before o must_close → BeginsBoth after o must_close
both_after before None o must_close stays b = tt
both_after None (Some next) o must_close stays b = absurd (none_some (stays refl))
  where
    none_some : {A : Type 0} {x : A} → Some x ≡ None → ⊥
    none_some e = cc
both_after (Some next) (Some after) None must_close stays b = b
both_after (Some next) (Some after) (Some w) must_close stays b = b

-- the logs after a call
pub none_begun : (newest : LogState) (next : Option LogState) → next ≡ None → (stepped_by newest next).next ≡ None
none_begun newest None e = refl
none_begun newest (Some next) e = absurd cc
