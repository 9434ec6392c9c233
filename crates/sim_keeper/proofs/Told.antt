-- What can be read off the keeper.
use Rattle.std.proofs.Common.{◌≡◌, ◌≢◌, ℕ, List, length, Option, Some, None, is_some, true, false, ◌&&◌, ◌||◌, not, refl, sym, ◌∙◌, ap}
use Rattle.ticket_order.specs.declared.record.Record.{Record}
use Rattle.ticket_order.specs.declared.stripe.Entry.{Entry}
use Rattle.ticket_order.specs.declared.walk.Walk.{Walk}
use Rattle.ticket_order.specs.Records.{reach}
use Rattle.ticket_order.specs.Walks.{next_kind}
use Rattle.disk_model.specs.Files.{Files, now}
use Rattle.store_layout.specs.Checkpoints.{Section}
use Rattle.store_layout.specs.declared.log_phase.Phase.{Phase}
use Rattle.store_layout.specs.declared.log_phase.Phase.TheVariants as log_phase
use Rattle.gate_log.specs.States.{LogState, call_in}
use Rattle.store_layout.specs.declared.checkpoint_phase.CheckpointPhase.{CheckpointPhase}
use Rattle.store_layout.specs.declared.checkpoint_phase.CheckpointPhase.TheVariants.{Idle, Gate, GateWritten, GateSynced, Ready, Staged, Header, HeaderWritten, HeaderSynced, Opened, Sealed}
use Rattle.checkpoint_file.specs.States as checkpoint
use Rattle.checkpoint_file.specs.States.{CheckpointState}
use Rattle.store_invariant.specs.StoreStates.{IsTurn}
use Rattle.flusher.specs.declared.sweeper.Walking.{Walking}
use Rattle.flusher.specs.declared.sweeper.Walking.TheVariants as walking
use Rattle.flusher.specs.KeeperSteps.{is_walking}
use Rattle.flusher.specs.Rotating.{MayRotate, due_by, due_in}
use Rattle.checkpoint_walk.specs.Checkpointing.{call_due}
use Rattle.sim_rules.specs.World.{Running, has_checkpoint_call, is_resting, is_rotating, rests}
use Rattle.sim_keeper.specs.Laws.{CheckpointCallIsTold, LogCallIsTold, WalkIsTold}
use Rattle.sim_keeper.specs.Showing.{committing, running_in, walk_by, work_by}
use Rattle.sim_keeper.specs.KeeperInWorld.{IsWritten}
use Rattle.sim_keeper.proofs.Staging.{capture_walks}

-- ---- its walk

always_walks : (v : Walking) → false ≡ not (is_walking v || true)
always_walks walking.Rests = refl
always_walks walking.SweepTakes = refl
always_walks (walking.SweepGives walk) = refl

walks : (n : ℕ) (v : Walking) (o : Option Walk) (p : Record) → rests (walk_by n v o p) ≡ not (is_walking v || is_some o)
walks n walking.Rests None p = refl
walks n walking.SweepTakes None p = refl
walks n (walking.SweepGives walk) None p = refl
walks n v (Some walk) p = capture_walks (next_kind n walk) (reach p) ∙ always_walks v

pub walk_is_told : {D : Type 0} (states : D → List Files) → WalkIsTold states
walk_is_told {D} states keeper p w l s = ap rests s.walk ∙ walks keeper.stripes.count keeper.sweeper.walking keeper.capture p

-- ---- a call of the log

alone : (ph : Phase) (log : LogState) (n : ℕ) → not (is_resting (committing ph n)) ≡ is_some (call_in ph log)
alone log_phase.Idle log n = refl
alone log_phase.Header log n = refl
alone log_phase.HeaderWritten log n = refl
alone log_phase.Staged log n = refl
alone log_phase.Written log n = refl
alone log_phase.Synced log n = refl
alone log_phase.Opened log n = refl

moving : (ph : Phase) (log : LogState) → ph ≢ log_phase.Idle → true ≡ is_some (call_in ph log)
moving log_phase.Idle log h = absurd (h refl)
moving log_phase.Header log h = refl
moving log_phase.HeaderWritten log h = refl
moving log_phase.Staged log h = refl
moving log_phase.Written log h = refl
moving log_phase.Synced log h = refl
moving log_phase.Opened log h = refl

rotating : (ph : Phase) (newest next : LogState) → next.phase ≡ ph → IsTurn ph newest → true ≡ is_some (call_in (due_in ph newest next).phase (due_in ph newest next))
rotating log_phase.Idle newest next e turn = moving newest.phase newest turn.0
rotating log_phase.Header newest next e turn = ap (λ ph. is_some (call_in ph next)) (sym e)
rotating log_phase.HeaderWritten newest next e turn = ap (λ ph. is_some (call_in ph next)) (sym e)
rotating log_phase.Staged newest next e turn = absurd turn
rotating log_phase.Written newest next e turn = absurd turn
rotating log_phase.Synced newest next e turn = absurd turn
rotating log_phase.Opened newest next e turn = absurd turn

log_due : (newest : LogState) (next : Option LogState) (n : ℕ) (staged : List Entry) → MayRotate next newest staged → not (is_resting (work_by newest next n)) ≡ is_some (call_in (due_by newest next).phase (due_by newest next))
log_due newest None n staged may = alone newest.phase newest n
log_due newest (Some next) n staged may = rotating next.phase newest next refl may.turn

pub log_call_is_told : {D : Type 0} (states : D → List Files) (honest : D → Type 0) → LogCallIsTold states honest
log_call_is_told {D} states honest n done keeper p w l f s works =
    ap (λ g. not (is_resting g)) (s.store works).log ∙ log_due keeper.log keeper.next (length keeper.staged.items) keeper.staged.items f.rotation

-- ---- a call of the checkpoint

never_rotates : (ph : Phase) (n : ℕ) → is_rotating (committing ph n) ≡ false
never_rotates log_phase.Idle n = refl
never_rotates log_phase.Header n = refl
never_rotates log_phase.HeaderWritten n = refl
never_rotates log_phase.Staged n = refl
never_rotates log_phase.Written n = refl
never_rotates log_phase.Synced n = refl
never_rotates log_phase.Opened n = refl

in_phase : (ph : CheckpointPhase) (v : CheckpointState) (sections : List Section)
    → has_checkpoint_call (Some (running_in ph v sections)) ≡ is_some (checkpoint.call_in ph v)
in_phase Idle v sections = refl
in_phase Gate v sections = refl
in_phase GateWritten v sections = refl
in_phase GateSynced v sections = refl
in_phase Ready v sections = refl
in_phase Staged v sections = refl
in_phase Header v sections = refl
in_phase HeaderWritten v sections = refl
in_phase HeaderSynced v sections = refl
in_phase Opened v sections = refl
in_phase Sealed v sections = refl

checkpoint_due : (newest : LogState) (next : Option LogState) (n : ℕ) (o : Option CheckpointState) (running : Option Running) (files : Files) → IsWritten o running files
    → (not (is_rotating (work_by newest next n)) && has_checkpoint_call running) ≡ is_some (call_due next o)
checkpoint_due newest (Some next) n o running files is = refl
checkpoint_due newest None n None running files is = ap (λ b. not b && has_checkpoint_call running) (never_rotates newest.phase n) ∙ ap has_checkpoint_call is
checkpoint_due newest None n (Some v) running files is =
    ap (λ b. not b && has_checkpoint_call running) (never_rotates newest.phase n) ∙ ap has_checkpoint_call is.1 ∙ in_phase v.phase v is.0

pub checkpoint_call_is_told : {D : Type 0} (states : D → List Files) → CheckpointCallIsTold states
checkpoint_call_is_told {D} states keeper p w l s works =
    let k = s.store works in
    ap (λ g. not (is_rotating g) && has_checkpoint_call l.checkpoint) k.log ∙ checkpoint_due keeper.log keeper.next (length keeper.staged.items) keeper.checkpoint l.checkpoint (now (states keeper.disk)) k.checkpoint
