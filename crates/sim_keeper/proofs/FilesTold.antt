-- Whose file the next call is of.
use Rattle.std.proofs.Common.{◌≡◌, ℕ, ◌+◌, List, Option, None, Some, refl, sym, ◌∙◌, ap, subst}
use Rattle.disk_model.specs.Files.{Files, now}
use Rattle.store_layout.specs.Logs.{log_file}
use Rattle.store_layout.specs.declared.log_phase.Phase.{Phase}
use Rattle.store_layout.specs.declared.log_phase.Phase.TheVariants.{Idle, Header, HeaderWritten, Staged, Written, Synced, Opened}
use Rattle.checkpoint_file.specs.States.{CheckpointState}
use Rattle.gate_log.specs.LogStates as log
use Rattle.gate_log.specs.States.{LogState}
use Rattle.store_invariant.specs.StoreStates.{IsTurn}
use Rattle.flusher.specs.declared.keeper.Keeper.{Keeper}
use Rattle.flusher.specs.Rotating.{MayRotate, due_by, due_in, due_of, logs_of}
use Rattle.sim_rules.specs.World.{Life, Rotating, Running}
use Rattle.sim_rules.specs.Due.{checkpoint_number, log_number}
use Rattle.sim_keeper.specs.Laws.{FilesAreTold, file_due}
use Rattle.sim_keeper.specs.Showing.{calls_left, committing, work_by}
use Rattle.sim_keeper.specs.KeeperInWorld.{IsWritten}

-- ---- the log

alone : (l : Life) (g m : ℕ) (ph : Phase) → l.newest ≡ g → log_file g ≡ log_number l (committing ph m)
alone l g m Idle same = ap log_file (sym same)
alone l g m ph same = ap log_file (sym same)

ends : (l : Life) (g : ℕ) (ph : Phase) → l.newest ≡ g → log.IsReady ph → log_file g ≡ log_number l (Rotating (calls_left ph))
ends l g Header same ready = absurd ready
ends l g HeaderWritten same ready = absurd ready
ends l g ph same ready = ap log_file (sym same)

turns : (l : Life) (newest next : LogState) (ph : Phase) → l.newest ≡ newest.generation → next.phase ≡ ph → IsTurn ph newest → log.IsReady newest.phase → next.generation ≡ newest.generation + 1
    → log_file (due_in ph newest next).generation ≡ log_number l (Rotating (calls_left (due_in ph newest next).phase))
turns l newest next Idle same at turn ready is = ends l newest.generation newest.phase same ready
turns l newest next Header same at turn ready is = ap log_file (is ∙ ap (λ g. g + 1) (sym same)) ∙ ap (λ ph. log_number l (Rotating (calls_left ph))) (sym at)
turns l newest next HeaderWritten same at turn ready is = ap log_file (is ∙ ap (λ g. g + 1) (sym same)) ∙ ap (λ ph. log_number l (Rotating (calls_left ph))) (sym at)
turns l newest next Staged same at turn ready is = absurd turn
turns l newest next Written same at turn ready is = absurd turn
turns l newest next Synced same at turn ready is = absurd turn
turns l newest next Opened same at turn ready is = absurd turn

by_next : {D : Type 0} (l : Life) (keeper : Keeper D) (next : Option LogState) (m : ℕ) → l.newest ≡ keeper.log.generation → MayRotate next keeper.log keeper.staged.items → log.IsReady keeper.log.phase
    → log_file (due_by keeper.log next).generation ≡ log_number l (work_by keeper.log next m)
by_next {D} l keeper None m same may ready = alone l keeper.log.generation m keeper.log.phase same
by_next {D} l keeper (Some next) m same may ready = turns l keeper.log next next.phase same refl may.turn ready (ap (λ (x : LogState). x.generation) may.is)

-- ---- the checkpoint

written_file : (o : Option CheckpointState) (running : Option Running) (files : Files) → IsWritten o running files → file_due o ≡ checkpoint_number running
written_file None running files is = ap checkpoint_number (sym is)
written_file (Some v) running files is = ap checkpoint_number (sym is.1)

pub files_are_told : {D : Type 0} (states : D → List Files) (honest : D → Type 0) → FilesAreTold states honest
files_are_told {D} states honest n done keeper p w l f h s works =
    let k = s.store works in (
      subst (λ g. log_file (due_of (logs_of keeper)).generation ≡ log_number l g) (sym k.log) (by_next l keeper keeper.next _ k.newest f.rotation (f.stores.works works h).stands.kept.ready),
      written_file keeper.checkpoint l.checkpoint (now (states keeper.disk)) k.checkpoint,
    )
