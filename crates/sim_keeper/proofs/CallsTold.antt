-- Which calls are due.
use Rattle.std.proofs.Common.{◌≡◌, ℕ, List, Option, None, Some, IfSome, sym, ◌∙◌, ap}
use Rattle.disk_model.specs.Files.{Files, now}
use Rattle.disk_model.specs.Gates.{Call}
use Rattle.store_layout.specs.Checkpoints.{checkpoint_file}
use Rattle.checkpoint_file.specs.States.{CheckpointState}
use Rattle.checkpoint_walk.specs.Checkpointing.{call_due}
use Rattle.gate_log.specs.States.{LogState}
use Rattle.sim_rules.specs.World.{Life, Running}
use Rattle.sim_rules.specs.Due.{checkpoint_call}
use Rattle.sim_keeper.specs.Laws.{CallsAreTold}
use Rattle.sim_keeper.specs.KeeperInWorld.{IsWritten}
use Rattle.sim_keeper.proofs.CheckpointDue.{checkpoint_due}
use Rattle.sim_keeper.proofs.LogDue.{log_due}

-- the call of the checkpoint, where its writer has the life's stripes
told_by : (l : Life) (next : Option LogState) (o : Option CheckpointState) (running : Option Running) (files : Files) (call : Call) → IsWritten o running files → IfSome o (λ v. v.stripes ≡ l.stripes)
    → call_due next o ≡ Some call → (low : ℕ) × (call ≡ checkpoint_call l low running)
told_by l (Some next) o running files call is stripes due = absurd cc
told_by l None None running files call is stripes due = absurd cc
told_by l None (Some v) running files call is stripes due =
    (v.low, checkpoint_due v l is.2.0 is.0 (files (checkpoint_file v.generation)) call is.2.1 stripes due ∙ ap (checkpoint_call l v.low) (sym is.1))

same_stripes : (o : Option CheckpointState) (n m : ℕ) → IfSome o (λ v. v.stripes ≡ n) → n ≡ m → IfSome o (λ v. v.stripes ≡ m)
same_stripes None n m is same = tt
same_stripes (Some v) n m is same = is ∙ same

pub calls_are_told : {D : Type 0} (states : D → List Files) (honest : D → Type 0) → CallsAreTold states honest
calls_are_told {D} states honest n done keeper p w l call f h s works =
    let k = s.store works in (
      λ due. (log_due states honest n done keeper p w l f h works s call due).0,
      told_by l keeper.next keeper.checkpoint l.checkpoint (now (states keeper.disk)) call k.checkpoint (same_stripes keeper.checkpoint n l.stripes f.stripes.writer (sym f.stripes.count ∙ sym s.stripes)),
    )
