-- The phases in which a sync is due.
use Rattle.std.proofs.Common.{◌≡◌, ◌⊎◌, inl, inr, Some, ap}
use Rattle.disk_model.specs.Gates.{syncs}
use Rattle.store_layout.specs.declared.checkpoint_phase.CheckpointPhase.TheVariants.{GateWritten, HeaderWritten, Opened}
use Rattle.checkpoint_file.specs.States.{CheckpointState, call_in}

pub sync_due : (w : CheckpointState) → (w.phase ≡ GateWritten) ⊎ ((w.phase ≡ HeaderWritten) ⊎ (w.phase ≡ Opened)) → call_in w.phase w ≡ Some syncs
sync_due w (inl is) = ap (λ p. call_in p w) is
sync_due w (inr (inl is)) = ap (λ p. call_in p w) is
sync_due w (inr (inr is)) = ap (λ p. call_in p w) is
