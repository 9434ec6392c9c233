-- The phases in which a sync is due.
use Rattle.std.proofs.Common.{◌≡◌, ◌⊎◌, inl, inr, Some, ap}
use Rattle.disk_model.specs.Gates.{syncs}
use Rattle.store_layout.specs.declared.log_phase.Phase.TheVariants.{HeaderWritten, Written, Opened}
use Rattle.gate_log.specs.States.{LogState, call_in}

pub sync_due : (log : LogState) → (log.phase ≡ HeaderWritten) ⊎ ((log.phase ≡ Written) ⊎ (log.phase ≡ Opened)) → call_in log.phase log ≡ Some syncs
sync_due log (inl is) = ap (λ p. call_in p log) is
sync_due log (inr (inl is)) = ap (λ p. call_in p log) is
sync_due log (inr (inr is)) = ap (λ p. call_in p log) is
