-- The sealed checkpoint stays, also where a device call fails.
use Rattle.std.proofs.Common.{◌≡◌, ◌≢◌, ◌↔◌, ℕ, ◌+◌, List, Option, None, Some, Bool, true, false, Result, Ok, Err, OnOk, OnErr, sym, ap, subst, ◌∙◌, arith}
use Rattle.std.proofs.lemmas.Bool.Decides.{nat_tests}
use Rattle.disk_model.specs.Calls.{Fails}
use Rattle.disk_model.specs.Files.{File, Files, now, with_file}
use Rattle.disk_model.specs.Gates.{Call}
use Rattle.map_types.specs.declared.refusals.Refusal.{Refusal}
use Rattle.map_types.specs.declared.refusals.Refusal.TheVariants.{Failed}
use Rattle.store_layout.specs.Checkpoints.{checkpoint_file}
use Rattle.store_layout.specs.Logs.{log_file}
use Rattle.store_layout.specs.declared.log_phase.Phase.{Phase}
use Rattle.store_layout.specs.declared.log_phase.Phase.TheVariants.{Idle}
use Rattle.gate_log.specs.States.{LogState}
use Rattle.store_layout.specs.declared.checkpoint_phase.CheckpointPhase.{CheckpointPhase}
use Rattle.checkpoint_file.specs.States.{CheckpointState}
use Rattle.store_invariant.specs.StoreStates.{IsSealedIn}
use Rattle.flusher.specs.declared.keeper.Keeper.{Keeper}
use Rattle.flusher.specs.HandSteps.{SameEntries}
use Rattle.flusher.specs.KeeperSteps.{committed_by}
use Rattle.flusher.specs.Rotating.{StepsLogs, due_of, logs_of}
use Rattle.checkpoint_walk.specs.Checkpointing.{Checkpoints, StepsCheckpoint, call_due, phase_of}
use Rattle.durable_map.specs.LockedKeepers.{IsSealedWithin, KeepsSealed}

untouched : (number : ℕ) (file : File) (files : Files) (n : ℕ) → n ≢ number → with_file number file files n ≡ files n
untouched number file files n other = grind (arith, nat_tests)

pub not_of_a_log : (sealed g : ℕ) → checkpoint_file sealed ≢ log_file g
not_of_a_log sealed g e = omega (arith, e)

pub not_of_the_next : (sealed g : ℕ) → g ≡ sealed + 1 → checkpoint_file sealed ≢ checkpoint_file g
not_of_the_next sealed g next e = omega (arith, e, next)

module _ {D : Type 0} (states : D → List Files) (failures : D → ℕ) (honest : D → Type 0) where
  -- a device call of another file failed
  pub fails_elsewhere : (number : ℕ) (call : Call) (generation committed : ℕ) (old new : D) → Fails states failures number call old new → checkpoint_file generation ≢ number
      → IsSealedWithin generation committed (now (states old)) → IsSealedWithin generation committed (now (states new))
  fails_elsewhere number call generation committed old new f other s =
      let files = now (states old) in
      let is : now (states new) ≡ with_file number f.left files = ap now f.state in
      let file : now (states new) (checkpoint_file generation) ≡ files (checkpoint_file generation) = ap (λ (x : Files). x (checkpoint_file generation)) is ∙ untouched number f.left files (checkpoint_file generation) other in record {
        checkpoint = s.checkpoint;
        generation_is = s.generation_is;
        sealed = subst (λ (x : File). IsSealedIn s.checkpoint x) (sym file) s.sealed;
        reached = s.reached;
      }

  -- the disk, the sealed checkpoint and the committed count are as they were
  pub sealed_on : (old new : Keeper D) → new.disk ≡ old.disk → new.sealed ≡ old.sealed → new.log.committed ≡ old.log.committed → KeepsSealed states honest old → KeepsSealed states honest new
  sealed_on old new disk sealed committed k =
      subst (λ (d : D). honest d → IsSealedWithin new.sealed new.log.committed (now (states d))) (sym disk)
      (subst (λ (g : ℕ). honest old.disk → IsSealedWithin g new.log.committed (now (states old.disk))) (sym sealed)
      (subst (λ (c : ℕ). honest old.disk → IsSealedWithin old.sealed c (now (states old.disk))) (sym committed) k))

  pub sealed_after : (old new : Keeper D) → new ≡ old → KeepsSealed states honest old → KeepsSealed states honest new
  sealed_after old new same k = subst (λ (x : Keeper D). KeepsSealed states honest x) (sym same) k

  -- ---- a batch is staged

  pub staged : {A : Type 0} (old new : Keeper D) (result : Result A Refusal) → (result ≡ Err Failed) ↔ (old.is_broken ≡ true) → OnErr result ((new.log ≡ old.log) × (new.staged ≡ old.staged) × SameEntries old.sweeper.in_hand new.sweeper.in_hand)
      → new ≡ record old { log = new.log; sweeper = record old.sweeper { in_hand = new.sweeper.in_hand }; staged = new.staged } → KeepsSealed states honest old → new.is_broken ≡ true → KeepsSealed states honest new
  staged old new result failed err same k broken =
      let refused = failed.1 (sym (ap (λ (x : Keeper D). x.is_broken) same) ∙ broken) in
      let logs = subst (λ r. OnErr r ((new.log ≡ old.log) × (new.staged ≡ old.staged) × SameEntries old.sweeper.in_hand new.sweeper.in_hand)) refused err in
      sealed_on old new (ap (λ (x : Keeper D). x.disk) same) (ap (λ (x : Keeper D). x.sealed) same) (ap (λ (l : LogState). l.committed) logs.0) k

  -- ---- a device call of the logs

  logs_fail : (old new : Keeper D) (e : Refusal) → new.sealed ≡ old.sealed → new.log.committed ≡ old.log.committed → StepsLogs states failures honest (logs_of old) (logs_of new) old.disk new.disk (Err e) → KeepsSealed states honest old → KeepsSealed states honest new
  logs_fail old new e sealed committed s k = λ honestly.
      subst (λ (g : ℕ). IsSealedWithin g new.log.committed (now (states new.disk))) (sym sealed)
      (subst (λ (c : ℕ). IsSealedWithin old.sealed c (now (states new.disk))) (sym committed)
      (fails_elsewhere _ s.call old.sealed old.log.committed old.disk new.disk s.err.2 (not_of_a_log old.sealed (due_of (logs_of old)).generation) (k (s.was_honest honestly))))

  pub logs_stepped : (old new : Keeper D) (result : Result Phase Refusal) (was_broken : Bool) → old.is_broken ≡ was_broken → (old.is_broken ≡ true → (result ≡ Err Failed) × (new ≡ old))
      → (old.is_broken ≡ false → (due_of (logs_of old)).phase ≡ Idle → (result ≡ Ok Idle) × (new ≡ old)) → (old.is_broken ≡ false → (due_of (logs_of old)).phase ≢ Idle → StepsLogs states failures honest (logs_of old) (logs_of new) old.disk new.disk result)
      → new.log.committed ≡ old.log.committed + committed_by result old.log.phase old.staged.items → OnOk result (new.is_broken ≡ false) → new.sealed ≡ old.sealed → KeepsSealed states honest old → new.is_broken ≡ true → KeepsSealed states honest new
  logs_stepped old new result true is failed rests steps committed works sealed k broken = sealed_after old new (failed is).1 k
  logs_stepped old new (Ok phase) false is failed rests steps committed works sealed k broken = absurd (let no : false ≡ true = sym works ∙ broken in cc)
  logs_stepped old new (Err e) false is failed rests steps committed works sealed k broken = logs_fail old new e sealed (omega (arith, committed)) (steps is (λ idle. let no = (rests is idle).0 in cc)) k

  -- ---- a device call in the file of a checkpoint

  checkpoint_fails : (old new : Keeper D) (call : Call) (w : CheckpointState) (e : Refusal) → new.log ≡ old.log → (honest old.disk → w.generation ≡ old.sealed + 1) → StepsCheckpoint states failures honest call w old new (Err e) → KeepsSealed states honest old → KeepsSealed states honest new
  checkpoint_fails old new call w e logs next s k = λ honestly.
      let was = s.was_honest honestly in
      let sealed : new.sealed ≡ old.sealed = ap (λ (x : Checkpoints). x.sealed) s.err.1 in
      subst (λ (g : ℕ). IsSealedWithin g new.log.committed (now (states new.disk))) (sym sealed)
      (subst (λ (l : LogState). IsSealedWithin old.sealed l.committed (now (states new.disk))) (sym logs)
      (fails_elsewhere _ call old.sealed old.log.committed old.disk new.disk s.err.2 (not_of_the_next old.sealed w.generation (next was)) (k was)))

  none_due : (next : Option LogState) (writer : Option CheckpointState) (call : Call) → call_due next writer ≡ Some call → writer ≡ None → ⊥
  none_due (Some l) writer call due none = let no : None ≡ Some call = due in cc
  none_due None None call due none = let no : None ≡ Some call = due in cc
  none_due None (Some w) call due none = let no : Some w ≡ None = none in cc

  pub checkpoint_stepped : (old new : Keeper D) (result : Result CheckpointPhase Refusal) (was_broken : Bool) (due : Option Call) (writer : Option CheckpointState) → old.is_broken ≡ was_broken → call_due old.next old.checkpoint ≡ due → old.checkpoint ≡ writer
      → (old.is_broken ≡ true → (result ≡ Err Failed) × (new ≡ old)) → (old.is_broken ≡ false → call_due old.next old.checkpoint ≡ None → (result ≡ Ok (phase_of old.checkpoint)) × (new ≡ old))
      → (old.is_broken ≡ false → (call : Call) (w : CheckpointState) → call_due old.next old.checkpoint ≡ Some call → old.checkpoint ≡ Some w → StepsCheckpoint states failures honest call w old new result)
      → (old.is_broken ≡ false → honest old.disk → (w : CheckpointState) → old.checkpoint ≡ Some w → w.generation ≡ old.sealed + 1) → OnOk result (new.is_broken ≡ false) → new.log ≡ old.log → KeepsSealed states honest old → new.is_broken ≡ true → KeepsSealed states honest new
  checkpoint_stepped old new result true due writer is due_is writer_is failed rests steps next works logs k broken = sealed_after old new (failed is).1 k
  checkpoint_stepped old new result false None writer is due_is writer_is failed rests steps next works logs k broken = sealed_after old new (rests is due_is).1 k
  checkpoint_stepped old new result false (Some call) None is due_is writer_is failed rests steps next works logs k broken = absurd (none_due old.next old.checkpoint call due_is writer_is)
  checkpoint_stepped old new (Ok phase) false (Some call) (Some w) is due_is writer_is failed rests steps next works logs k broken = absurd (let no : false ≡ true = sym works ∙ broken in cc)
  checkpoint_stepped old new (Err e) false (Some call) (Some w) is due_is writer_is failed rests steps next works logs k broken = checkpoint_fails old new call w e logs (λ honestly. next is honestly w writer_is) (steps is call w due_is writer_is) k
