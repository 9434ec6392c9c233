-- The keeper's logs, and what a step of them does. In a rotation a second log is begun, and then the newest one ends.
use Rattle.std.specs.Prelude.{◌≡◌, ℕ, ◌+◌, true, List, [], Option, None, Some, Result, Ok, IfOk, IfErr}
use Rattle.disk_model.specs.Calls.{Makes, Fails}
use Rattle.disk_model.specs.Files.{Files}
use Rattle.disk_model.specs.Gates.{Call}
use Rattle.map_types.specs.declared.refusals.Refusal.{Refusal}
use Rattle.map_types.specs.declared.refusals.Refusal.TheVariants.{Failed}
use Rattle.ticket_order.specs.declared.stripe.Entry.{Entry}
use Rattle.store_layout.specs.Logs.{log_file}
use Rattle.store_layout.specs.declared.log_phase.Phase.{Phase}
use Rattle.store_layout.specs.declared.log_phase.Phase.TheVariants.{Idle, Header, HeaderWritten, Staged, Opened}
use Rattle.gate_log.specs.States.{LogState, begun, call_in, log_after}
use Rattle.gate_log.specs.LogStates.{IsReady}
use Rattle.store_invariant.specs.StoreStates.{IsTurn}
use Rattle.flusher.specs.declared.keeper.Keeper.{Keeper}

-- the newest log, and during a rotation the one that is to follow it
pub record Logs : Type 0 where
  pub newest : LogState
  pub next : Option LogState

abbrev pub logs_of : {D : Type 0} → Keeper D → Logs
logs_of keeper = record { newest = keeper.log; next = keeper.next }

-- ---- whose device call it is

-- first the header of the log that follows is written, then the newest one ends
abbrev pub due_in : Phase → LogState → LogState → LogState
due_in Header newest next = next
due_in HeaderWritten newest next = next
due_in phase newest next = newest

abbrev pub due_by : LogState → Option LogState → LogState
due_by newest None = newest
due_by newest (Some next) = due_in next.phase newest next

-- the log whose device call comes next
abbrev pub due_of : Logs → LogState
due_of logs = due_by logs.newest logs.next

-- ---- the logs after that call

-- after the last step of its end the newest log is over
abbrev pub ended_in : Phase → LogState → LogState → Logs
ended_in Opened newest next = record { newest = next; next = None }
ended_in phase newest next = record { newest = log_after phase newest; next = Some next }

-- once the header of the log that follows is on the disk, the end frame of the newest one is staged
abbrev pub rotated_in : Phase → LogState → LogState → Logs
rotated_in Header newest next = record { newest = newest; next = Some (log_after Header next) }
rotated_in HeaderWritten newest next =
    record {
      newest = record newest { phase = Staged; ending = Some next.generation };
      next = Some
          (log_after HeaderWritten next);
    }
rotated_in phase newest next = ended_in newest.phase newest next

abbrev pub stepped_by : LogState → Option LogState → Logs
stepped_by newest None = record { newest = log_after newest.phase newest; next = None }
stepped_by newest (Some next) = rotated_in next.phase newest next

-- the call has succeeded
abbrev pub stepped : Logs → Logs
stepped logs = stepped_by logs.newest logs.next

abbrev pub broken_in : Phase → LogState → LogState → Logs
broken_in Header newest next = record { newest = newest; next = Some (record next { is_broken = true }) }
broken_in HeaderWritten newest next = record { newest = newest; next = Some (record next { is_broken = true }) }
broken_in phase newest next = record { newest = record newest { is_broken = true }; next = Some next }

abbrev pub broken_by : LogState → Option LogState → Logs
broken_by newest None = record { newest = record newest { is_broken = true }; next = None }
broken_by newest (Some next) = broken_in next.phase newest next

-- the call has failed
abbrev pub broken : Logs → Logs
broken logs = broken_by logs.newest logs.next

-- One step of the logs, in one of which a device call is due: it makes that call, and no other.
pub record StepsLogs {D : Type 0} (states : D → List Files) (failures : D → ℕ) (honest : D → Type 0) (old new : Logs)
    (disk_old disk_new : D) (result : Result Phase Refusal) : Type 0 where
  pub call : Call
  pub due : call_in (due_of old).phase (due_of old) ≡ Some call
  pub was_honest : honest disk_new → honest disk_old
  -- if it succeeds, the logs go on, and the phase is that of the log whose call comes next
  pub ok : IfOk result (λ phase. (new ≡ stepped old) × (phase ≡ (due_of new).phase)
      × Makes states failures (log_file (due_of old).generation) call disk_old disk_new)
  -- if it fails, nothing of the logs changes but that one has failed
  pub err : IfErr result (λ refusal. (refusal ≡ Failed) × (new ≡ broken old)
      × Fails states failures (log_file (due_of old).generation) call disk_old disk_new)

-- once its header is on the disk the newest log is told to end with this generation
abbrev pub IsTold : Result Phase Refusal → ℕ → LogState → LogState → Result Phase Refusal → Type 0
IsTold (Ok Idle) generation old new result =
    (result ≡ Ok Staged) × (new ≡ record old { phase = Staged; ending = Some generation })
IsTold stepped generation old new result = (result ≡ stepped) × (new ≡ old)

-- ---- between the calls

-- The log that follows is begun behind the committed commands, and has its header alone. While that is written the
-- newest log rests; then the newest one ends. No batch is staged.
pub record Rotates (next newest : LogState) (staged : List Entry) : Type 0 where
  pub is : next ≡ record
      (begun (newest.generation + 1) newest.committed) { phase = next.phase; is_broken = next.is_broken }
  pub turn : IsTurn next.phase newest
  pub ready : IsReady newest.phase
  pub none_staged : staged ≡ []

-- no log follows, and the newest one goes on; or one does
abbrev pub MayRotate : Option LogState → LogState → List Entry → Type 0
MayRotate None newest staged = newest.ending ≡ None
MayRotate (Some next) newest staged = Rotates next newest staged
