-- Zeros that are written behind the closed gate, ahead of what is staged.
use Rattle.std.proofs.Common.{◌≡◌, ℕ, ◌+◌, ◌≤◌, List, [], ◌++◌, length, replicate, false, true, Ok, Err, refl, sym, subst, arith}
use Rattle.disk_model.specs.Calls.{Makes, Fails}
use Rattle.disk_model.specs.Files.{File, Files, IsTorn, now, written}
use Rattle.disk_model.specs.Gates.{Call, IsShut, writes}
use Rattle.disk_model.proofs.GateLemmas.{shut_long, shut_torn, shut_written}
use Rattle.map_types.specs.declared.refusals.Refusal.TheVariants.{Failed}
use Rattle.store_layout.specs.Logs.{Batch, log_file}
use Rattle.store_layout.specs.declared.log_phase.Phase.TheVariants.{Staged}
use Rattle.gate_log.specs.States.{LogState}
use Rattle.gate_log.specs.LogStates.{AtPhase, Stands, front_of}
use Rattle.gate_log.specs.LogSteps.{MayAdvance}
use Rattle.gate_log.specs.Ahead.{IsAheadDue, WritesAhead}
use Rattle.gate_log.proofs.StandingLemmas.{reads_in}
use Rattle.gate_log.proofs.AdvanceLemmas.{file_after, moved}

-- whatever stands behind a closed gate
shut_bare : (front behind : List ℕ) (file : File) → IsShut front behind file → IsShut front [] file
shut_bare front behind file shut = record { gate = shut.gate; rest = behind ++ shut.rest; seen = shut.seen; closed = shut.closed; sure = shut.sure }

module _ (log : LogState) (batches staged : List Batch) (old : File) (is : log.phase ≡ Staged) (stands : Stands log batches staged old) where
  abbrev front : List ℕ
  front = front_of log batches

  at : AtPhase Staged log batches staged old
  at = subst (λ p. AtPhase p log batches staged old) is stands.stands

  -- it stands so in each file whose gate is shut
  stands_in : (file : File) → IsShut front [] file → Stands log batches staged file
  stands_in file shut = record { knows = stands.knows; stands = subst (λ p. AtPhase p log batches staged file) (sym is) (at.0, shut) }

  placed_ahead : log.gate + 1 ≤ length old.seen
  placed_ahead = omega (arith, shut_long front [] old at.1, stands.knows.gate)

  stands_written : (bytes : List ℕ) → Stands log batches staged (written (log.gate + 1) bytes old)
  stands_written bytes =
      stands_in (written (log.gate + 1) bytes old) (subst (λ n. IsShut front [] (written (n + 1) bytes old)) (sym stands.knows.gate)
      (shut_bare front bytes (written (length front + 1) bytes old) (shut_written front bytes old at.1)))

  stands_torn : (bytes : List ℕ) (new : File) → IsTorn (log.gate + 1) bytes old new → Stands log batches staged new
  stands_torn bytes new torn = stands_in new (shut_torn front bytes old new at.1 (subst (λ n. IsTorn (n + 1) bytes old new) stands.knows.gate torn))

module _ {D : Type 0} (states : D → List Files) (failures : D → ℕ) (honest : D → Type 0) (log : LogState) (count : ℕ) (disk next : D) (due : IsAheadDue count log) (was_honest : honest next → honest disk) where
  abbrev start : File
  start = now (states disk) (log_file log.generation)

  abbrev call : Call
  call = writes (log.gate + 1) (replicate count 0)

  abbrev after : File
  after = written (log.gate + 1) (replicate count 0) start

  -- the file then
  stands_after : Makes states failures (log_file log.generation) call disk next → (batches staged : List Batch) → Stands log batches staged start
      → Stands log batches staged (now (states next) (log_file log.generation))
  stands_after makes batches staged stands =
      subst (λ f. Stands log batches staged f) (sym (file_after states failures honest log disk next after makes.state))
      (stands_written log batches staged start due.staged stands (replicate count 0))

  pub wrote : Makes states failures (log_file log.generation) call disk next → (new : LogState) → new ≡ log → WritesAhead states failures honest count log new disk next (Ok tt)
  wrote makes new is = record {
    due = due;
    was_honest = was_honest;
    ok = (is, makes);
    err = tt;
    stands = λ batches staged stands. subst (λ l. Stands l batches staged (now (states next) (log_file log.generation))) (sym is) (stands_after makes batches staged stands);
    any_moment = λ batches staged stands.
        let there = stands_written log batches staged start due.staged stands (replicate count 0) in
        moved states failures honest log disk next after makes.state batches staged stands
        (λ ready content left. reads_in log batches there.knows log.phase staged after there.stands ready content left);
  }

  pub failed : Fails states failures (log_file log.generation) call disk next → (new : LogState) → new ≡ record log { is_broken = true } → WritesAhead states failures honest count log new disk next (Err Failed)
  failed fails new is = record {
    due = due;
    was_honest = was_honest;
    ok = tt;
    err = (refl, is, fails);
    stands = tt;
    any_moment = λ batches staged stands.
        let torn = fails.may (placed_ahead log batches staged start due.staged stands) in
        let there = stands_torn log batches staged start due.staged stands (replicate count 0) fails.left torn in
        moved states failures honest log disk next fails.left fails.state batches staged stands
        (λ ready content left. reads_in log batches there.knows log.phase staged fails.left there.stands ready content left);
  }

  -- the log may go on
  pub may_go_on : Makes states failures (log_file log.generation) call disk next → log.is_broken ≡ false → (new : LogState) → new ≡ log → MayAdvance states honest log disk → MayAdvance states honest new next
  may_go_on makes works new is may = λ works_on honest_on.
      let (batches, staged, stands) = may works (was_honest honest_on) in
      (batches, staged, subst (λ (l : LogState). Stands l batches staged (now (states next) (log_file l.generation))) (sym is) (stands_after makes batches staged stands))
