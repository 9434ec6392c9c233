use Rattle.std.proofs.Common.{◌≡◌, ◌+◌, ℕ, List, inr, sym, subst, arith}
use Rattle.std.proofs.lemmas.Result.{err_from_is_err_and}
use Rattle.store_layout.specs.Opening.{Contents, log_layout}
use Rattle.store_layout.specs.Logs.{log_file}
use Rattle.store_layout.proofs.Refused.{of_files}
use Rattle.disk_model.proofs.LookLemmas.{looks_on}
use Rattle.gate_log.proofs.Scanning.{same_bytes}
use Rattle.gate_log.specs.States.{begun}
use Rattle.file_pieces.specs.Counting.{Made}
use Rattle.store_layout.specs.Calls.{log_calls}
use Rattle.recovery.specs.declared.replay.End.{End}
use Rattle.recovery.specs.declared.replay.End.TheVariants.{Closed, Ended}
use Rattle.recovery.specs.LogReading.{EndsAt, IsBadLog, IsLogRead, checkpoint_with, contents_of, end_gate}
use Rattle.recovery.proofs.CallLemmas.{first_ends, never_twice, next_ends, one_log_calls, two_logs_calls}
use Rattle.recovery.proofs.LogReadingLemmas.{ended_twice, first_bad, first_end, next_bad, refuses_more, two_ends, two_logs}
use Rattle.recovery.proofs.logs.read_logs.Goals as goal

pub returns-in_err-end-clause-err : goal.returns-in_err-end-clause-err
returns-in_err-end-clause-err g c = λ honest stripes sections.
    let q = err_from_is_err_and c.from_residual.result c.from_residual.ensures.1 in
    let contents : Contents = contents_of g.D.Disk.states c.args.disk.now in
    let k = checkpoint_with c.args.generation c.args.low stripes sections in
    rw (q.1, q.2) (refuses_more _ _ _ (first_bad contents k c.args.restoring.now c.args.restoring.now c.args.restoring.now (begun 0 0) _) (c.in_err-end.ensures.err honest))

pub returns-in_err-end-2-clause-looks : goal.returns-in_err-end-2-clause-looks
returns-in_err-end-2-clause-looks g c =
    let q = err_from_is_err_and c.from_residual-in_err-end-2.result c.from_residual-in_err-end-2.ensures.1 in
    rw (q.1, q.2)
    (looks_on g.D.Disk.states g.D.Disk.failures g.D.Disk.honest _ c.args.disk.now c.read_log.new.disk c.read_log-2.new.disk c.in_ok-end.ensures.looks c.in_err-end-2.ensures.looks)

pub returns-in_err-end-2-clause-err : goal.returns-in_err-end-2-clause-err
returns-in_err-end-2-clause-err g c = λ honest stripes sections.
    let q = err_from_is_err_and c.from_residual-in_err-end-2.result c.from_residual-in_err-end-2.ensures.1 in
    let contents : Contents = contents_of g.D.Disk.states c.args.disk.now in
    let k = checkpoint_with c.args.generation c.args.low stripes sections in
    let end : c.in_ok-end.end ≡ Ended = two_ends c.in_ok-end.end (λ is. absurd (let same = rw is at c.if-eq.ensures in cc)) in
    let next : c.in-Some.next ≡ c.args.generation + 1 = (let more = c.in-Some.ensures in omega (arith, more)) in
    let read = subst (λ x. IsLogRead c.args.generation c.args.low (contents (log_file c.args.generation)) c.args.restoring.now x c.in_ok-end.first c.read_log.new.restoring) end (c.in_ok-end.ensures.ok (c.in_err-end-2.ensures.looks.was_honest honest)) in
    let same = same_bytes g.D.Disk.states g.D.Disk.failures g.D.Disk.honest 0 c.args.disk.now c.read_log.new.disk c.in-Some.next c.in_ok-end.ensures.looks in
    rw (q.1, q.2)
    (refuses_more _ _ _ (next_bad contents k c.args.restoring.now c.read_log.new.restoring c.read_log-2.new.restoring c.in_ok-end.first read c.in-Some.next c.in_err-end-2.field-0.0 next)
    (refuses_more _ _ _ (λ bad. subst (λ content. IsBadLog c.in-Some.next c.in_ok-end.first.committed content c.in_err-end-2.field-0.0) same bad) (rw c.committed.ensures at (c.in_err-end-2.ensures.err honest))))

pub returns-in-Closed-clause-looks : goal.returns-in-Closed-clause-looks
returns-in-Closed-clause-looks g c =
    looks_on g.D.Disk.states g.D.Disk.failures g.D.Disk.honest 0 c.args.disk.now c.read_log.new.disk c.read_log-2.new.disk c.in_ok-end.ensures.looks c.in_ok-end-2.ensures.looks

pub returns-in-Closed-clause-some : goal.returns-in-Closed-clause-some
returns-in-Closed-clause-some g c = λ some. c.in_ok-end-2.ensures.some (c.in_ok-end.ensures.some some)

pub returns-in-Closed-clause-ok : goal.returns-in-Closed-clause-ok
returns-in-Closed-clause-ok g c = λ honest stripes sections.
    let contents : Contents = contents_of g.D.Disk.states c.args.disk.now in
    let k = checkpoint_with c.args.generation c.args.low stripes sections in
    let end : c.in_ok-end.end ≡ Ended = two_ends c.in_ok-end.end (λ is. absurd (let same = rw is at c.if-eq.ensures in cc)) in
    let next : c.in-Some.next ≡ c.args.generation + 1 = (let more = c.in-Some.ensures in omega (arith, more)) in
    let read = subst (λ x. IsLogRead c.args.generation c.args.low (contents (log_file c.args.generation)) c.args.restoring.now x c.in_ok-end.first c.read_log.new.restoring) end (c.in_ok-end.ensures.ok (c.in_ok-end-2.ensures.looks.was_honest honest)) in
    let same = same_bytes g.D.Disk.states g.D.Disk.failures g.D.Disk.honest 0 c.args.disk.now c.read_log.new.disk c.in-Some.next c.in_ok-end.ensures.looks in
    let other = subst (λ x. IsLogRead c.in-Some.next c.in_ok-end.first.committed (contents (log_file c.in-Some.next)) c.read_log.new.restoring x c.in_ok-end-2.second c.read_log-2.new.restoring) c.in-Closed.is
    (subst (λ content. IsLogRead c.in-Some.next c.in_ok-end.first.committed content c.read_log.new.restoring c.in_ok-end-2.end c.in_ok-end-2.second c.read_log-2.new.restoring) same (rw c.committed.ensures at (c.in_ok-end-2.ensures.ok honest))) in
    two_logs contents k c.args.restoring.now c.read_log.new.restoring c.read_log-2.new.restoring c.in_ok-end.first read c.in-Some.next next c.in_ok-end-2.second c.in_ok-end.ensures.same other

pub returns-clause-looks : goal.returns-clause-looks
returns-clause-looks g c =
    rw (c.damaged-in-Ended.ensures)
    (looks_on g.D.Disk.states g.D.Disk.failures g.D.Disk.honest 0 c.args.disk.now c.read_log.new.disk c.read_log-2.new.disk c.in_ok-end.ensures.looks c.in_ok-end-2.ensures.looks)

pub returns-clause-err : goal.returns-clause-err
returns-clause-err g c = λ honest stripes sections.
    let contents : Contents = contents_of g.D.Disk.states c.args.disk.now in
    let k = checkpoint_with c.args.generation c.args.low stripes sections in
    let end : c.in_ok-end.end ≡ Ended = two_ends c.in_ok-end.end (λ is. absurd (let same = rw is at c.if-eq.ensures in cc)) in
    let next : c.in-Some.next ≡ c.args.generation + 1 = (let more = c.in-Some.ensures in omega (arith, more)) in
    let read = subst (λ x. IsLogRead c.args.generation c.args.low (contents (log_file c.args.generation)) c.args.restoring.now x c.in_ok-end.first c.read_log.new.restoring) end (c.in_ok-end.ensures.ok (c.in_ok-end-2.ensures.looks.was_honest honest)) in
    let same = same_bytes g.D.Disk.states g.D.Disk.failures g.D.Disk.honest 0 c.args.disk.now c.read_log.new.disk c.in-Some.next c.in_ok-end.ensures.looks in
    let other = subst (λ x. IsLogRead c.in-Some.next c.in_ok-end.first.committed (contents (log_file c.in-Some.next)) c.read_log.new.restoring x c.in_ok-end-2.second c.read_log-2.new.restoring) c.in-Ended.is
    (subst (λ content. IsLogRead c.in-Some.next c.in_ok-end.first.committed content c.read_log.new.restoring c.in_ok-end-2.end c.in_ok-end-2.second c.read_log-2.new.restoring) same (rw c.committed.ensures at (c.in_ok-end-2.ensures.ok honest))) in
    inr (inr (ended_twice contents k c.args.restoring.now c.read_log.new.restoring c.read_log-2.new.restoring c.in_ok-end.first read c.in-Some.next next c.in_ok-end-2.second c.in_ok-end.ensures.same c.damaged-in-Ended.result
    c.damaged-in-Ended.ensures other))

pub returns-then-eq-clause-called : goal.returns-then-eq-clause-called
returns-then-eq-clause-called g c = λ honest stripes sections first second logs.
    let contents : Contents = contents_of g.D.Disk.states c.args.disk.now in
    let k = checkpoint_with c.args.generation c.args.low stripes sections in
    let end : c.in_ok-end.end ≡ Closed = first_end c.in_ok-end.end (λ is. absurd (let same = rw is at c.if-eq.ensures in cc)) in
    let read = subst (λ x. IsLogRead c.args.generation c.args.low (contents (log_file c.args.generation)) c.args.restoring.now x c.in_ok-end.first c.read_log.new.restoring) end (c.in_ok-end.ensures.ok honest) in
    let one = subst (λ (x : End). Made g.D.Disk.states (log_calls (end_gate x c.in_ok-end.first.gate)) c.args.disk.now c.read_log.new.disk) end c.in_ok-end.ensures.called in
    let calls = one_log_calls contents k read.batches c.in_ok-end.first.gate read.goes_on.gate read.ends first second logs in
    omega (arith, one, calls)

pub returns-in-Closed-clause-called : goal.returns-in-Closed-clause-called
returns-in-Closed-clause-called g c = λ honest stripes sections first second logs.
    let contents : Contents = contents_of g.D.Disk.states c.args.disk.now in
    let k = checkpoint_with c.args.generation c.args.low stripes sections in
    let end : c.in_ok-end.end ≡ Ended = two_ends c.in_ok-end.end (λ is. absurd (let same = rw is at c.if-eq.ensures in cc)) in
    let next : c.in-Some.next ≡ c.args.generation + 1 = (let more = c.in-Some.ensures in omega (arith, more)) in
    let read = subst (λ x. IsLogRead c.args.generation c.args.low (contents (log_file c.args.generation)) c.args.restoring.now x c.in_ok-end.first c.read_log.new.restoring) end (c.in_ok-end.ensures.ok (c.in_ok-end-2.ensures.looks.was_honest honest)) in
    let same = same_bytes g.D.Disk.states g.D.Disk.failures g.D.Disk.honest 0 c.args.disk.now c.read_log.new.disk c.in-Some.next c.in_ok-end.ensures.looks in
    let other = subst (λ x. IsLogRead c.in-Some.next c.in_ok-end.first.committed (contents (log_file c.in-Some.next)) c.read_log.new.restoring x c.in_ok-end-2.second c.read_log-2.new.restoring) c.in-Closed.is
    (subst (λ content. IsLogRead c.in-Some.next c.in_ok-end.first.committed content c.read_log.new.restoring c.in_ok-end-2.end c.in_ok-end-2.second c.read_log-2.new.restoring) same (rw c.committed.ensures at (c.in_ok-end-2.ensures.ok honest))) in
    let one = subst (λ (x : End). Made g.D.Disk.states (log_calls (end_gate x c.in_ok-end.first.gate)) c.args.disk.now c.read_log.new.disk) end c.in_ok-end.ensures.called in
    let two = subst (λ (x : End). Made g.D.Disk.states (log_calls (end_gate x c.in_ok-end-2.second.gate)) c.read_log.new.disk c.read_log-2.new.disk) c.in-Closed.is c.in_ok-end-2.ensures.called in
    let calls = two_logs_calls contents k read.batches c.in_ok-end.first.gate read.goes_on.gate read.ends c.in-Some.next c.in_ok-end.first.committed c.in_ok-end-2.second.gate other.batches next read.goes_on.committed other.goes_on.gate other.ends first second logs in
    omega (arith, one, two, calls)

pub returns-in_err-end-clause-tried : goal.returns-in_err-end-clause-tried
returns-in_err-end-clause-tried g c = λ honest stripes sections first second logs.
    let q = err_from_is_err_and c.from_residual.result c.from_residual.ensures.1 in
    let contents : Contents = contents_of g.D.Disk.states c.args.disk.now in
    let k = checkpoint_with c.args.generation c.args.low stripes sections in
    let ends = first_ends contents k first second logs in
    let tried = c.in_err-end.ensures.tried honest ends.last ends.ends in
    let fewer = ends.fewer in
    rw q.1 (omega (arith, tried, fewer))

pub returns-in_err-end-2-clause-tried : goal.returns-in_err-end-2-clause-tried
returns-in_err-end-2-clause-tried g c = λ honest stripes sections first second logs.
    let q = err_from_is_err_and c.from_residual-in_err-end-2.result c.from_residual-in_err-end-2.ensures.1 in
    let contents : Contents = contents_of g.D.Disk.states c.args.disk.now in
    let k = checkpoint_with c.args.generation c.args.low stripes sections in
    let end : c.in_ok-end.end ≡ Ended = two_ends c.in_ok-end.end (λ is. absurd (let same = rw is at c.if-eq.ensures in cc)) in
    let next : c.in-Some.next ≡ c.args.generation + 1 = (let more = c.in-Some.ensures in omega (arith, more)) in
    let read = subst (λ x. IsLogRead c.args.generation c.args.low (contents (log_file c.args.generation)) c.args.restoring.now x c.in_ok-end.first c.read_log.new.restoring) end (c.in_ok-end.ensures.ok (c.in_err-end-2.ensures.looks.was_honest honest)) in
    let same = same_bytes g.D.Disk.states g.D.Disk.failures g.D.Disk.honest 0 c.args.disk.now c.read_log.new.disk c.in-Some.next c.in_ok-end.ensures.looks in
    let ends = next_ends contents k read.batches c.in_ok-end.first.gate c.in-Some.next c.in_ok-end.first.committed read.goes_on.gate read.ends next read.goes_on.committed first second logs in
    let one = subst (λ (x : End). Made g.D.Disk.states (log_calls (end_gate x c.in_ok-end.first.gate)) c.args.disk.now c.read_log.new.disk) end c.in_ok-end.ensures.called in
    let there = subst (λ (l : List ℕ). EndsAt (log_layout l) c.in-Some.next c.in_ok-end.first.committed l ends.last) (sym same) ends.ends in
    let tried = rw c.committed.ensures at c.in_err-end-2.ensures.tried in
    let two = tried honest ends.last there in
    let both = ends.both in
    rw q.1 (omega (arith, one, two, both))

pub returns-clause-tried : goal.returns-clause-tried
returns-clause-tried g c = λ honest stripes sections first second logs.
    let contents : Contents = contents_of g.D.Disk.states c.args.disk.now in
    let k = checkpoint_with c.args.generation c.args.low stripes sections in
    let end : c.in_ok-end.end ≡ Ended = two_ends c.in_ok-end.end (λ is. absurd (let same = rw is at c.if-eq.ensures in cc)) in
    let next : c.in-Some.next ≡ c.args.generation + 1 = (let more = c.in-Some.ensures in omega (arith, more)) in
    let read = subst (λ x. IsLogRead c.args.generation c.args.low (contents (log_file c.args.generation)) c.args.restoring.now x c.in_ok-end.first c.read_log.new.restoring) end (c.in_ok-end.ensures.ok (c.in_ok-end-2.ensures.looks.was_honest honest)) in
    let same = same_bytes g.D.Disk.states g.D.Disk.failures g.D.Disk.honest 0 c.args.disk.now c.read_log.new.disk c.in-Some.next c.in_ok-end.ensures.looks in
    let ends = next_ends contents k read.batches c.in_ok-end.first.gate c.in-Some.next c.in_ok-end.first.committed read.goes_on.gate read.ends next read.goes_on.committed first second logs in
    let other = subst (λ x. IsLogRead c.in-Some.next c.in_ok-end.first.committed (contents (log_file c.in-Some.next)) c.read_log.new.restoring x c.in_ok-end-2.second c.read_log-2.new.restoring) c.in-Ended.is
    (subst (λ content. IsLogRead c.in-Some.next c.in_ok-end.first.committed content c.read_log.new.restoring c.in_ok-end-2.end c.in_ok-end-2.second c.read_log-2.new.restoring) same (rw c.committed.ensures at (c.in_ok-end-2.ensures.ok honest))) in
    absurd (never_twice contents c.in-Some.next c.in_ok-end.first.committed c.in_ok-end.first.gate _ other.batches ends other.ends)

pub returns-in_err-end-clause-listed : goal.returns-in_err-end-clause-listed
returns-in_err-end-clause-listed g c =
    let q = err_from_is_err_and c.from_residual.result c.from_residual.ensures.1 in
    rw (q.1, q.2) (of_files (log_file c.args.generation) c.in_err-end.field-0.0 (omega arith) c.in_err-end.ensures.listed)

pub returns-in_err-end-2-clause-listed : goal.returns-in_err-end-2-clause-listed
returns-in_err-end-2-clause-listed g c =
    let q = err_from_is_err_and c.from_residual-in_err-end-2.result c.from_residual-in_err-end-2.ensures.1 in
    rw (q.1, q.2) (of_files (log_file c.in-Some.next) c.in_err-end-2.field-0.0 (omega arith) c.in_err-end-2.ensures.listed)

pub returns-in_default-clause-listed : goal.returns-in_default-clause-listed
returns-in_default-clause-listed g c =
    let log = c.in_ok-end.first in
    of_files (log_file log.generation) _ (omega arith) (inr (inr (inr (log.gate, c.damaged.ensures))))

pub returns-clause-listed : goal.returns-clause-listed
returns-clause-listed g c =
    let log = c.in_ok-end-2.second in
    of_files (log_file log.generation) _ (omega arith) (inr (inr (inr (log.gate, c.damaged-in-Ended.ensures))))
