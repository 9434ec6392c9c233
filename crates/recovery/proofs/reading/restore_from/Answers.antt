use Rattle.std.proofs.Common.{◌≡◌, inl, inr, refl, ap, subst, ◌∙◌, arith}
use Rattle.std.proofs.lemmas.Result.{err_from_is_err_and}
use Rattle.store_layout.specs.Logs.{log_file}
use Rattle.store_layout.specs.Opening.{Contents}
use Rattle.store_layout.proofs.Refused.{of_files}
use Rattle.checkpoint_file.specs.Loads.{sections_of}
use Rattle.recovery.specs.Counting.{greatest_of}
use Rattle.recovery.specs.Dividing.{ArePartsOf}
use Rattle.recovery.specs.LogReading.{contents_of}
use Rattle.recovery.proofs.OpeningLemmas.{below, is_restored}
use Rattle.recovery.proofs.reading.restore_from.Goals as goal

pub returns-in_err-log-clause-err : goal.returns-in_err-log-clause-err
returns-in_err-log-clause-err g c = λ honest.
    let q = err_from_is_err_and c.from_residual-in_err-log.result c.from_residual-in_err-log.ensures.1 in
    rw (q.1, q.2) (c.in_err-log.ensures.err honest c.args.loaded.stripes.count (sections_of c.args.loaded.sections.items))

pub returns-then-committed-greatest_of-clause-err : goal.returns-then-committed-greatest_of-clause-err
returns-then-committed-greatest_of-clause-err g c = λ honest.
    let contents : Contents = contents_of g.D.Disk.states c.args.disk.now in
    let replayed = c.in_ok-log.ensures.ok honest c.args.loaded.stripes.count (sections_of c.args.loaded.sections.items) in
    let most : c.greatest_of.result ≡ greatest_of c.read_logs.new.restoring.marks.items = c.greatest_of.ensures ∙ ap greatest_of c.deref.ensures.value in
    let less = c.if-committed-greatest_of.true in
    inr (inr (below contents c.args.loaded c.in_ok-restoring.restoring c.read_logs.new.restoring c.in_ok-log.log c.in_ok-restoring.ensures.marks replayed c.in_ok-log.ensures.same c.damaged.result c.damaged.ensures
    (omega (arith, most, less, c.committed.ensures))))

pub returns-clause-ok : goal.returns-clause-ok
returns-clause-ok g c = λ honest rising.
    let contents : Contents = contents_of g.D.Disk.states c.args.disk.now in
    let replayed = c.in_ok-log.ensures.ok honest c.args.loaded.stripes.count (sections_of c.args.loaded.sections.items) in
    let most : c.greatest_of.result ≡ greatest_of c.read_logs.new.restoring.marks.items = c.greatest_of.ensures ∙ ap greatest_of c.deref.ensures.value in
    let more = c.if-committed-greatest_of.false in
    is_restored contents c.args.loaded c.in_ok-restoring.restoring c.read_logs.new.restoring c.in_ok-log.log c.in_ok-restoring.ensures.marks replayed c.in_ok-log.ensures.same c.args.stripes.count c.in_ok-restoring.ensures.of
    (ap (λ s. s.count) c.in_ok-restoring.ensures.stripes) rising c.in_ok-restoring.ensures.map (omega (arith, most, more, c.committed.ensures)) _ c.in_ok-parts.ensures.ok refl refl

pub returns-clause-parts : goal.returns-clause-parts
returns-clause-parts g c =
    let same = c.in_ok-log.ensures.same in
    let some = c.in_ok-log.ensures.some (_, c.in_ok-restoring.ensures.map) in
    subst (λ n. ArePartsOf n c.in_ok-parts.parts.items) (ap (λ s. s.count) (same.stripes ∙ c.in_ok-restoring.ensures.stripes)) (c.in_ok-parts.ensures.own some.0 some.1)

pub returns-in_err-parts-clause-listed : goal.returns-in_err-parts-clause-listed
returns-in_err-parts-clause-listed g c =
    let q = err_from_is_err_and c.from_residual-in_err-parts.result c.from_residual-in_err-parts.ensures.1 in
    rw (q.1, q.2) (of_files 0 c.in_err-parts.field-0.0 (omega arith) (inr (inl c.in_err-parts.ensures.err)))

pub returns-in_err-parts-clause-tried : goal.returns-in_err-parts-clause-tried
returns-in_err-parts-clause-tried g c = λ honest first second logs.
    let q = err_from_is_err_and c.from_residual-in_err-parts.result c.from_residual-in_err-parts.ensures.1 in
    let called = c.in_ok-log.ensures.called honest c.args.loaded.stripes.count (sections_of c.args.loaded.sections.items) first second logs in
    rw q.1 (omega (arith, called))

pub returns-clause-called : goal.returns-clause-called
returns-clause-called g c = λ honest first second logs. c.in_ok-log.ensures.called honest c.args.loaded.stripes.count (sections_of c.args.loaded.sections.items) first second logs

pub returns-in_err-log-clause-tried : goal.returns-in_err-log-clause-tried
returns-in_err-log-clause-tried g c = λ honest first second logs.
    let q = err_from_is_err_and c.from_residual-in_err-log.result c.from_residual-in_err-log.ensures.1 in
    rw q.1 (c.in_err-log.ensures.tried honest c.args.loaded.stripes.count (sections_of c.args.loaded.sections.items) first second logs)

pub returns-then-committed-greatest_of-clause-tried : goal.returns-then-committed-greatest_of-clause-tried
returns-then-committed-greatest_of-clause-tried g c = λ honest first second logs.
    let called = c.in_ok-log.ensures.called honest c.args.loaded.stripes.count (sections_of c.args.loaded.sections.items) first second logs in
    omega (arith, called)

pub returns-in_err-restoring-clause-listed : goal.returns-in_err-restoring-clause-listed
returns-in_err-restoring-clause-listed g c =
    let q = err_from_is_err_and c.from_residual.result c.from_residual.ensures.1 in
    rw (q.1, q.2) (of_files 0 c.in_err-restoring.field-0.0 (omega arith) (inr (inl c.in_err-restoring.ensures.err)))

pub returns-then-committed-greatest_of-clause-listed : goal.returns-then-committed-greatest_of-clause-listed
returns-then-committed-greatest_of-clause-listed g c =
    let log = c.in_ok-log.log in
    of_files (log_file log.generation) _ (omega arith) (inr (inr (inr (log.gate, c.damaged.ensures))))
