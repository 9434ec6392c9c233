use Rattle.std.proofs.Common.{◌≡◌, ℕ, List, [], sym, ap, ap₂, subst, ◌∙◌, arith}
use Rattle.std.proofs.lemmas.Result.{err_from_is_err_and}
use Rattle.log_records.specs.declared.versions.Version.{Version}
use Rattle.log_records.specs.Layout.{Layout, layout_of}
use Rattle.store_layout.specs.Logs.{layout_for}
use Rattle.store_layout.specs.Opening.{log_layout}
use Rattle.store_layout.proofs.OwnLayouts.{own_of}
use Rattle.gate_log.specs.Scan.{HasRead, log_bytes}
use Rattle.gate_log.specs.States.{LogState, resumed}
use Rattle.recovery.specs.LogReading.{EndsAt, end_gate}
use Rattle.disk_model.proofs.LookLemmas.{looks_on}
use Rattle.gate_log.proofs.Scanning.{same_bytes}
use Rattle.recovery.proofs.LogReadingLemmas.{frames_refused, header_refused, log_read}
use Rattle.recovery.proofs.logs.read_log.Goals as goal

pub returns-in_err-scan-clause-err : goal.returns-in_err-scan-clause-err
returns-in_err-scan-clause-err g c = λ honest.
    let q = err_from_is_err_and c.from_residual.result c.from_residual.ensures.1 in
    rw (q.1, q.2) (header_refused c.args.generation c.args.low (log_bytes g.D.Disk.states c.args.disk.now c.args.generation) _ (c.in_err-scan.ensures.refused honest))

pub returns-in_err-end-clause-looks : goal.returns-in_err-end-clause-looks
returns-in_err-end-clause-looks g c =
    let q = err_from_is_err_and c.from_residual-in_err-end.result c.from_residual-in_err-end.ensures.1 in
    rw (q.1, q.2)
    (looks_on g.D.Disk.states g.D.Disk.failures g.D.Disk.honest _ c.args.disk.now c.begin.new.disk c.replay.new.disk c.in_ok-scan.ensures.looks c.in_err-end.ensures.looks)

pub returns-in_err-end-clause-err : goal.returns-in_err-end-clause-err
returns-in_err-end-clause-err g c = λ honest.
    let q = err_from_is_err_and c.from_residual-in_err-end.result c.from_residual-in_err-end.ensures.1 in
    let content : List ℕ = log_bytes g.D.Disk.states c.args.disk.now c.args.generation in
    let same = same_bytes g.D.Disk.states g.D.Disk.failures g.D.Disk.honest 0 c.args.disk.now c.begin.new.disk c.args.generation c.in_ok-scan.ensures.looks in
    let own : log_layout content ≡ layout_of c.in_ok-scan.scan.version = ap layout_for (sym (c.in_ok-scan.ensures.version (c.in_err-end.ensures.looks.was_honest honest))) ∙ own_of c.in_ok-scan.scan.version in
    rw (q.1, q.2)
    (frames_refused c.args.generation c.args.low content _ same c.in_ok-scan.scan own (c.in_ok-scan.ensures.read (c.in_err-end.ensures.looks.was_honest honest)) (g.D.Disk.honest c.replay.new.disk) _ honest
    c.in_err-end.ensures.err)

pub returns-clause-looks : goal.returns-clause-looks
returns-clause-looks g c =
    looks_on g.D.Disk.states g.D.Disk.failures g.D.Disk.honest 0 c.args.disk.now c.begin.new.disk c.replay.new.disk c.in_ok-scan.ensures.looks c.in_ok-end.ensures.looks

pub returns-clause-ok : goal.returns-clause-ok
returns-clause-ok g c = λ honest.
    let content : List ℕ = log_bytes g.D.Disk.states c.args.disk.now c.args.generation in
    let same = same_bytes g.D.Disk.states g.D.Disk.failures g.D.Disk.honest 0 c.args.disk.now c.begin.new.disk c.args.generation c.in_ok-scan.ensures.looks in
    let own : log_layout content ≡ layout_of c.in_ok-scan.scan.version = ap layout_for (sym (c.in_ok-scan.ensures.version (c.in_ok-end.ensures.looks.was_honest honest))) ∙ own_of c.in_ok-scan.scan.version in
    log_read c.args.generation c.args.low content _ same c.in_ok-scan.scan own (c.in_ok-scan.ensures.read (c.in_ok-end.ensures.looks.was_honest honest)) c.args.restoring.now c.replay.new.restoring c.in_ok-end.end
    c.replay.new.scan c.resume-log.result (c.resume-log.ensures.state ∙ ap (λ (v : Version). resumed v c.args.generation c.args.low c.gate.result c.expected.result) (c.version-version.ensures ∙ c.in_ok-end.ensures.version)
    ∙ ap₂ (λ i j. resumed c.in_ok-scan.scan.version c.args.generation c.args.low i j) c.gate.ensures.place c.expected.ensures) (c.in_ok-end.ensures.ok honest)

pub returns-clause-called : goal.returns-clause-called
returns-clause-called g c =
    let first = c.in_ok-scan.ensures.called in
    let one = c.in_ok-scan.ensures.pieces in
    let more = c.in_ok-end.ensures.called in
    let pieces = c.in_ok-end.ensures.pieces in
    let gate : c.resume-log.result.gate ≡ c.replay.new.scan.gate = ap (λ (l : LogState). l.gate) c.resume-log.ensures.state ∙ c.gate.ensures.place in
    let last = ap (λ (n : ℕ). end_gate c.in_ok-end.end n) gate in
    omega (arith, first, one, more, pieces, last)

pub returns-in_err-scan-clause-tried : goal.returns-in_err-scan-clause-tried
returns-in_err-scan-clause-tried g c = λ honest last ends.
    let q = err_from_is_err_and c.from_residual.result c.from_residual.ensures.1 in
    let tried = c.in_err-scan.ensures.tried in
    rw q.1 (omega (arith, tried))

pub returns-in_err-end-clause-tried : goal.returns-in_err-end-clause-tried
returns-in_err-end-clause-tried g c = λ honest last ends.
    let q = err_from_is_err_and c.from_residual-in_err-end.result c.from_residual-in_err-end.ensures.1 in
    let same = same_bytes g.D.Disk.states g.D.Disk.failures g.D.Disk.honest 0 c.args.disk.now c.begin.new.disk c.args.generation c.in_ok-scan.ensures.looks in
    let content : List ℕ = log_bytes g.D.Disk.states c.args.disk.now c.args.generation in
    let own : log_layout content ≡ layout_of c.in_ok-scan.scan.version = ap layout_for (sym (c.in_ok-scan.ensures.version (c.in_err-end.ensures.looks.was_honest honest))) ∙ own_of c.in_ok-scan.scan.version in
    let layout : Layout = layout_of c.in_ok-scan.scan.version in
    let read = subst (λ (l : List ℕ). HasRead layout c.args.low [] c.in_ok-scan.scan l) (sym same) (c.in_ok-scan.ensures.read (c.in_err-end.ensures.looks.was_honest honest)) in
    let there = subst (λ (l : List ℕ). EndsAt layout c.args.generation c.args.low l last) (sym same) (subst (λ (x : Layout). EndsAt x c.args.generation c.args.low content last) own ends) in
    let tried = c.in_err-end.ensures.tried honest c.args.low last read there in
    let first = c.in_ok-scan.ensures.called in
    let one = c.in_ok-scan.ensures.pieces in
    rw q.1 (omega (arith, tried, first, one))
