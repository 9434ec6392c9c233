use Rattle.std.proofs.Common.{◌≡◌, ℕ, List, length, sym, ap, ap₂, subst, ◌∙◌, inr, arith}
use Rattle.std.proofs.lemmas.Result.{err_from_is_err_and}
use Rattle.disk_model.specs.Calls.{Looks}
use Rattle.disk_model.specs.Files.{Files, now}
use Rattle.disk_model.proofs.LookLemmas.{looks_on, same_now}
use Rattle.file_pieces.specs.Pieces.{Holds}
use Rattle.log_records.specs.Layout.{layout_of}
use Rattle.store_layout.specs.Readings.{HasHeader, IsBadHeader}
use Rattle.gate_log.specs.Scan.{log_bytes}
use Rattle.gate_log.specs.ScanParts.{bytes_of}
use Rattle.gate_log.proofs.Headers.{bad_header, header_bytes, header_fault, header_read, version_first}
use Rattle.gate_log.proofs.Scanning.{gate_refused, never_damaged}
use Rattle.gate_log.proofs.scan.Scan.begin.Goals as goal

pub returns-in_err-reach-clause-looks : goal.returns-in_err-reach-clause-looks
returns-in_err-reach-clause-looks g c =
    let q = err_from_is_err_and c.from_residual-in_err-reach.result c.from_residual-in_err-reach.ensures.1 in
    rw (q.1, q.2)
    (looks_on g.D.Disk.states g.D.Disk.failures g.D.Disk.honest _ c.args.disk.now c.begin_file.new.disk c.reach.new.disk c.in_ok-reader.ensures.looks c.in_err-reach.ensures.looks)

pub returns-in_err-reach-clause-refused : goal.returns-in_err-reach-clause-refused
returns-in_err-reach-clause-refused g c = λ honest.
    let q = err_from_is_err_and c.from_residual-in_err-reach.result c.from_residual-in_err-reach.ensures.1 in
    let old = c.args.disk.now in
    let reader = c.in_ok-reader.reader in
    let first = c.in_err-reach.ensures.looks.was_honest honest in
    let there : (now (g.D.Disk.states old) c.file_number.result).seen ≡ bytes_of g.D.Disk.states c.begin_file.new.disk reader =
    ap₂ (λ (files : Files) (n : ℕ). (files n).seen) (sym (same_now g.D.Disk.states g.D.Disk.failures g.D.Disk.honest 0 old c.begin_file.new.disk c.in_ok-reader.ensures.looks)) (sym c.in_ok-reader.ensures.file) in
    let holds = subst (λ (l : List ℕ). Holds l reader) there (c.in_ok-reader.ensures.holds first) in
    rw (q.1, q.2) (never_damaged c.args.generation 17 _ (IsBadHeader c.args.generation c.args.low (log_bytes g.D.Disk.states old c.args.generation) c.in_err-reach.field-0.0) _ (λ never. never honest holds) c.in_err-reach.ensures.err)

pub returns-in_err-version-clause-looks : goal.returns-in_err-version-clause-looks
returns-in_err-version-clause-looks g c =
    let q = err_from_is_err_and c.from_residual-in_err-version.result c.from_residual-in_err-version.ensures.1 in
    rw (q.1, q.2)
    (subst (λ (n : ℕ). Looks g.D.Disk.states g.D.Disk.failures g.D.Disk.honest n c.args.disk.now c.reach.new.disk) (sym c.in_err-version.ensures.unfailed)
    (looks_on g.D.Disk.states g.D.Disk.failures g.D.Disk.honest 0 c.args.disk.now c.begin_file.new.disk c.reach.new.disk c.in_ok-reader.ensures.looks c.in_ok-reach.ensures.looks))

pub returns-in_err-version-clause-refused : goal.returns-in_err-version-clause-refused
returns-in_err-version-clause-refused g c = λ honest.
    let q = err_from_is_err_and c.from_residual-in_err-version.result c.from_residual-in_err-version.ensures.1 in
    let old = c.args.disk.now in
    let content : List ℕ = log_bytes g.D.Disk.states old c.args.generation in
    let reader = c.in_ok-reader.reader in
    let first = c.in_ok-reach.ensures.looks.was_honest honest in
    let same = sym (same_now g.D.Disk.states g.D.Disk.failures g.D.Disk.honest 0 old c.begin_file.new.disk c.in_ok-reader.ensures.looks) in
    let there : (now (g.D.Disk.states old) c.file_number.result).seen ≡ bytes_of g.D.Disk.states c.begin_file.new.disk reader =
    ap₂ (λ (files : Files) (n : ℕ). (files n).seen) same (sym c.in_ok-reader.ensures.file) in
    let holds = subst (λ (l : List ℕ). Holds l reader) there (c.in_ok-reader.ensures.holds first) in
    let is : bytes_of g.D.Disk.states c.begin_file.new.disk reader ≡ content = sym there ∙ ap (λ (n : ℕ). (now (g.D.Disk.states old) n).seen) c.file_number.ensures in
    let held = subst (λ (l : List ℕ). Holds l c.reach.new.reader) is (c.in_ok-reach.ensures.holds honest holds) in
    let len = c.len.ensures in
    let same_len = c.in_ok-reach.ensures.file.len in
    let whole : c.len.result ≡ length content = len ∙ sym same_len ∙ held.whole in
    let bytes = header_bytes content c.bytes.result.now c.len.result c.min-end.result whole (omega arith) (c.bytes.ensures.same content held) in
    let bad = subst (λ (l : List ℕ). IsBadHeader c.args.generation c.args.low l c.in_err-version.field-0.0) bytes c.in_err-version.ensures.err in
    rw (q.1, q.2) (inr (inr (bad_header c.args.generation c.args.low content _ bad)))

pub returns-clause-looks : goal.returns-clause-looks
returns-clause-looks g c =
    looks_on g.D.Disk.states g.D.Disk.failures g.D.Disk.honest 0 c.args.disk.now c.begin_file.new.disk c.reach.new.disk c.in_ok-reader.ensures.looks c.in_ok-reach.ensures.looks

pub returns-clause-read : goal.returns-clause-read
returns-clause-read g c = λ honest.
    let old = c.args.disk.now in
    let content : List ℕ = log_bytes g.D.Disk.states old c.args.generation in
    let reader = c.in_ok-reader.reader in
    let first = c.in_ok-reach.ensures.looks.was_honest honest in
    let same = sym (same_now g.D.Disk.states g.D.Disk.failures g.D.Disk.honest 0 old c.begin_file.new.disk c.in_ok-reader.ensures.looks) in
    let there : (now (g.D.Disk.states old) c.file_number.result).seen ≡ bytes_of g.D.Disk.states c.begin_file.new.disk reader =
    ap₂ (λ (files : Files) (n : ℕ). (files n).seen) same (sym c.in_ok-reader.ensures.file) in
    let holds = subst (λ (l : List ℕ). Holds l reader) there (c.in_ok-reader.ensures.holds first) in
    let is : bytes_of g.D.Disk.states c.begin_file.new.disk reader ≡ content = sym there ∙ ap (λ (n : ℕ). (now (g.D.Disk.states old) n).seen) c.file_number.ensures in
    let held = subst (λ (l : List ℕ). Holds l c.reach.new.reader) is (c.in_ok-reach.ensures.holds honest holds) in
    let len = c.len.ensures in
    let same_len = c.in_ok-reach.ensures.file.len in
    let whole : c.len.result ≡ length content = len ∙ sym same_len ∙ held.whole in
    let bytes = header_bytes content c.bytes.result.now c.len.result c.min-end.result whole (omega arith) (c.bytes.ensures.same content held) in
    header_read c.in_ok-version.version c.args.generation c.args.low content c.reach.new.reader
    (subst (HasHeader (layout_of c.in_ok-version.version).version c.args.generation c.args.low) bytes c.in_ok-version.ensures.ok) held

pub returns-clause-version : goal.returns-clause-version
returns-clause-version g c = λ honest.
    let old = c.args.disk.now in
    let content : List ℕ = log_bytes g.D.Disk.states old c.args.generation in
    let reader = c.in_ok-reader.reader in
    let first = c.in_ok-reach.ensures.looks.was_honest honest in
    let same = sym (same_now g.D.Disk.states g.D.Disk.failures g.D.Disk.honest 0 old c.begin_file.new.disk c.in_ok-reader.ensures.looks) in
    let there : (now (g.D.Disk.states old) c.file_number.result).seen ≡ bytes_of g.D.Disk.states c.begin_file.new.disk reader =
    ap₂ (λ (files : Files) (n : ℕ). (files n).seen) same (sym c.in_ok-reader.ensures.file) in
    let holds = subst (λ (l : List ℕ). Holds l reader) there (c.in_ok-reader.ensures.holds first) in
    let is : bytes_of g.D.Disk.states c.begin_file.new.disk reader ≡ content = sym there ∙ ap (λ (n : ℕ). (now (g.D.Disk.states old) n).seen) c.file_number.ensures in
    let held = subst (λ (l : List ℕ). Holds l c.reach.new.reader) is (c.in_ok-reach.ensures.holds honest holds) in
    let len = c.len.ensures in
    let same_len = c.in_ok-reach.ensures.file.len in
    let whole : c.len.result ≡ length content = len ∙ sym same_len ∙ held.whole in
    let bytes = header_bytes content c.bytes.result.now c.len.result c.min-end.result whole (omega arith) (c.bytes.ensures.same content held) in
    version_first (layout_of c.in_ok-version.version).version c.args.generation c.args.low content (subst (HasHeader (layout_of c.in_ok-version.version).version c.args.generation c.args.low) bytes c.in_ok-version.ensures.ok)

pub returns-in_err-reach-clause-listed : goal.returns-in_err-reach-clause-listed
returns-in_err-reach-clause-listed g c =
    let q = err_from_is_err_and c.from_residual-in_err-reach.result c.from_residual-in_err-reach.ensures.1 in
    rw (q.1, q.2) (gate_refused c.args.generation 17 _ c.in_err-reach.field-0.0 c.in_err-reach.ensures.err)

pub returns-in_err-version-clause-listed : goal.returns-in_err-version-clause-listed
returns-in_err-version-clause-listed g c =
    let q = err_from_is_err_and c.from_residual-in_err-version.result c.from_residual-in_err-version.ensures.1 in
    rw (q.1, q.2) (inr (inr (header_fault c.args.generation c.args.low _ _ c.in_err-version.ensures.err)))
