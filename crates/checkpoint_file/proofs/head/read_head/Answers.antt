use Rattle.std.proofs.Common.{◌≡◌, ◌≢◌, ◌≤◌, ◌%◌, List, ℕ, length, slice_index_or, inr, refl, sym, ap, subst, ◌∙◌, arith, true}
use Rattle.disk_model.specs.Files.{now}
use Rattle.disk_model.proofs.LookLemmas.{one_look}
use Rattle.store_layout.specs.Checkpoints.{is_sealed}
use Rattle.log_records.specs.Layout.{layout_of}
use Rattle.store_layout.specs.Faults.{generation_in}
use Rattle.store_layout.specs.Logs.{is_read}
use Rattle.checkpoint_file.proofs.HeadLemmas.{byte_kept, number_kept, fields_kept, whole_read, opened, faultless, misplaced}
use Rattle.checkpoint_file.proofs.head.read_head.Goals as goal

pub returns-in-Err-clause-looks : goal.returns-in-Err-clause-looks
returns-in-Err-clause-looks g c = one_look g.D.Disk.states g.D.Disk.failures g.D.Disk.honest 1 c.args.disk.now c.read.new.self c.in-Err.ensures.state c.in-Err.ensures.err c.in-Err.ensures.was_honest

pub returns-then-count-lt-BODY_OFFSET-clause-looks : goal.returns-then-count-lt-BODY_OFFSET-clause-looks
returns-then-count-lt-BODY_OFFSET-clause-looks g c =
    one_look g.D.Disk.states g.D.Disk.failures g.D.Disk.honest 0 c.args.disk.now c.read.new.self c.in-Ok.ensures.state (omega (arith, c.in-Ok.ensures.ok)) c.in-Ok.ensures.was_honest

pub returns-in_default-clause-looks : goal.returns-in_default-clause-looks
returns-in_default-clause-looks g c =
    one_look g.D.Disk.states g.D.Disk.failures g.D.Disk.honest 0 c.args.disk.now c.read.new.self c.in-Ok.ensures.state (omega (arith, c.in-Ok.ensures.ok)) c.in-Ok.ensures.was_honest

pub returns-then-head-file-clause-looks : goal.returns-then-head-file-clause-looks
returns-then-head-file-clause-looks g c =
    one_look g.D.Disk.states g.D.Disk.failures g.D.Disk.honest 0 c.args.disk.now c.read.new.self c.in-Ok.ensures.state (omega (arith, c.in-Ok.ensures.ok)) c.in-Ok.ensures.was_honest

pub returns-clause-looks : goal.returns-clause-looks
returns-clause-looks g c =
    one_look g.D.Disk.states g.D.Disk.failures g.D.Disk.honest 0 c.args.disk.now c.read.new.self c.in-Ok.ensures.state (omega (arith, c.in-Ok.ensures.ok)) c.in-Ok.ensures.was_honest

pub returns-then-head-file-clause-err : goal.returns-then-head-file-clause-err
returns-then-head-file-clause-err g c = inr (λ honest.
    let content : List ℕ = (now (g.D.Disk.states c.args.disk.now) c.args.file).seen in
    let buf : List ℕ = c.read.new.buf in
    let same = whole_read buf content c.in-Ok.count c.if-count-lt-BODY_OFFSET.false c.in-Ok.ensures.within (c.in-Ok.ensures.bytes honest) in
    let long : 36 ≤ length content = omega (arith, c.in-Ok.ensures.count honest, c.if-count-lt-BODY_OFFSET.false) in
    let first : slice_index_or buf 0 0 ≡ 165 = c.if-bytes.false in
    let second = sym (byte_kept buf content same 1 (omega arith)) in
    let version = rw c.in-Some.is at c.version_of_file.ensures.some in
    let generation : c.fields_of-head.result.generation ≡ generation_in content = c.fields_of-head.ensures.fields.generation ∙ number_kept buf content same 8 2 34 (omega arith) (omega arith) in
    misplaced c.args.file content (opened content long (sym (byte_kept buf content same 0 (omega arith)) ∙ first)) (ap is_read second ∙ version.1)
    (subst (λ n. n % 2 ≢ c.args.file) generation c.if-head-file.true))

pub returns-clause-some : goal.returns-clause-some
returns-clause-some g c = λ honest.
    let content : List ℕ = (now (g.D.Disk.states c.args.disk.now) c.args.file).seen in
    let buf : List ℕ = c.read.new.buf in
    let same = whole_read buf content c.in-Ok.count c.if-count-lt-BODY_OFFSET.false c.in-Ok.ensures.within (c.in-Ok.ensures.bytes honest) in
    let long : 36 ≤ length content = omega (arith, c.in-Ok.ensures.count honest, c.if-count-lt-BODY_OFFSET.false) in
    let first : slice_index_or buf 0 0 ≡ 165 = c.if-bytes.false in
    let second = sym (byte_kept buf content same 1 (omega arith)) in
    let version = rw c.in-Some.is at c.version_of_file.ensures.some in
    let fields = fields_kept buf content same c.fields_of-head.result c.fields_of-head.ensures.fields in
    let is_open : is_sealed content ≡ true = opened content long (sym (byte_kept buf content same 0 (omega arith)) ∙ first) in
    record {
      opened = is_open;
      faultless = faultless c.args.file content is_open (ap is_read second ∙ version.1) (subst (λ n. n % 2 ≡ c.args.file) fields.generation c.if-head-file.false);
      version = ap (λ v. (layout_of v).version) c.fields_of-head.ensures.version ∙ version.0 ∙ sym second;
      fields = fields;
    }

pub returns-then-head-file-clause-listed : goal.returns-then-head-file-clause-listed
returns-then-head-file-clause-listed g c = inr (inr (2, refl))
