use Rattle.std.proofs.Common.{◌≡◌, ◌+◌, ◌-◌, ◌≤◌, ℕ, List, ◌++◌, length, take, drop, slice_range, refl, ap, ap₂, ◌∙◌, arith}
use Rattle.std.proofs.lemmas.List.{with_items_is}
use Rattle.disk_model.specs.Files.{now}
use borrow.Rule.Slice.PartMut.{put_mid}
use Rattle.file_pieces.proofs.BufferLemmas.{grown, kept, put_length}
use Rattle.disk_model.proofs.LookLemmas.{one_look}
use Rattle.file_pieces.proofs.buffer.Buffer.read_more.Goals as goal

pub returns-in-Ok-clause-looks : goal.returns-in-Ok-clause-looks
returns-in-Ok-clause-looks g c = one_look g.D.Disk.states g.D.Disk.failures g.D.Disk.honest 0 c.args.disk.now c.read.new.self c.in-Ok.ensures.state (omega (arith, c.in-Ok.ensures.ok)) c.in-Ok.ensures.was_honest

pub returns-in-Ok-clause-held : goal.returns-in-Ok-clause-held
returns-in-Ok-clause-held g c = λ honest.
    let w = c.args.self.now in
    let all : List ℕ = c.deref_mut.result.now in
    let k : ℕ = w.end + c.args.count - w.end in
    let buf : List ℕ = c.read.new.buf in
    let new : List ℕ = put_mid w.end k all buf in
    let same : all ≡ w.bytes.items = c.deref_mut.ensures.value in
    let long : length all ≡ w.bytes.len = omega (arith, c.deref_mut.ensures.len) in
    let inside : w.end + c.args.count ≤ length all = omega (arith, ap (λ (l : List ℕ). length l) same) in
    let size : length buf ≡ c.args.count = omega (arith, c.read.auto.buf) in
    let is = with_items_is w.bytes new (put_length all buf w.end c.args.count k inside (omega arith) size ∙ long) in
    let within : w.end ≤ length all = omega arith in
    let content : List ℕ = (now (g.D.Disk.states c.args.disk.now) c.args.file).seen in
    let all_given = c.if-given-count.true in
    ap (λ (l : List ℕ). slice_range l w.start (w.end + c.args.count)) is
    ∙ grown all buf w.start w.end k c.args.count w.ordered within (omega arith)
    ∙ ap₂ (λ (l m : List ℕ). slice_range l w.start w.end ++ m) same
    (ap (λ (n : ℕ). take n buf) (rw all_given refl) ∙ c.in-Ok.ensures.bytes honest ∙ ap (λ (n : ℕ). take n (drop c.args.at content)) all_given)

pub returns-in-Ok-2-clause-looks : goal.returns-in-Ok-2-clause-looks
returns-in-Ok-2-clause-looks g c = one_look g.D.Disk.states g.D.Disk.failures g.D.Disk.honest 0 c.args.disk.now c.read.new.self c.in-Ok.ensures.state (omega (arith, c.in-Ok.ensures.ok)) c.in-Ok.ensures.was_honest

pub returns-in-Ok-2-clause-same : goal.returns-in-Ok-2-clause-same
returns-in-Ok-2-clause-same g c =
    let w = c.args.self.now in
    let all : List ℕ = c.deref_mut.result.now in
    let k : ℕ = w.end + c.args.count - w.end in
    let buf : List ℕ = c.read.new.buf in
    let same : all ≡ w.bytes.items = c.deref_mut.ensures.value in
    let long : length all ≡ w.bytes.len = omega (arith, c.deref_mut.ensures.len) in
    let inside : w.end + c.args.count ≤ length all = omega (arith, ap (λ (l : List ℕ). length l) same) in
    let size : length buf ≡ c.args.count = omega (arith, c.read.auto.buf) in
    let within : w.end ≤ length all = omega arith in
    ap (λ (l : List ℕ). slice_range l w.start w.end) (with_items_is w.bytes (put_mid w.end k all buf) (put_length all buf w.end c.args.count k inside (omega arith) size ∙ long))
    ∙ kept all buf w.start w.end k w.ordered within ∙ ap (λ (l : List ℕ). slice_range l w.start w.end) same

pub returns-in-Err-clause-looks : goal.returns-in-Err-clause-looks
returns-in-Err-clause-looks g c = one_look g.D.Disk.states g.D.Disk.failures g.D.Disk.honest 1 c.args.disk.now c.read.new.self c.in-Err.ensures.state c.in-Err.ensures.err c.in-Err.ensures.was_honest

pub returns-in-Err-clause-same : goal.returns-in-Err-clause-same
returns-in-Err-clause-same g c =
    let w = c.args.self.now in
    let all : List ℕ = c.deref_mut.result.now in
    let k : ℕ = w.end + c.args.count - w.end in
    let buf : List ℕ = c.read.new.buf in
    let same : all ≡ w.bytes.items = c.deref_mut.ensures.value in
    let long : length all ≡ w.bytes.len = omega (arith, c.deref_mut.ensures.len) in
    let inside : w.end + c.args.count ≤ length all = omega (arith, ap (λ (l : List ℕ). length l) same) in
    let size : length buf ≡ c.args.count = omega (arith, c.read.auto.buf) in
    let within : w.end ≤ length all = omega arith in
    ap (λ (l : List ℕ). slice_range l w.start w.end) (with_items_is w.bytes (put_mid w.end k all buf) (put_length all buf w.end c.args.count k inside (omega arith) size ∙ long))
    ∙ kept all buf w.start w.end k w.ordered within ∙ ap (λ (l : List ℕ). slice_range l w.start w.end) same
