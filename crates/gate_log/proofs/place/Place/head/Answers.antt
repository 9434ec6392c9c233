use Rattle.std.proofs.Common.{◌≡◌, ◌+◌, ◌-◌, ℕ, drop, take, arith, ap, ◌∙◌, inr}
use Rattle.std.proofs.lemmas.List.{length-drop}
use Rattle.log_records.specs.Layout.{layout_of}
use Rattle.gate_log.proofs.Heads.{none_cut, none_ahead, has_frame, head_read, comes_ahead}
use Rattle.gate_log.proofs.place.Place.head.Goals as goal

pub returns-then-len-behind-clause-err : goal.returns-then-len-behind-clause-err
returns-then-len-behind-clause-err c =
    let at : ℕ = c.args.self.gate + 1 in
    let head = c.kind_and_len-kind.result in
    let five : at + 5 - at ≡ 5 = omega arith in
    inr (inr (
      c.damaged.ensures,
      λ content rest holds is len.
          let read = c.bytes.ensures.same content holds ∙ ap (λ (n : ℕ). take n (drop at content)) five in
          let parts = head_read content c.bytes.result.now at head.0 head.1 rest is read c.kind_and_len-kind.ensures.spelled in
          let tail = length-drop 5 rest in
          none_cut (layout_of c.args.self.version) c.args.self.expected (c.args.self.generation + 1) rest head.0 head.1 (drop 5 rest) parts c.kind_and_len-kind.ensures.fits (omega arith),
    ))

pub returns-in-Some-clause-ahead : goal.returns-in-Some-clause-ahead
returns-in-Some-clause-ahead c = λ content rest holds is len.
    let at : ℕ = c.args.self.gate + 1 in
    let head = c.kind_and_len-kind.result in
    let five : at + 5 - at ≡ 5 = omega arith in
    let read = c.bytes.ensures.same content holds ∙ ap (λ (n : ℕ). take n (drop at content)) five in
    let parts = head_read content c.bytes.result.now at head.0 head.1 rest is read c.kind_and_len-kind.ensures.spelled in
    let tail = length-drop 5 rest in
    let frame = has_frame (layout_of c.args.self.version) c.args.self.expected (c.args.self.generation + 1) rest head.0 head.1 (drop 5 rest) parts c.kind_and_len-kind.ensures.fits (omega arith) in
    comes_ahead head.0 head.1 rest c.in-Some.ahead c.in-Some.ensures frame

pub returns-in-None-clause-err : goal.returns-in-None-clause-err
returns-in-None-clause-err c =
    let at : ℕ = c.args.self.gate + 1 in
    let head = c.kind_and_len-kind.result in
    let five : at + 5 - at ≡ 5 = omega arith in
    inr (inr (
      c.damaged-in-None.ensures,
      λ content rest holds is len.
          let read = c.bytes.ensures.same content holds ∙ ap (λ (n : ℕ). take n (drop at content)) five in
          let parts = head_read content c.bytes.result.now at head.0 head.1 rest is read c.kind_and_len-kind.ensures.spelled in
          none_ahead (layout_of c.args.self.version) c.args.self.expected (c.args.self.generation + 1) rest head.0 head.1 (drop 5 rest) parts c.kind_and_len-kind.ensures.fits c.in-None.ensures,
    ))
