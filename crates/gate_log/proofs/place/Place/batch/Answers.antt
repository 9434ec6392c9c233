use Rattle.std.proofs.Common.{◌≡◌, ◌+◌, ◌-◌, ℕ, List, ◌++◌, ◌∷◌, length, take, drop, arith, sym, ap, subst, ◌∙◌, inr}
use Rattle.byteorder.specs.Endian.{big_bytes}
use Rattle.log_records.specs.Layout.{layout_of}
use Rattle.gate_log.specs.ScanParts.{IsBody}
use Rattle.gate_log.proofs.Heads.{none_batch, is_batch}
use Rattle.gate_log.proofs.Scanning.{body_read}
use Rattle.gate_log.proofs.place.Place.batch.Goals as goal

pub returns-in-Some-clause-ok : goal.returns-in-Some-clause-ok
returns-in-Some-clause-ok c = λ content rest holds is h.
    let gate : ℕ = c.args.self.gate in
    let at : ℕ = gate + 1 + 5 in
    let len : ℕ = c.args.len in
    let count : at + len - at ≡ len = omega arith in
    let read = c.bytes-body.ensures.same content holds ∙ ap (λ (n : ℕ). take n (drop at content)) count ∙ body_read content gate 1 len rest is h in
    let some = rw c.in-Some.is at c.in_ok-entries.ensures.some in
    is_batch (layout_of c.args.self.version) c.args.self.expected len c.in-Some.entries.items rest h (subst (IsBody (layout_of c.args.self.version) c.args.self.expected c.in-Some.entries.items) read some)

pub returns-in-None-clause-err : goal.returns-in-None-clause-err
returns-in-None-clause-err c =
    inr (inr (
      c.damaged.ensures,
      λ content rest holds is h.
          let gate : ℕ = c.args.self.gate in
          let at : ℕ = gate + 1 + 5 in
          let len : ℕ = c.args.len in
          let count : at + len - at ≡ len = omega arith in
          let read = c.bytes-body.ensures.same content holds ∙ ap (λ (n : ℕ). take n (drop at content)) count ∙ body_read content gate 1 len rest is h in
          let none = rw c.in-None.is at c.in_ok-entries.ensures.none in
          let back : h.body ≡ c.bytes-body.result.now = sym read in
          let high = c.requires.high in
          none_batch (layout_of c.args.self.version) c.args.self.expected (c.args.self.generation + 1) rest len h (omega arith)
          (λ batch fits first e. none batch fits first (e ∙ ap (λ (l : List ℕ). 1 ∷ (big_bytes 4 (length l) ++ l)) back)),
    ))
