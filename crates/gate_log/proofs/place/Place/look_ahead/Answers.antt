use Rattle.std.proofs.Common.{◌≡◌, ◌+◌, ◌-◌, ◌∷◌, ℕ, List, drop, take, arith, sym, ap, subst, ◌∙◌, IfOk}
use Rattle.std.proofs.lemmas.Result.{IfErr-weaker}
use Rattle.log_records.specs.Layout.{layout_of}
use Rattle.gate_log.specs.Scan.{ReadsAtGate}
use Rattle.gate_log.specs.ScanParts.{ComesAhead, bytes_of}
use Rattle.gate_log.proofs.Scanning.{refuses_more, rest_is, byte_is}
use Rattle.gate_log.proofs.place.Place.look_ahead.Goals as goal

pub returns-clause-ahead : goal.returns-clause-ahead
returns-clause-ahead g c = λ honest byte rest holds e.
    let gate : ℕ = c.args.self.gate in
    let content : List ℕ = bytes_of g.D.Disk.states c.args.disk.now c.args.reader.now in
    let one : gate + 1 - gate ≡ 1 = omega arith in
    let read = c.bytes-gate.ensures.same content holds ∙ ap (λ (n : ℕ). take n (drop gate content)) one in
    let is_open : 165 ≡ byte = sym c.if-gate.false ∙ byte_is content c.bytes-gate.result.now gate byte rest e read in
    subst (λ (b : ℕ). IfOk c.read_frame.result (ComesAhead b rest)) is_open (c.read_frame.ensures.ahead honest rest holds (rest_is content gate byte rest e))

pub returns-clause-err : goal.returns-clause-err
returns-clause-err g c =
    let gate : ℕ = c.args.self.gate in
    let content : List ℕ = bytes_of g.D.Disk.states c.args.disk.now c.args.reader.now in
    let one : gate + 1 - gate ≡ 1 = omega arith in
    IfErr-weaker c.read_frame.result _ _
    (λ refusal. refuses_more c.args.self.generation gate _ _ refusal
    (λ never honest byte rest holds e.
    let read = c.bytes-gate.ensures.same content holds ∙ ap (λ (n : ℕ). take n (drop gate content)) one in
    let is_open : 165 ≡ byte = sym c.if-gate.false ∙ byte_is content c.bytes-gate.result.now gate byte rest e read in
    (sym is_open, never honest rest holds (rest_is content gate byte rest e))))
    c.read_frame.ensures.err

pub returns-clause-within : goal.returns-clause-within
returns-clause-within g c = λ honest size byte rest holds e reads.
    let gate : ℕ = c.args.self.gate in
    let content : List ℕ = bytes_of g.D.Disk.states c.args.disk.now c.args.reader.now in
    let one : gate + 1 - gate ≡ 1 = omega arith in
    let read = c.bytes-gate.ensures.same content holds ∙ ap (λ (n : ℕ). take n (drop gate content)) one in
    let is_open : 165 ≡ byte = sym c.if-gate.false ∙ byte_is content c.bytes-gate.result.now gate byte rest e read in
    c.read_frame.ensures.within honest size rest holds (rest_is content gate byte rest e) (subst (λ (b : ℕ). ReadsAtGate (layout_of c.args.self.version) (b ∷ rest) size) (sym is_open) reads)
