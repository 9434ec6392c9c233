use Rattle.std.proofs.Common.{◌≡◌, ◌<◌, ◌^◌, ℕ, List, ◌++◌, arith, sym, subst, ◌∙◌, drop, inl, inr}
use Rattle.byteorder.specs.Endian.{big_bytes}
use Rattle.log_records.specs.Layout.{layout_of}
use Rattle.gate_log.specs.ScanParts.{AreEntries}
use Rattle.std.proofs.lemmas.Result.{IfOk-weaker}
use Rattle.std.proofs.lemmas.Option.{IfSome_then}
use Rattle.gate_log.proofs.Bodies.{body_parts, is_body}
use Rattle.gate_log.proofs.Scanning.{slice_rest, if_none}
use Rattle.gate_log.proofs.parts.batch_at.Goals as goal

pub returns-then-first-expected-clause-none : goal.returns-then-first-expected-clause-none
returns-then-first-expected-clause-none c = λ batch fits first e.
    let body : List ℕ = c.args.body.now in
    let numbers = c.first_and_count-first.result in
    let first_fits : numbers.0 < 2 ^ 64 = omega arith in
    let parts = body_parts (layout_of c.args.version) batch body (drop 12 body) numbers.0 numbers.1 fits c.requires.high first_fits c.first_and_count-first.ensures.fits c.first_and_count-first.ensures.spelled e in
    let few = fits.few in
    let some = fits.some in
    elim c.then-first-expected.either [
      | inl other ↦ other (sym parts.0 ∙ first)
      | inr bad ↦ elim bad [ inl none ↦ absurd (omega arith) | inr many ↦ absurd (omega arith) ]
    ]

pub returns-then-expected-count-clause-none : goal.returns-then-expected-count-clause-none
returns-then-expected-count-clause-none c = λ batch fits first e.
    let body : List ℕ = c.args.body.now in
    let numbers = c.first_and_count-first.result in
    let first_fits : numbers.0 < 2 ^ 64 = omega arith in
    let parts = body_parts (layout_of c.args.version) batch body (drop 12 body) numbers.0 numbers.1 fits c.requires.high first_fits c.first_and_count-first.ensures.fits c.first_and_count-first.ensures.spelled e in
    let sum = fits.fits in
    omega arith

pub returns-clause-some : goal.returns-clause-some
returns-clause-some c =
    let body : List ℕ = c.args.body.now in
    let numbers = c.first_and_count-first.result in
    let parts : body ≡ big_bytes 8 c.args.expected ++ (big_bytes 4 numbers.1 ++ drop 12 body) =
    subst (λ (n : ℕ). body ≡ big_bytes 8 n ++ (big_bytes 4 numbers.1 ++ drop 12 body)) c.if-first-expected.false c.first_and_count-first.ensures.spelled in
    IfOk-weaker c.entries_at.result _ _
    (λ found some. IfSome_then found some
    (λ entries are. is_body (layout_of c.args.version) c.args.expected numbers.1 entries.items body (drop 12 body) c.requires.high (omega arith) (omega arith) (omega arith) parts
    (subst (AreEntries (layout_of c.args.version) c.args.expected numbers.1 entries.items) (slice_rest 12 body) are)))
    c.entries_at.ensures.some

pub returns-clause-none : goal.returns-clause-none
returns-clause-none c =
    let body : List ℕ = c.args.body.now in
    let numbers = c.first_and_count-first.result in
    let first_fits : numbers.0 < 2 ^ 64 = omega arith in
    IfOk-weaker c.entries_at.result _ _
    (λ found none. if_none found _ _
    (λ none batch fits first e.
    let parts = body_parts (layout_of c.args.version) batch body (drop 12 body) numbers.0 numbers.1 fits c.requires.high first_fits c.first_and_count-first.ensures.fits c.first_and_count-first.ensures.spelled e in
    none batch.commands parts.1 fits.well_formed (slice_rest 12 body ∙ sym parts.2))
    none)
    c.entries_at.ensures.none
