use Rattle.std.proofs.Common.{ℕ, ap, sym, arith, refl, subst, List, length, take, drop, ◌-◌, slice_index_or}
use Rattle.byteorder.specs.Endian.{big_number}
use Rattle.log_records.specs.Agreement.{IsBytes}
use Rattle.log_records.specs.Layout.{layout_of}
use Rattle.map_types.specs.declared.refusals.Refusal.{Refusal}
use Rattle.map_types.specs.declared.refusals.Refusal.TheVariants.{Damaged}
use Rattle.store_layout.specs.Readings.{HasHeader, wrong_version, wrong_generation, wrong_low}
use Rattle.gate_log.proofs.Scanning.{header_front, slice_number}
use Rattle.gate_log.proofs.parts.check_header.Goals as goal

abbrev damaged : ℕ → ℕ → Refusal
damaged offset file = Damaged file offset

pub returns-in_default-clause-err : goal.returns-in_default-clause-err
returns-in_default-clause-err c =
    let bytes : List ℕ = c.args.bytes.now in
    let fits : IsBytes bytes = λ i. omega (arith, c.type_inv.bytes i) in
    let header = header_front bytes _ _ c.if-bytes-le-HEADER_BYTES.false fits (slice_number 1 8 bytes fits) (slice_number 9 8 bytes fits) refl refl in
    wrong_version _ _ _ header c.in_default.ensures.none refl

pub returns-then-read_u64-generation-clause-err : goal.returns-then-read_u64-generation-clause-err
returns-then-read_u64-generation-clause-err c =
    let bytes : List ℕ = c.args.bytes.now in
    let fits : IsBytes bytes = λ i. omega (arith, c.type_inv.bytes i) in
    let low : ℕ = big_number 8 (take (length bytes - 9) (drop 9 bytes)) in
    let header = header_front bytes c.read_u64.result low c.if-bytes-le-HEADER_BYTES.false fits c.read_u64.type_inv (slice_number 9 8 bytes fits) c.read_u64.ensures refl in
    wrong_generation _ _ _ header c.in-Some.ensures.read c.if-read_u64-generation.true (ap (damaged 1) c.file_number-file.ensures)

pub returns-then-read_u64-low-clause-err : goal.returns-then-read_u64-low-clause-err
returns-then-read_u64-low-clause-err c =
    let bytes : List ℕ = c.args.bytes.now in
    let fits : IsBytes bytes = λ i. omega (arith, c.type_inv.bytes i) in
    let header = header_front bytes c.read_u64.result c.read_u64-2.result c.if-bytes-le-HEADER_BYTES.false fits c.read_u64.type_inv c.read_u64-2.type_inv c.read_u64.ensures c.read_u64-2.ensures in
    let named = subst (λ (g : ℕ). HasHeader (slice_index_or bytes 0 0) g c.read_u64-2.result bytes) c.if-read_u64-generation.false header in
    wrong_low _ _ named c.in-Some.ensures.read c.if-read_u64-low.true (ap (damaged 9) c.file_number-file.ensures)

pub returns-clause-ok : goal.returns-clause-ok
returns-clause-ok c =
    let bytes : List ℕ = c.args.bytes.now in
    let fits : IsBytes bytes = λ i. omega (arith, c.type_inv.bytes i) in
    let header = header_front bytes c.read_u64.result c.read_u64-2.result c.if-bytes-le-HEADER_BYTES.false fits c.read_u64.type_inv c.read_u64-2.type_inv c.read_u64.ensures c.read_u64-2.ensures in
    let one = subst (λ (v : ℕ). HasHeader v c.read_u64.result c.read_u64-2.result bytes) (sym c.in-Some.ensures.some) header in
    let two = subst (λ (g : ℕ). HasHeader (layout_of c.in-Some.version).version g c.read_u64-2.result bytes) c.if-read_u64-generation.false one in
    subst (λ (l : ℕ). HasHeader (layout_of c.in-Some.version).version c.args.generation l bytes) c.if-read_u64-low.false two
