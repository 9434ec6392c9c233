use Rattle.std.proofs.Common.{◌++◌, ℕ, List, ap, ◌∙◌, arith}
use Rattle.byteorder.specs.Endian.{big_bytes}
use Rattle.log_records.specs.Agreement.{IsBytes}
use Rattle.gate_log.proofs.Scanning.{number_first, number_at}
use Rattle.gate_log.proofs.parts.first_and_count.Goals as goal

pub returns-clause-spelled : goal.returns-clause-spelled
returns-clause-spelled c =
    let body : List ℕ = c.args.body.now in
    let fits : IsBytes body = λ i. omega (arith, c.type_inv.body i) in
    number_first 8 body c.read_u64-first.result (omega arith) fits c.read_u64-first.ensures
    ∙ ap (λ (t : List ℕ). big_bytes 8 c.read_u64-first.result ++ t) (number_at 8 4 body c.read_u32-count.result (omega arith) fits c.read_u32-count.ensures)
