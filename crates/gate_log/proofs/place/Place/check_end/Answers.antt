use Rattle.std.proofs.Common.{◌≡◌, ◌+◌, ◌-◌, ◌<◌, ◌^◌, ℕ, drop, take, arith, sym, ap, ◌∙◌, inr}
use Rattle.byteorder.specs.Endian.{big_bytes}
use Rattle.log_records.specs.Layout.{layout_of}
use Rattle.gate_log.proofs.Heads.{none_end, is_end, number_is}
use Rattle.gate_log.proofs.Scanning.{body_read}
use Rattle.gate_log.proofs.place.Place.check_end.Goals as goal
use Rattle.gate_log.proofs.place.Place.check_end.Goals.{then-self-eq18446744073709551615-via-then-self-eq18446744073709551615, then-self-eq18446744073709551615-via-else-self-eq18446744073709551615+then-next_generation-self}

pub returns-then-self-eq18446744073709551615-clause-err : goal.returns-then-self-eq18446744073709551615-clause-err
returns-then-self-eq18446744073709551615-clause-err c =
    let gate : ℕ = c.args.self.gate in
    let at : ℕ = gate + 1 + 5 in
    let eight : at + 8 - at ≡ 8 = omega arith in
    elim c.then-self-eq18446744073709551615.branch [
      | then-self-eq18446744073709551615-via-then-self-eq18446744073709551615 w ↦
          inr (inr (
            c.damaged.ensures,
            λ content rest holds is h.
                let last = w.if-self-eq18446744073709551615.true in
                none_end (layout_of c.args.self.version) c.args.self.expected (c.args.self.generation + 1) rest h (λ fits body. omega arith),
          ))
      | then-self-eq18446744073709551615-via-else-self-eq18446744073709551615+then-next_generation-self w ↦
          inr (inr (
            c.damaged.ensures,
            λ content rest holds is h.
                let read = c.bytes-body.ensures.same content holds ∙ ap (λ (n : ℕ). take n (drop at content)) eight ∙ body_read content gate 2 8 rest is h in
                none_end (layout_of c.args.self.version) c.args.self.expected (c.args.self.generation + 1) rest h
                (λ fits same.
                let named = number_is w.next_generation.result (c.args.self.generation + 1) w.next_generation.type_inv fits (sym w.next_generation.ensures ∙ read ∙ same) in
                w.if-next_generation-self.true named),
          ))
    ]

pub returns-clause-ok : goal.returns-clause-ok
returns-clause-ok c = λ content rest holds is h.
    let gate : ℕ = c.args.self.gate in
    let at : ℕ = gate + 1 + 5 in
    let eight : at + 8 - at ≡ 8 = omega arith in
    let read = c.bytes-body.ensures.same content holds ∙ ap (λ (n : ℕ). take n (drop at content)) eight ∙ body_read content gate 2 8 rest is h in
    let bytes = sym read ∙ c.next_generation.ensures in
    let last = c.if-self-eq18446744073709551615.false in
    let fits : c.args.self.generation + 1 < 2 ^ 64 = omega arith in
    is_end (c.args.self.generation + 1) rest h fits (bytes ∙ ap (big_bytes 8) c.if-next_generation-self.false)
