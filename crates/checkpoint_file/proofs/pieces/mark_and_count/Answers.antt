use Rattle.std.proofs.Common.{◌++◌, ◌-◌, ℕ, List, sym, ap, ap₂, ◌∙◌, arith, drop, length}
use Rattle.std.proofs.lemmas.List.{take-append-drop, take_all, length-drop}
use Rattle.byteorder.specs.Endian.{big_bytes, big_number}
use Rattle.log_records.specs.Agreement.{IsBytes}
use Rattle.log_records.proofs.Digits.{IsBytes-drop, big_bytes-big_number}
use Rattle.checkpoint_file.proofs.pieces.mark_and_count.Goals as goal

pub returns-clause-spelled : goal.returns-clause-spelled
returns-clause-spelled c =
    let head : List ℕ = c.args.head.now in
    let fits : IsBytes head = λ i. omega (arith, c.type_inv.head i) in
    let mark = ap (big_bytes 8) c.read_u64-mark.ensures ∙ big_bytes-big_number 8 head (omega arith) fits in
    let rest = take_all (length head - 8) (drop 8 head) (omega (arith, length-drop 8 head)) in
    let count = ap (big_bytes 4) (c.read_u32-count.ensures ∙ ap (big_number 4) rest) ∙ big_bytes-big_number 4 (drop 8 head) (omega (arith, length-drop 8 head)) (IsBytes-drop 8 head fits) ∙ take_all 4 (drop 8 head) (omega (arith, length-drop 8 head)) in
    sym (take-append-drop 8 head) ∙ ap₂ (λ (a b : List ℕ). a ++ b) (sym mark) (sym count)
