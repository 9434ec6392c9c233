use Rattle.std.proofs.Common.{◌∙◌, sym, ap, ◌+◌, not, Err, length, vec_len, ◌≡◌, rules}
use Rattle.sim_script.proofs.Reading.{all_lines, bad_line_at, called_bad, written}
use Rattle.sim_script.proofs.parsing.parse.Goals as goal

pub returns-in-Err-Bad : goal.returns-in-Err-Bad
returns-in-Err-Bad c =
    let bad = called_bad c.in-Err-Bad.field-0 c.in-Err-Bad.fault c.in-Err-Bad.field-0-is c.in-Err-Bad.ensures in
    let some = sym (ap not c.if-is_empty.ensures) in
    let count : length c.lines.lines.items ≡ vec_len c.lines.lines = search rules in
    written c.args.text.now _ _ c.as_slice-text-items.ensures.value c.in_ok-texts.ensures
    ∙ (c.lines.invariant
    ∙ (bad_line_at c.lines.lines.items _ c.lines.text-index _ _ c.in-Err-Bad.fault c.lines-test.true some bad
    ∙ (ap (λ n. Err (n + 1, c.in-Err-Bad.fault)) (count ∙ sym c.len-line.ensures)
    ∙ ap (λ fault. Err (c.len-line.result + 1, fault)) (sym c.in-Err-Bad.fault-is))))

pub returns : goal.returns
returns c =
    written c.args.text.now _ _ c.as_slice-text-items.ensures.value c.in_ok-texts.ensures
    ∙ (c.lines.invariant ∙ all_lines c.lines.lines.items _ c.lines.text-index _ c.lines-test.false)
