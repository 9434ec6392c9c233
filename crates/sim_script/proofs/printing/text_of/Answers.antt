use Rattle.std.proofs.Common.{◌≡◌, ◌+◌, ◌++◌, [], string_bytes, rules}
use Rattle.sim_script.proofs.Lines.{joined, line_printed, none_left, numbered, whole}
use Rattle.sim_script.proofs.printing.text_of.Goals as goal

pub spans-preserved : goal.spans-preserved
spans-preserved c =
    let text : string_bytes c.push_str.new.self ≡ string_bytes c.spans.text ++ numbered (c.spans.index + 1) (string_bytes c.in_ok-line.line) =
    search (rules, c.in_ok-push_str.ensures.bytes, c.as_str.ensures.value, c.in_ok-line-2.ensures.ok) in
    λ behind rest.
    joined 1 c.args.spans.now c.args.outcomes.now _ _ _ behind text
    (c.spans.invariant _ (line_printed c.args.spans.now c.spans.rest.now _ _ c.spans.index _ _ _ behind c.spans-test.true c.min.ensures c.split_at.ensures.front c.split_at.ensures.back c.in_ok-line.ensures rest))

pub returns : goal.returns
returns c = whole _ _ _ (c.spans.invariant [] (none_left c.args.spans.now _ _ _ c.spans-test.false))
