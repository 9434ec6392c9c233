use Rattle.std.proofs.Common.{◌≡◌, ◌∙◌, max, sym, ap, get_or}
use Rattle.recovery.proofs.CountingLemmas.{greatest_more}
use Rattle.recovery.proofs.restoring.greatest_of.Goals as goal

pub loop-mark-preserved : goal.loop-mark-preserved
loop-mark-preserved c =
    let marks = c.args.marks.now in
    let new : c.max-greatest.result ≡ max c.loop-mark.greatest (get_or marks c.loop-mark.mark-index 0) = c.max-greatest.ensures in
    new ∙ ap (λ g. max g (get_or marks c.loop-mark.mark-index 0)) c.loop-mark.invariant ∙ sym (greatest_more marks c.loop-mark.mark-index c.loop-mark-test.true)
