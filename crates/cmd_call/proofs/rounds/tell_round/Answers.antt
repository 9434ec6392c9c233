use Rattle.std.proofs.Common.{◌≡◌, ◌+◌, ◌∷◌, [], ◌++◌, ◌∙◌, ap, sym, take, arith}
use Rattle.std.proofs.lemmas.List.{take_more}
use Rattle.cmd_call.specs.Lines.{Asked}
use Rattle.cmd_call.proofs.Telling.{tells_round_none, tells_round_push}
use Rattle.cmd_call.proofs.rounds.tell_round.Goals as goal

pub loop-line-init : goal.loop-line-init
loop-line-init g c = tells_round_none _ _ _ _

pub loop-line-preserved : goal.loop-line-preserved
loop-line-preserved g c =
    let more : take (c.loop-line.line-index + 1) c.args.asked.now ≡ take c.loop-line.line-index c.args.asked.now ++ c.line-item.result ∷ [] =
    take_more c.args.asked.now c.loop-line.line-index c.line-item.result (omega (arith, c.loop-line-test.true))
    ∙ ap (λ (line : Asked). take c.loop-line.line-index c.args.asked.now ++ line ∷ []) (sym c.line-item.is) in
    rw (more, c.first_of.ensures, c.status_of.ensures) (tells_round_push _ _ _ _ _ _ _ _ _ _ _ _ c.loop-line.invariant c.in_ok-outcome.ensures c.in_ok-put_line.ensures)
