use Rattle.std.proofs.Common.{◌≡◌, arith, subst, sym, ◌∙◌, None, Some, get_or, ◌++◌, ◌∷◌, []}
use Rattle.std.proofs.lemmas.List.{length_push}
use Rattle.flusher.proofs.Runs.{found_more, longest_at_gap, longest_at_size, longest_at_limit, frame_of_found}
use Rattle.flusher.proofs.in_hand.InHand.longest_run.Goals as goal

pub returns-in_default : goal.returns-in_default
returns-in_default c =
    let found = c.loop-index.invariant in
    let gap : None ≡ get_or c.args.self.now.slots c.loop-index.index None = c.in_default.ensures in (
      found.0,
      longest_at_gap _ _ _ _ found.0 found.2 c.most_of-limit.ensures.number (omega (arith, found.1, c.most_of-limit.ensures.limit)) (subst (λ i. get_or c.args.self.now.slots i None ≡ None) (sym found.1) (sym gap)),
      c.run_of.ensures.count ∙ sym found.1,
      frame_of_found _ _ _ found.0 _ found.2 c.run_of.ensures.frame,
    )

pub returns-then-room-len : goal.returns-then-room-len
returns-then-room-len c =
    let found = c.loop-index.invariant in
    let there : Some c.in-Some.command.now ≡ get_or c.args.self.now.slots c.loop-index.index None = c.in-Some.ensures in (
      found.0,
      longest_at_size _ _ _ _ found.0 c.in-Some.command.now found.2 c.most_of-limit.ensures.number (omega (arith, found.1, c.most_of-limit.ensures.limit)) (subst (λ i. get_or c.args.self.now.slots i None ≡ Some c.in-Some.command.now) (sym found.1) (sym there)) (omega (arith, c.if-room-len.true, c.record_len-len.ensures.len)),
      c.run_of-then-room-len.ensures.count ∙ sym found.1,
      frame_of_found _ _ _ found.0 _ found.2 c.run_of-then-room-len.ensures.frame,
    )

pub loop-index-preserved : goal.loop-index-preserved
loop-index-preserved c =
    let found = c.loop-index.invariant in
    let there : Some c.in-Some.command.now ≡ get_or c.args.self.now.slots c.loop-index.index None = c.in-Some.ensures in
    (found.0 ++ c.in-Some.command.now ∷ [], omega (arith, found.1, length_push found.0 c.in-Some.command.now), found_more _ _ _ found.0 c.in-Some.command.now _ found.2 (subst (λ i. get_or c.args.self.now.slots i None ≡ Some c.in-Some.command.now) (sym found.1) (sym there)) c.record_len-len.ensures.len c.if-room-len.false)

pub returns : goal.returns
returns c =
    let found = c.loop-index.invariant in
    (found.0, longest_at_limit _ _ _ _ found.0 found.2 c.most_of-limit.ensures.number (omega (arith, found.1, c.most_of-limit.ensures.limit)), c.run_of-2.ensures.count ∙ omega (arith, found.1), frame_of_found _ _ _ found.0 _ found.2 c.run_of-2.ensures.frame)
