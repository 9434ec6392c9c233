use Rattle.std.proofs.Common.{refl, ◌∙◌, inl, inr}
use Rattle.std.specs.VecDeque.{deque_len}
use Rattle.connections.proofs.Queues.{fewer_than}
use Rattle.connections.proofs.Steps.{grew_none, grew_then}
use Rattle.connections.proofs.exchange.Connection.answer.Goals as goal

pub answers-init : goal.answers-init
answers-init g c =
    (grew_none g.C.Calls.began g.C.Calls.finished g.C.Calls.gave_up _ _, inl refl, refl, λ h. h, refl, c.requires.owned, λ held p. p)

pub returns-in-Some-clause-grew : goal.returns-in-Some-clause-grew
returns-in-Some-clause-grew g c =
    grew_then g.C.Calls.began g.C.Calls.finished g.C.Calls.gave_up _ _ _ _ _ _ c.answers.invariant.0 c.in-Some.ensures.grew

pub answers-preserved : goal.answers-preserved
answers-preserved g c =
    (grew_then g.C.Calls.began g.C.Calls.finished g.C.Calls.gave_up _ _ _ _ _ _ c.answers.invariant.0 c.in-None.ensures.grew, inr (fewer_than c.args.self.now c.answers.self c.answer_first.new.self (λ x. deque_len x.row) c.answers.invariant.1 c.in-None.ensures.fewer), c.in-None.ensures.feeder ∙ c.answers.invariant.2, λ h. c.in-None.ensures.stage (c.answers.invariant.3 h), c.in-None.ensures.capacity ∙ c.answers.invariant.4, c.in-None.ensures.owned, λ held p. c.in-None.ensures.others held (c.answers.invariant.6 held p))
