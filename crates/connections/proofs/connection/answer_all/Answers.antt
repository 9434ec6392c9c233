use Rattle.std.proofs.Common.{refl, ◌∙◌}
use Rattle.connections.specs.Past.{late_of, standing}
use Rattle.connections.proofs.Driven.{drives_none, drives_sent, drives_broken}
use Rattle.connections.proofs.connection.answer_all.Goals as goal

pub answers-init : goal.answers-init
answers-init g c =
    (drives_none g.C.Calls.began g.C.Calls.finished g.C.Calls.gave_up _ _ _, c.requires.unsent, refl, λ h. h, refl, c.requires.owned)

pub give_up-requires : goal.give_up-requires
give_up-requires g c = record { owned = c.answer-answered.ensures.owned }

pub returns-in-Err-clause-answered : goal.returns-in-Err-clause-answered
returns-in-Err-clause-answered g c =
    drives_broken g.C.Calls.began g.C.Calls.finished g.C.Calls.gave_up _ _ _ _ _ _ _ _ (standing c.answer-answered.new.self) (late_of c.answer-answered.result) c.answers.invariant.0 c.answer-answered.ensures.grew _ c.in-Err.ensures c.give_up.ensures.given

pub returns-then-is_all-clause-answered : goal.returns-then-is_all-clause-answered
returns-then-is_all-clause-answered g c =
    rw c.sent_all.ensures (drives_sent g.C.Calls.began g.C.Calls.finished g.C.Calls.gave_up _ _ _ _ _ _ _ _ (standing c.answer-answered.new.self) (late_of c.answer-answered.result) c.answers.invariant.0 c.answer-answered.ensures.grew c.in-Ok.ensures, c.answer-answered.ensures.all (c.is_all-is_all.ensures.all c.if-is_all.true), refl)

pub answers-preserved : goal.answers-preserved
answers-preserved g c =
    rw c.sent_all.ensures (drives_sent g.C.Calls.began g.C.Calls.finished g.C.Calls.gave_up _ _ _ _ _ _ _ _ (standing c.answer-answered.new.self) (late_of c.answer-answered.result) c.answers.invariant.0 c.answer-answered.ensures.grew c.in-Ok.ensures, refl, c.answer-answered.ensures.feeder ∙ c.answers.invariant.2, λ h. c.answer-answered.ensures.stage (c.answers.invariant.3 h), c.answer-answered.ensures.capacity ∙ c.answers.invariant.4, c.answer-answered.ensures.owned)

pub answers-smaller : goal.answers-smaller
answers-smaller g c =
    rw c.sent_all.ensures (c.answer-answered.ensures.fewer refl c.answers.invariant.1 (c.is_all-is_all.ensures.not c.if-is_all.false))

pub returns-then-is_all-clause-feeder : goal.returns-then-is_all-clause-feeder
returns-then-is_all-clause-feeder g c = rw c.sent_all.ensures (c.answer-answered.ensures.feeder ∙ c.answers.invariant.2)

pub returns-then-is_all-clause-stage : goal.returns-then-is_all-clause-stage
returns-then-is_all-clause-stage g c =
    rw c.sent_all.ensures (λ h. c.answer-answered.ensures.stage (c.answers.invariant.3 h))

pub returns-then-is_all-clause-capacity : goal.returns-then-is_all-clause-capacity
returns-then-is_all-clause-capacity g c =
    rw c.sent_all.ensures (c.answer-answered.ensures.capacity ∙ c.answers.invariant.4)
