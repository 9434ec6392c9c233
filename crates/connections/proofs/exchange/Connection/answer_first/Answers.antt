use Rattle.std.proofs.Common.{sym, ◌∙◌}
use Rattle.connections.proofs.Owning.{owns_first, owns_none, still_owns_row}
use Rattle.connections.proofs.Steps.{grew_answered, grew_ended}
use Rattle.connections.proofs.exchange.Connection.answer_first.Goals.{then-ends, else-ends}
use Rattle.connections.proofs.exchange.Connection.answer_first.Goals as goal

pub give_up_row-requires : goal.give_up_row-requires
give_up_row-requires g c =
    record { owned = still_owns_row g.C.Calls.owns _ _ _ c.answer_of-answer.ensures.others (owns_first g.C.Calls.owns _ _ _ _ c.in-Some.ensures.items c.requires.owned).1 }

pub returns-clause-grew : goal.returns-clause-grew
returns-clause-grew g c = rw c.gather.ensures.made (elim c.if-ends.branch [
  | then-ends w ↦ rw (w.self-is, w.calls-is, w.give_up_row.ensures.empty) (grew_ended g.C.Calls.began g.C.Calls.finished g.C.Calls.gave_up _ _ _ _ _ _ c.in-Some.ensures.items c.answer_of-answer.ensures.made _ (sym c.ends.ensures ∙ w.if-ends.true) w.give_up_row.ensures.given)
  | else-ends w ↦ rw (w.self-is, w.calls-is) (grew_answered g.C.Calls.began g.C.Calls.finished g.C.Calls.gave_up _ _ _ _ _ _ c.in-Some.ensures.items c.answer_of-answer.ensures.made (sym c.ends.ensures ∙ w.if-ends.false))
])

pub returns-clause-owned : goal.returns-clause-owned
returns-clause-owned g c = rw c.gather.ensures.same (elim c.if-ends.branch [
  | then-ends w ↦ rw (w.self-is, w.calls-is) (owns_none g.C.Calls.owns _ _ w.give_up_row.ensures.empty)
  | else-ends w ↦ rw (w.self-is, w.calls-is) (still_owns_row g.C.Calls.owns _ _ _ c.answer_of-answer.ensures.others (owns_first g.C.Calls.owns _ _ _ _ c.in-Some.ensures.items c.requires.owned).1)
])
