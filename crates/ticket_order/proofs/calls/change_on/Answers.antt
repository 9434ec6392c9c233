use Rattle.ticket_order.proofs.Walking.{may_give_back}
use Rattle.ticket_order.proofs.calls.change_on.Goals as goal

pub give-requires : goal.give-requires
give-requires g c = record { fits = may_give_back _ _ _ c.change_taken-taken.ensures.content }

pub returns-clause-made : goal.returns-clause-made
returns-clause-made g c = λ b f. rw c.give.ensures.step.is (c.change_taken-taken.ensures.made b f)

pub returns-clause-refused : goal.returns-clause-refused
returns-clause-refused g c = λ b f. rw c.give.ensures.step.is (c.change_taken-taken.ensures.refused b f)

pub returns-clause-failed : goal.returns-clause-failed
returns-clause-failed g c = λ b f failed. rw c.give.ensures.step.is (c.change_taken-taken.ensures.failed b f failed)
