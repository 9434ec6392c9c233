use Rattle.store_invariant.proofs.LogSteps.{end_steps_on, log_stays, log_steps_on}
use Rattle.store_invariant.proofs.NextLogSteps.{log_ends, next_is_ready, next_steps_on}
use Rattle.store_invariant.proofs.laws.steps_of_logs.Goals as goal

pub returns-clause-log : goal.returns-clause-log
returns-clause-log c = log_steps_on c.laws_of_restoring.ensures.goes_on c.laws_of_logs.ensures.goes_on

pub returns-clause-stays : goal.returns-clause-stays
returns-clause-stays c = log_stays

pub returns-clause-next : goal.returns-clause-next
returns-clause-next c = next_steps_on

pub returns-clause-ready : goal.returns-clause-ready
returns-clause-ready c = next_is_ready

pub returns-clause-end : goal.returns-clause-end
returns-clause-end c = end_steps_on

pub returns-clause-ends : goal.returns-clause-ends
returns-clause-ends c = log_ends c.stops_of_a_log.ensures
