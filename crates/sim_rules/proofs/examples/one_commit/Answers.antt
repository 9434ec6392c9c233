use Rattle.sim_rules.proofs.ScheduleExample.{schedule_is_run}
use Rattle.sim_rules.proofs.UnwrittenExample.{unwritten_is_no_run}
use Rattle.sim_rules.proofs.CommitExamples.{change_is_released, fails_as_due}
use Rattle.sim_rules.proofs.StopExamples.{stopped_before, stopped_open, stopped_shut}
use Rattle.sim_rules.proofs.examples.one_commit.Goals as goal

pub returns-clause-released : goal.returns-clause-released
returns-clause-released c = change_is_released

pub returns-clause-fails : goal.returns-clause-fails
returns-clause-fails c = fails_as_due

pub returns-clause-before : goal.returns-clause-before
returns-clause-before c = stopped_before c.laws_of_new_stores.ensures.whole c.laws_of_new_stores.ensures.stands c.laws_of_opening.ensures.one

pub returns-clause-within_open : goal.returns-clause-within_open
returns-clause-within_open c = stopped_open c.laws_of_new_stores.ensures.whole c.laws_of_new_stores.ensures.stands c.laws_of_opening.ensures.one

pub returns-clause-within_shut : goal.returns-clause-within_shut
returns-clause-within_shut c = stopped_shut c.laws_of_new_stores.ensures.whole c.laws_of_new_stores.ensures.stands c.laws_of_opening.ensures.one

pub returns-clause-unwritten : goal.returns-clause-unwritten
returns-clause-unwritten c = unwritten_is_no_run c.laws_of_new_stores.ensures.whole c.laws_of_new_stores.ensures.stands c.laws_of_opening.ensures.one

pub returns-clause-run : goal.returns-clause-run
returns-clause-run c = schedule_is_run c.laws_of_new_stores.ensures.whole c.laws_of_new_stores.ensures.stands c.laws_of_opening.ensures.one
