use Rattle.sim_rules.proofs.OpeningExamples.{old_store_opens}
use Rattle.sim_rules.proofs.OpeningRun.{old_begins_run, second_old_is_skipped}
use Rattle.sim_rules.proofs.RowExamples.{old_key_is_refused}
use Rattle.sim_rules.proofs.examples.old_directory.Goals as goal

pub returns-clause-opened : goal.returns-clause-opened
returns-clause-opened c = old_store_opens c.laws_of_new_stores.ensures.whole c.laws_of_new_stores.ensures.stands c.laws_of_opening.ensures.one

pub returns-clause-too_long : goal.returns-clause-too_long
returns-clause-too_long c = old_key_is_refused

pub returns-clause-first : goal.returns-clause-first
returns-clause-first c = old_begins_run c.laws_of_new_stores.ensures.whole c.laws_of_new_stores.ensures.stands c.laws_of_opening.ensures.one

pub returns-clause-second : goal.returns-clause-second
returns-clause-second c = second_old_is_skipped c.laws_of_new_stores.ensures.whole c.laws_of_new_stores.ensures.stands c.laws_of_opening.ensures.one
