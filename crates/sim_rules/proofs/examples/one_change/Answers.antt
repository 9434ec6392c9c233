use Rattle.sim_rules.proofs.OpeningExamples.{fails_among_them, new_store_opens}
use Rattle.sim_rules.proofs.OpeningRun.{opening_is_run}
use Rattle.sim_rules.proofs.RowExamples.{change_is_staged, long_key_is_refused, not_yet_in_hand, other_is_refused}
use Rattle.sim_rules.proofs.examples.one_change.Goals as goal

pub returns-clause-opened : goal.returns-clause-opened
returns-clause-opened c = new_store_opens c.laws_of_new_stores.ensures.whole c.laws_of_new_stores.ensures.stands c.laws_of_opening.ensures.one

pub returns-clause-fails : goal.returns-clause-fails
returns-clause-fails c = fails_among_them c.laws_of_new_stores.ensures.whole

pub returns-clause-run : goal.returns-clause-run
returns-clause-run c = opening_is_run c.laws_of_new_stores.ensures.whole c.laws_of_new_stores.ensures.stands c.laws_of_opening.ensures.one

pub returns-clause-refused : goal.returns-clause-refused
returns-clause-refused c = other_is_refused

pub returns-clause-too_long : goal.returns-clause-too_long
returns-clause-too_long c = long_key_is_refused

pub returns-clause-not_yet : goal.returns-clause-not_yet
returns-clause-not_yet c = not_yet_in_hand

pub returns-clause-staged : goal.returns-clause-staged
returns-clause-staged c = change_is_staged
