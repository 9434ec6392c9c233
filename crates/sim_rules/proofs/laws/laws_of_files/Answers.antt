use Rattle.sim_rules.proofs.FileLaws.{begins_empty, entered_as_failed, old_begins_empty}
use Rattle.sim_rules.proofs.laws.laws_of_files.Goals as goal

pub returns : goal.returns
returns c = record {
  begins = begins_empty c.laws_of_new_stores.ensures.whole c.laws_of_new_stores.ensures.stands;
  old = old_begins_empty c.laws_of_new_stores.ensures.whole c.laws_of_new_stores.ensures.stands;
  entered = entered_as_failed;
}
