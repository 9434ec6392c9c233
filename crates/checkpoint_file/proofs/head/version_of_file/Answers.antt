use Rattle.checkpoint_file.proofs.Versions.{some_read, none_read}
use Rattle.checkpoint_file.proofs.head.version_of_file.Goals as goal

pub returns-clause-some : goal.returns-clause-some
returns-clause-some c = some_read c.args.byte c.of.result c.of.ensures

pub returns-clause-none : goal.returns-clause-none
returns-clause-none c = none_read c.args.byte c.of.result c.of.ensures
