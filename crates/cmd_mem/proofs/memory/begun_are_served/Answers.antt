use Rattle.cmd_mem.proofs.Serving.{begun_served, pass_goes}
use Rattle.cmd_mem.proofs.memory.begun_are_served.Goals as goal

pub returns-clause-served : goal.returns-clause-served
returns-clause-served c = begun_served

pub returns-clause-goes_on : goal.returns-clause-goes_on
returns-clause-goes_on c = pass_goes
