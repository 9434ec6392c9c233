use Rattle.cmd_serve.proofs.Between.{complete}
use Rattle.cmd_serve.proofs.laws.begun_requests_complete.Goals as goal

pub returns : goal.returns
returns c = complete c.begun_calls_complete.ensures
