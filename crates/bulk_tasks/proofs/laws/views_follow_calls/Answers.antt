use Rattle.bulk_tasks.proofs.InTurn.{views_follow}
use Rattle.bulk_tasks.proofs.laws.views_follow_calls.Goals as goal

pub returns : goal.returns
returns c = views_follow
