use Rattle.bulk_tasks.proofs.InTurn.{calls_follow}
use Rattle.bulk_tasks.proofs.laws.calls_follow_views.Goals as goal

pub returns : goal.returns
returns c = calls_follow
