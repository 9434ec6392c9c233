use Rattle.std.proofs.Common.{refl}
use Rattle.view_walk.proofs.Copying.{shows_more}
use Rattle.view_walk.proofs.walk.capture.Goals as goal

pub returns-clause-ok : goal.returns-clause-ok
returns-clause-ok c = λ xs i s. rw c.in_ok-push.ensures.items (shows_more _ xs _ _ refl c.in_ok-entries.ensures.ok s)
