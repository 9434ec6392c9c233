use Rattle.std.proofs.Common.{ap, ◌∙◌}
use Rattle.map_model.specs.Steps.{map_after}
use Rattle.recovery.specs.Lanes.{commands_due, content_map}
use Rattle.recovery.proofs.LaneLemmas.{made_next}
use Rattle.recovery.proofs.lanes.Lane.queue.Goals as goal

pub returns-clause-map : goal.returns-clause-map
returns-clause-map c =
    ap (λ l. map_after (content_map c.args.self.now.content) (commands_due l)) c.in_ok-push.ensures.items ∙ made_next (content_map c.args.self.now.content) c.args.self.now.due.items _
