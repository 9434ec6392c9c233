use Rattle.std.proofs.Common.{◌∙◌, ap, sym}
use Rattle.ticket_order.specs.declared.record.Opening.{Opening}
use Rattle.plain_words.proofs.words.PlainWords.key_limit.Goals as goal

pub returns : goal.returns
returns c = rw (← c.self.view_is)
    (sym c.self.invariant.2 ∙ ap (λ (o : Opening). o.key_limit) (sym (c.self.invariant.0.one.passes c.args._pass (rw c.self.view_is c.requires)).opening))
