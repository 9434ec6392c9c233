use Rattle.std.proofs.Common.{is_some, sym, ap, ◌∙◌}
use Rattle.std.specs.FinMap as finite
use Rattle.bin_transfer.specs.GrowingState.{GrowingState}
use Rattle.atomic_methods.specs.PartState.{PartState}
use Rattle.map_model.specs.Steps.{outcome}
use Rattle.atomic_methods.specs.Plans.{value_after}
use Rattle.atomic_methods.proofs.PrepareLaws.{prepared, prepared_with_key, is_some-copied}
use Rattle.atomic_methods.proofs.parts.Part.prepare_hashed.Goals as goal

pub returns-clause-ok : goal.returns-clause-ok
returns-clause-ok c =
    let command = c.args.command.now in
    let effect = c.in_ok-effect.field-0.effect in
    let looked =
    c.get-old.ensures ∙ (ap (λ (g : GrowingState). finite.get g.map command.key) c.deref.ensures ∙ ap (λ (p : PartState). finite.get p.map command.key) c.self.view_is) in
    prepared_with_key c.args.self.now.map command _ c.in_ok-action.action c.in_ok-effect.field-0.reply c.of.ensures
    (prepared c.args.self.now.map command c.is_some-is_mapped.result effect c.in_ok-action.action c.in_ok-effect.field-0.reply
    (ap (λ o. value_after o effect) (sym looked) ∙ c.in_ok-effect.ensures.ok.value ∙ ap (λ o. (outcome o command.change).value) looked)
    (c.in_ok-effect.ensures.ok.reply ∙ ap (λ o. (outcome o command.change).reply) looked)
    (c.is_some-is_mapped.ensures ∙ is_some-copied c.get-old.result ∙ ap is_some looked)
    c.in_ok-action.ensures.ok)
