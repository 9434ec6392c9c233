use Rattle.std.proofs.Common.{◌≡◌, IfOk, ap, ◌∙◌, subst}
use Rattle.bulk_tasks.specs.ViewState.{ViewState}
use Rattle.bulk_tasks.specs.Nearest.{nearest_of}
use Rattle.bulk_tasks.specs.Bulk.{key_of_value}
use Rattle.bulk_tasks.proofs.Nearing.{finds}
use Rattle.bulk_tasks.proofs.contents.View.search.Goals as goal

pub returns-clause-ok : goal.returns-clause-ok
returns-clause-ok g c =
    let es = c.self.inside.entries.items in
    let sought = c.args.sought.now in
    let near = c.nearest_of_all-near.ensures
    ∙ ap (nearest_of sought) c.as_slice.ensures.value
    ∙ finds sought es c.self.invariant
    ∙ ap (λ (s : ViewState). key_of_value sought s.map) c.self.view_is in
    subst (λ o. IfOk c.copied.result (λ found. found ≡ o)) near c.copied.ensures.ok
