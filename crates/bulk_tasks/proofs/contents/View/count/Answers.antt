use Rattle.std.proofs.Common.{◌≡◌, length, arith, sym, ap, ◌∙◌}
use Rattle.std.specs.FinMap as finite
use Rattle.bulk_tasks.specs.ViewState.{ViewState}
use Rattle.bulk_tasks.proofs.AnyOrder.{len-map_of}
use Rattle.bulk_tasks.proofs.contents.View.count.Goals as goal

pub returns-clause-value : goal.returns-clause-value
returns-clause-value c =
    let same : c.len.result ≡ length c.self.inside.entries.items = omega (arith, c.len.ensures, c.self.inside.entries.ok.0) in
    same ∙ sym (len-map_of c.self.inside.entries.items c.self.invariant) ∙ ap (λ (s : ViewState). finite.len s.map) c.self.view_is
