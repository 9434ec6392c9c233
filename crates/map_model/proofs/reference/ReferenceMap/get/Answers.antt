use Rattle.std.proofs.Common.{sym, ap, ◌∙◌}
use Rattle.std.specs.FinMap as finite
use Rattle.map_model.proofs.EntryLaws.{get-map_of}
use Rattle.map_model.proofs.reference.ReferenceMap.get.Goals as goal

pub returns : goal.returns
returns c = c.get.ensures.value ∙ sym (get-map_of c.self.inside.entries.entries c.args.key.now) ∙ ap (λ m. finite.get m c.args.key.now) c.self.view_is
