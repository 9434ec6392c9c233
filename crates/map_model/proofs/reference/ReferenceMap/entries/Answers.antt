use Rattle.std.proofs.Common.{sym, ap, ◌∙◌}
use Rattle.std.specs.FinMap as finite
use Rattle.map_model.proofs.EntryLaws.{entries-map_of}
use Rattle.map_model.proofs.reference.ReferenceMap.entries.Goals as goal

pub returns : goal.returns
returns c = c.iter.ensures.rest ∙ sym (entries-map_of c.self.inside.entries.entries c.iter.ensures.ordered) ∙ ap finite.entries c.self.view_is
