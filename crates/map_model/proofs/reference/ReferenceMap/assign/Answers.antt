use Rattle.std.proofs.Common.{◌≡◌, sym, ap, ◌∙◌, None, Some, rules}
use Rattle.map_model.specs.Maps.{assign}
use Rattle.map_model.proofs.EntryLaws.{map_of-updated}
use Rattle.map_model.proofs.reference.ReferenceMap.assign.Goals as goal

pub returns-in-None-clause-ok : goal.returns-in-None-clause-ok
returns-in-None-clause-ok c =
    map_of-updated c.self.inside.entries.entries c.remove.new.self.entries c.args.key.now None c.remove.ensures.updates.0
    ∙ ap (λ m. assign m c.args.key.now None) c.self.view_is
    ∙ ap (assign c.args.self.now c.args.key.now) (sym c.in-None.is)

pub returns-in_ok-insert-in-Some-clause-ok : goal.returns-in_ok-insert-in-Some-clause-ok
returns-in_ok-insert-in-Some-clause-ok c =
    let same : c.in_ok-clone-in-Some.field-0 ≡ c.args.key.now = search rules in
    map_of-updated c.self.inside.entries.entries c.insert.new.self.entries c.in_ok-clone-in-Some.field-0 (Some c.in-Some.value) c.in_ok-insert-in-Some.ensures.updates.0
    ∙ ap (λ m. assign m c.in_ok-clone-in-Some.field-0 (Some c.in-Some.value)) c.self.view_is
    ∙ rw (same, c.in-Some.is)
