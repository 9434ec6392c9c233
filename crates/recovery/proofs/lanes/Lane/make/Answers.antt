use Rattle.std.proofs.Common.{ap, refl, sym, subst, ◌∙◌}
use Rattle.map_model.specs.Steps.{map_after}
use Rattle.recovery.specs.Lanes.{IsLaid, commands_due, content_map}
use Rattle.recovery.proofs.lanes.Lane.make.Goals as goal

pub returns-clause-ok : goal.returns-clause-ok
returns-clause-ok c =
    let was = c.replace-content.ensures.value in
    let n = c.args.self.now.stripes.count in
    record {
      map = c.in_ok-make_changes.ensures.map ∙ ap (λ l. map_after c.in_ok-part.part.map (commands_due l)) c.deref.ensures.value
          ∙ ap (λ m. map_after m (commands_due c.args.self.now.due.items)) (c.in_ok-part.ensures.map ∙ ap content_map was);
      none = c.clear.ensures.items;
      stripes = refl;
      laid = λ laid. c.make_changes.ensures.stripes ∙ c.in_ok-part.ensures.laid (subst (IsLaid n) (sym was) laid);
    }
