use Rattle.std.proofs.Common.{◌≡◌, None, Some, ap, sym, ◌∙◌}
use Rattle.std.specs.Option.{option_map}
use Rattle.view_walk.specs.Walking.{lent_part, sections_of}
use Rattle.view_walk.proofs.Lending.{none_lent, same_lent}
use Rattle.bulk_tasks.proofs.gathering.gather_lent.Goals as goal

pub returns-in-None-clause-gathers : goal.returns-in-None-clause-gathers
returns-in-None-clause-gathers g c = λ first xs h.
    let none : lent_part c.args.walk ≡ None = sym c.lent.ensures ∙ ap (option_map (λ found. (found.0, found.1.now))) c.in-None.is in
    none_lent (λ ys. g.G.Gathers.gathered first c.args.gathering.now ys) xs _ (ap (sections_of c.args.walk.count) none) h

pub returns-in-Ok-clause-gathers : goal.returns-in-Ok-clause-gathers
returns-in-Ok-clause-gathers g c = λ first xs h.
    let some : lent_part c.args.walk ≡ Some (c.in-Some._mark, c.in-Some.part.now) = sym c.lent.ensures ∙ ap (option_map (λ found. (found.0, found.1.now))) c.in-Some.is in
    same_lent (λ ys. g.G.Gathers.gathered first c.gather-added.new.self ys) xs c.args.walk.count _ _ some (c.in-Ok.ensures.ok first xs c.args.walk.count c.in-Some._mark h)

pub returns-in-Err-clause-gathers : goal.returns-in-Err-clause-gathers
returns-in-Err-clause-gathers g c = λ first xs h. none_lent (λ ys. g.G.Gathers.gathered first c.gather-added.new.self ys) xs _ c.give_back.ensures.lends (c.in-Err.ensures.err.1 first xs h)

pub returns-in-Err-clause-fits : goal.returns-in-Err-clause-fits
returns-in-Err-clause-fits g c = λ n b xs p f. c.give_back.ensures.fits n b xs p f
