use Rattle.std.proofs.Common.{◌≡◌, None, Some, ap, sym, ◌∙◌}
use Rattle.std.specs.Option.{option_map}
use Rattle.view_walk.specs.Walking.{lent_part, sections_of}
use Rattle.view_walk.specs.Viewing.{Shows}
use Rattle.view_walk.proofs.Lending.{none_lent, same_lent}
use Rattle.view_walk.proofs.walk.keep.Goals as goal

pub returns-in-None-clause-shows : goal.returns-in-None-clause-shows
returns-in-None-clause-shows c = λ xs s.
    let none : lent_part c.args.parts ≡ None = sym c.lent.ensures ∙ ap (option_map (λ found. (found.0, found.1.now))) c.in-None.is in
    none_lent (λ ys. Shows c.args.captured.now.items ys) xs _ (ap (sections_of c.args.parts.count) none) s

pub returns-in-Ok-clause-shows : goal.returns-in-Ok-clause-shows
returns-in-Ok-clause-shows c = λ xs s.
    let some : lent_part c.args.parts ≡ Some (c.in-Some.mark, c.in-Some.part.now) = sym c.lent.ensures ∙ ap (option_map (λ found. (found.0, found.1.now))) c.in-Some.is in
    same_lent (λ ys. Shows c.capture-kept.new.captured.items ys) xs c.args.parts.count _ _ some (c.in-Ok.ensures.ok xs c.args.parts.count s)

pub returns-in-Err-clause-shows : goal.returns-in-Err-clause-shows
returns-in-Err-clause-shows c = λ xs s. none_lent (λ ys. Shows c.capture-kept.new.captured.items ys) xs _ c.give_back.ensures.lends (rw c.in-Err.ensures.err.1 s)

pub returns-in-Err-clause-fits : goal.returns-in-Err-clause-fits
returns-in-Err-clause-fits c = λ n b xs p f. c.give_back.ensures.fits n b xs p f
