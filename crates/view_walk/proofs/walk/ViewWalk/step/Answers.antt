use Rattle.std.proofs.Common.{◌++◌}
use Rattle.std.proofs.lemmas.Result.{err_from_is_err_and}
use Rattle.view_walk.specs.Walking.{lent_sections}
use Rattle.view_walk.proofs.walk.ViewWalk.step.Goals as goal

pub step-requires : goal.step-requires
step-requires g c = (c.requires.0, c.requires.1.sections, c.requires.1.parts)

pub returns-in_err-parts-clause-next : goal.returns-in_err-parts-clause-next
returns-in_err-parts-clause-next g c =
    let q = err_from_is_err_and c.from_residual.result c.from_residual.ensures.1 in
    rw (q.1, q.2) (λ b f. (f.sections ++ lent_sections c.args.self.parts, c.in_err-parts.ensures.next b f.sections f.parts))

pub returns-in-More-clause-next : goal.returns-in-More-clause-next
returns-in-More-clause-next g c = λ b f.
    let next = rw c.in-More.is at (c.in_ok-parts.ensures.next b f.sections f.parts) in record {
      sections = f.sections ++ lent_sections c.args.self.parts;
      parts = c.keep-parts.ensures.fits _ b _ _ next;
      shows = c.keep-parts.ensures.shows _ f.shows;
    }

pub returns-in-Done-clause-next : goal.returns-in-Done-clause-next
returns-in-Done-clause-next g c = λ b f.
    let done = rw c.in-Done.is at (c.in_ok-parts.ensures.next b f.sections f.parts) in
    record { views = record { sections = f.sections ++ lent_sections c.args.self.parts; all = done.all; shows = f.shows }; durable = done.durable }
