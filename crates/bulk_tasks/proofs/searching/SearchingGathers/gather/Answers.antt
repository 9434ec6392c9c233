use Rattle.std.proofs.Common.{ap, ◌∙◌}
use Rattle.bulk_tasks.specs.Nearest.{approached}
use Rattle.bulk_tasks.proofs.Adding.{folded_on}
use Rattle.bulk_tasks.proofs.searching.SearchingGathers.gather.Goals as goal

pub returns-clause-ok : goal.returns-clause-ok
returns-clause-ok c = λ first xs i mark h. (
  h.0,
  folded_on _ _ first.near _ _ _ xs i mark c.args.part.now (ap approached h.0) (c.as_ref.ensures.value ∙ h.1) (c.deref.ensures.value ∙ c.in_ok-entries.ensures.ok) (c.in_ok-self.ensures.ok ∙ c.nearest_on-near.ensures),
)
