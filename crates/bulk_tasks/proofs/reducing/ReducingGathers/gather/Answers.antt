use Rattle.std.proofs.Common.{ap, ◌∙◌}
use Rattle.bulk_tasks.specs.Tallies.{counted}
use Rattle.bulk_tasks.proofs.Adding.{folded_on}
use Rattle.bulk_tasks.proofs.reducing.ReducingGathers.gather.Goals as goal

pub returns-clause-ok : goal.returns-clause-ok
returns-clause-ok c = λ first xs i mark h. (
  h.0,
  folded_on _ _ first.tally _ _ _ xs i mark c.args.part.now (ap counted h.0) h.1 (c.deref.ensures.value ∙ c.in_ok-entries.ensures.ok) c.tally_on-self.ensures,
)
