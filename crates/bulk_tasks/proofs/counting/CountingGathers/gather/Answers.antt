use Rattle.bulk_tasks.proofs.Adding.{count_more}
use Rattle.bulk_tasks.proofs.counting.CountingGathers.gather.Goals as goal

pub returns-clause-ok : goal.returns-clause-ok
returns-clause-ok c = λ first xs i mark h. count_more _ first.count c.args.self.now.count c.len.result _ xs i mark c.args.part.now h c.len.ensures c.saturating_add-self.ensures
