use Rattle.std.proofs.Common.{◌∙◌}
use Rattle.std.proofs.lemmas.Result.{err_from_is_err_and}
use Rattle.bulk_tasks.specs.Answering.{entries_kept}
use Rattle.bulk_tasks.specs.Bulk.{key_of_value}
use Rattle.bulk_tasks.proofs.Nearing.{finds}
use Rattle.bulk_tasks.proofs.Answering.{answered_by, distinct_kept, refused_by}
use Rattle.bulk_tasks.proofs.searching.search.Goals as goal

pub returns-in_err-gather_all-clause-answers : goal.returns-in_err-gather_all-clause-answers
returns-in_err-gather_all-clause-answers g c =
    let k = c.in_err-gather_all.ensures.refused in
    let q = err_from_is_err_and c.from_residual.result c.from_residual.ensures.1 in
    rw (q.1, q.2) (refused_by _ _ k.0 _ (key_of_value c.args.sought.now) _ k.1)

pub returns-clause-answers : goal.returns-clause-answers
returns-clause-answers g c =
    let k = c.in_ok-gather_all.ensures.done in
    let es = entries_kept k.0 in
    answered_by _ _ k.0 _ (key_of_value c.args.sought.now) _ k.1 (k.2.1 ∙ finds c.args.sought.now es (distinct_kept _ _ k.0 _ k.1))
