use Rattle.std.proofs.Common.{ap, ◌∙◌}
use Rattle.std.proofs.lemmas.Result.{err_from_is_err_and}
use Rattle.bulk_tasks.specs.Answering.{entries_kept}
use Rattle.bulk_tasks.specs.Bulk.{reduction_of}
use Rattle.bulk_tasks.specs.Tallies.{answer_of}
use Rattle.bulk_tasks.proofs.Joining.{reduces}
use Rattle.bulk_tasks.proofs.Answering.{answered_by, distinct_kept, refused_by}
use Rattle.bulk_tasks.proofs.reducing.reduce.Goals as goal

pub returns-in_err-gather_all-clause-answers : goal.returns-in_err-gather_all-clause-answers
returns-in_err-gather_all-clause-answers g c = λ yes.
    let k = c.in_err-gather_all.ensures.refused in
    let q = err_from_is_err_and c.from_residual.result c.from_residual.ensures.1 in
    rw (q.1, q.2) (refused_by _ _ k.0 _ (reduction_of c.args.func) _ k.1)

pub returns-clause-answers : goal.returns-clause-answers
returns-clause-answers g c = λ yes.
    let k = c.in_ok-gather_all.ensures.done in
    let es = entries_kept k.0 in
    answered_by _ _ k.0 _ (reduction_of c.args.func) _ k.1 (c.answer.ensures ∙ ap answer_of k.2.1 ∙ reduces c.args.func es (distinct_kept _ _ k.0 _ k.1) yes)
