use Rattle.std.proofs.Common.{◌≡◌, length, arith, sym, ◌∙◌}
use Rattle.std.proofs.lemmas.Result.{err_from_is_err_and}
use Rattle.bulk_tasks.specs.Answering.{entries_kept}
use Rattle.bulk_tasks.specs.Bulk.{count_of}
use Rattle.bulk_tasks.proofs.AnyOrder.{len-map_of}
use Rattle.bulk_tasks.proofs.Answering.{answered_by, distinct_kept, refused_by, starved_by}
use Rattle.bulk_tasks.proofs.counting.count.Goals as goal

pub returns-in_err-gather_all-clause-answers : goal.returns-in_err-gather_all-clause-answers
returns-in_err-gather_all-clause-answers g c =
    let k = c.in_err-gather_all.ensures.refused in
    let q = err_from_is_err_and c.from_residual.result c.from_residual.ensures.1 in
    rw (q.1, q.2) (refused_by _ _ k.0 _ count_of _ k.1)

pub returns-then-counting-gt-MOST_ENTRIES-clause-answers : goal.returns-then-counting-gt-MOST_ENTRIES-clause-answers
returns-then-counting-gt-MOST_ENTRIES-clause-answers g c =
    let k = c.in_ok-gather_all.ensures.done in
    starved_by _ _ k.0 _ count_of k.1

pub returns-clause-answers : goal.returns-clause-answers
returns-clause-answers g c =
    let k = c.in_ok-gather_all.ensures.done in
    let count = c.gather_all.new.gathering.count in
    let es = entries_kept k.0 in
    let few : count ≡ length es = omega (arith, k.2) in
    answered_by _ _ k.0 _ count_of count k.1 (few ∙ sym (len-map_of es (distinct_kept _ _ k.0 _ k.1)))
