use Rattle.std.proofs.Common.{[]}
use Rattle.store_invariant.proofs.Moments.{committed_found, log_may_hold, may_hold, next_may_hold, writer_may_hold}
use Rattle.store_invariant.proofs.Stops.{contents_stand, sealed_is_used}
use Rattle.store_invariant.proofs.laws.stops_of_a_store.Goals as goal

pub returns-clause-rests : goal.returns-clause-rests
returns-clause-rests c = λ h store held files stands contents leaves.
    contents_stand c.laws_of_checkpoints.ensures.older c.laws_of_restoring.ensures.begins c.laws_of_restoring.ensures.goes_on c.laws_of_found.ensures.stands h store held files stands contents
    (may_hold c.stops_of_a_log.ensures c.stops_of_a_checkpoint.ensures h store held files stands contents leaves)

pub returns-clause-log : goal.returns-clause-log
returns-clause-log c = λ h store held start files stands kept contents leaves.
    contents_stand c.laws_of_checkpoints.ensures.older c.laws_of_restoring.ensures.begins c.laws_of_restoring.ensures.goes_on c.laws_of_found.ensures.stands h store held start stands contents
    (log_may_hold c.stops_of_a_log.ensures c.stops_of_a_checkpoint.ensures h store held start stands contents files leaves kept)

pub returns-clause-next : goal.returns-clause-next
returns-clause-next c = λ h store held next start files stands is other kept contents leaves.
    contents_stand c.laws_of_checkpoints.ensures.older c.laws_of_restoring.ensures.begins c.laws_of_restoring.ensures.goes_on c.laws_of_found.ensures.stands h store held start stands contents
    (next_may_hold c.stops_of_a_log.ensures c.stops_of_a_checkpoint.ensures h store held start stands contents files leaves next is other kept)

pub returns-clause-writer : goal.returns-clause-writer
returns-clause-writer c = λ h store held w start files stands is none kept contents leaves.
    contents_stand c.laws_of_checkpoints.ensures.older c.laws_of_restoring.ensures.begins c.laws_of_restoring.ensures.goes_on c.laws_of_found.ensures.stands h store held start stands contents
    (writer_may_hold c.stops_of_a_log.ensures c.stops_of_a_checkpoint.ensures h store held start stands contents files leaves w is kept)

pub returns-clause-checkpoint : goal.returns-clause-checkpoint
returns-clause-checkpoint c = λ h store held files stands unsealing contents leaves.
    sealed_is_used c.laws_of_checkpoints.ensures.older c.laws_of_restoring.ensures.begins c.laws_of_restoring.ensures.goes_on c.laws_of_found.ensures.stands h store held files stands contents
    (may_hold c.stops_of_a_log.ensures c.stops_of_a_checkpoint.ensures h store held files stands contents leaves) unsealing

pub returns-clause-committed : goal.returns-clause-committed
returns-clause-committed c = λ h store held files stands. committed_found c.stops_of_a_log.ensures c.stops_of_a_checkpoint.ensures h store held files stands (λ n. [])
