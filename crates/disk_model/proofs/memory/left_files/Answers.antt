use Rattle.std.proofs.Common.{◌+◌, arith}
use Rattle.disk_model.proofs.MemoryLemmas.{four_kept, one_left}
use Rattle.disk_model.specs.Fills.{after_stop}
use Rattle.disk_model.proofs.memory.left_files.Goals as goal

pub returns : goal.returns
returns c = λ states kept coherent.
    let fill = c.args.fill.now in
    let first = c.pending_count-second.ensures.exact (states 0) (kept.each 0 c.index-files-0.result (omega arith)) (omega (arith, (coherent 0 (omega arith)).no_shorter, (coherent 0 (omega arith)).no_longer)) in
    let second = c.pending_count.ensures.exact (states 1) (kept.each 1 c.index-files-1.result (omega arith)) (omega (arith, (coherent 1 (omega arith)).no_shorter, (coherent 1 (omega arith)).no_longer)) in
    let third = c.pending_count-2.ensures.exact (states 2) (kept.each 2 c.index-files-2.result (omega arith)) (omega (arith, (coherent 2 (omega arith)).no_shorter, (coherent 2 (omega arith)).no_longer)) in
    four_kept c.in_ok-at_rest.field-0 c.in_ok-at_rest-2.field-0 c.in_ok-at_rest-3.field-0 c.in_ok-at_rest-4.field-0 (after_stop fill states)
    (one_left c.in_ok-at_rest.field-0 fill states 0 0 c.in_ok-left.field-0.items (omega arith) (c.in_ok-left.ensures (states 0) (kept.each 0 c.index-files-0-2.result (omega arith))) c.in_ok-at_rest.ensures)
    (one_left c.in_ok-at_rest-2.field-0 fill states 1 c.pending_count-second.result c.in_ok-left-2.field-0.items (omega arith) (c.in_ok-left-2.ensures (states 1) (kept.each 1 c.index-files-1-2.result (omega arith))) c.in_ok-at_rest-2.ensures)
    (one_left c.in_ok-at_rest-3.field-0 fill states 2 (c.pending_count-second.result + c.pending_count.result) c.in_ok-left-3.field-0.items (omega arith) (c.in_ok-left-3.ensures (states 2) (kept.each 2 c.index-files-2-2.result (omega arith))) c.in_ok-at_rest-3.ensures)
    (one_left c.in_ok-at_rest-4.field-0 fill states 3 (c.pending_count-second.result + c.pending_count.result + c.pending_count-2.result) c.in_ok-left-4.field-0.items (omega arith) (c.in_ok-left-4.ensures (states 3) (kept.each 3 c.index-files-3.result (omega arith))) c.in_ok-at_rest-4.ensures)
