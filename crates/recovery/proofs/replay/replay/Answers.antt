use Rattle.std.proofs.Common.{◌≡◌, ℕ, ◌+◌, List, [], ◌∷◌, ◌++◌, max, length, drop, sym, ap, subst, ◌∙◌, inr, arith}
use Rattle.std.proofs.lemmas.Result.{err_from_is_err_and}
use Rattle.log_records.specs.Layout.{Layout, layout_of}
use Rattle.log_records.proofs.Layouts.{layout_room}
use Rattle.store_layout.specs.Failures.{IsFileRefused}
use Rattle.store_layout.specs.Logs.{IsClosed, IsEnded, log_file, log_front}
use Rattle.log_records.specs.declared.versions.Version.{Version}
use Rattle.recovery.specs.declared.replay.End.TheVariants.{Closed, Ended}
use Rattle.recovery.specs.LogReading.{EndsAt, IsReading, IsReplayed}
use Rattle.gate_log.specs.Scan.{HasRead, IsNextBatch, ReadsAtGate, log_bytes}
use Rattle.gate_log.specs.States.{batch_of}
use Rattle.disk_model.proofs.LookLemmas.{looks_on}
use Rattle.gate_log.proofs.Scanning.{gate_refused, max_pieces}
use Rattle.file_pieces.specs.Pieces.{end_of, pieces_in}
use Rattle.recovery.proofs.PrefixLemmas.{reads_inside}
use Rattle.recovery.proofs.ReplayLemmas.{batch_more, broken_for, few_batches, frame_on, pieces_further, pieces_upto, same_log}
use Rattle.recovery.proofs.replay.replay.Goals as goal

pub returns-in_err-entries-clause-looks : goal.returns-in_err-entries-clause-looks
returns-in_err-entries-clause-looks g c =
    let q = err_from_is_err_and c.from_residual.result c.from_residual.ensures.1 in
    rw (q.1, q.2)
    (looks_on g.D.Disk.states g.D.Disk.failures g.D.Disk.honest _ c.args.disk.now c.loop.disk c.next_frame.new.disk c.loop.invariant.looks c.in_err-entries.ensures.looks)

pub returns-in_err-entries-clause-err : goal.returns-in_err-entries-clause-err
returns-in_err-entries-clause-err g c =
    let q = err_from_is_err_and c.from_residual.result c.from_residual.ensures.1 in
    let inv = c.loop.invariant in
    rw (q.1, q.2)
    (broken_for g.D.Disk.states g.D.Disk.failures g.D.Disk.honest c.args.disk.now c.loop.disk inv.looks (layout_of c.args.scan.now.version) c.next_frame.new.disk c.args.scan.now c.loop.scan c.args.restoring.now c.loop.restoring
    c.args.generation c.loop.counter _ (ap layout_of inv.version) inv.generation c.in_err-entries.ensures.looks.was_honest inv.read c.in_err-entries.ensures.err)

pub returns-in_err-apply-in-Batch-clause-looks : goal.returns-in_err-apply-in-Batch-clause-looks
returns-in_err-apply-in-Batch-clause-looks g c =
    let q = err_from_is_err_and c.from_residual-in_err-apply-in-Batch.result c.from_residual-in_err-apply-in-Batch.ensures.1 in
    rw (q.1, q.2, c.in_err-apply-in-Batch.ensures.err)
    (looks_on g.D.Disk.states g.D.Disk.failures g.D.Disk.honest 0 c.args.disk.now c.loop.disk c.next_frame.new.disk c.loop.invariant.looks c.in_ok-entries.ensures.looks)

pub returns-in-Ended-clause-looks : goal.returns-in-Ended-clause-looks
returns-in-Ended-clause-looks g c =
    looks_on g.D.Disk.states g.D.Disk.failures g.D.Disk.honest 0 c.args.disk.now c.loop.disk c.next_frame.new.disk c.loop.invariant.looks c.in_ok-entries.ensures.looks

pub returns-in-Ended-clause-ok : goal.returns-in-Ended-clause-ok
returns-in-Ended-clause-ok g c = λ honest low begun.
    let inv = c.loop.invariant in
    let layout : Layout = layout_of c.loop.scan.version in
    let so_far = inv.read (c.in_ok-entries.ensures.looks.was_honest honest) low begun in
    let same = same_log g.D.Disk.states g.D.Disk.failures g.D.Disk.honest c.args.disk.now c.loop.disk inv.looks c.loop.scan c.args.generation inv.generation in
    let found = rw c.in-Ended.is at (c.in_ok-entries.ensures.found honest low so_far.batches (subst (λ content. HasRead layout low so_far.batches c.loop.scan content) (sym same) so_far.read)) in
    let stays = rw c.in-Ended.is at c.in_ok-entries.ensures.goes_on in
    subst (λ (v : Version). IsReplayed (layout_of v) c.args.generation low (log_bytes g.D.Disk.states c.args.disk.now c.args.generation) c.args.restoring.now Ended c.next_frame.new.self c.loop.restoring) inv.version (record {
      batches = so_far.batches;
      ends = subst (λ n. IsEnded layout n low so_far.batches (n + 1) (log_bytes g.D.Disk.states c.args.disk.now c.args.generation)) inv.generation
          (subst (λ content. IsEnded layout c.loop.scan.generation low so_far.batches (c.loop.scan.generation + 1) content) same found);
      gate = stays.gate ∙ so_far.read.place ∙ ap (λ n. length (log_front layout n low so_far.batches)) inv.generation;
      committed = stays.expected ∙ so_far.read.tickets;
      applied = so_far.applied;
    })

pub returns-in-Closed-clause-looks : goal.returns-in-Closed-clause-looks
returns-in-Closed-clause-looks g c =
    looks_on g.D.Disk.states g.D.Disk.failures g.D.Disk.honest 0 c.args.disk.now c.loop.disk c.next_frame.new.disk c.loop.invariant.looks c.in_ok-entries.ensures.looks

pub returns-in-Closed-clause-ok : goal.returns-in-Closed-clause-ok
returns-in-Closed-clause-ok g c = λ honest low begun.
    let inv = c.loop.invariant in
    let layout : Layout = layout_of c.loop.scan.version in
    let so_far = inv.read (c.in_ok-entries.ensures.looks.was_honest honest) low begun in
    let same = same_log g.D.Disk.states g.D.Disk.failures g.D.Disk.honest c.args.disk.now c.loop.disk inv.looks c.loop.scan c.args.generation inv.generation in
    let found = rw c.in-Closed.is at (c.in_ok-entries.ensures.found honest low so_far.batches (subst (λ content. HasRead layout low so_far.batches c.loop.scan content) (sym same) so_far.read)) in
    let stays = rw c.in-Closed.is at c.in_ok-entries.ensures.goes_on in
    subst (λ (v : Version). IsReplayed (layout_of v) c.args.generation low (log_bytes g.D.Disk.states c.args.disk.now c.args.generation) c.args.restoring.now Closed c.next_frame.new.self c.loop.restoring) inv.version (record {
      batches = so_far.batches;
      ends = subst (λ n. IsClosed layout n low so_far.batches (log_bytes g.D.Disk.states c.args.disk.now c.args.generation)) inv.generation
          (subst (λ content. IsClosed layout c.loop.scan.generation low so_far.batches content) same found);
      gate = stays.gate ∙ so_far.read.place ∙ ap (λ n. length (log_front layout n low so_far.batches)) inv.generation;
      committed = stays.expected ∙ so_far.read.tickets;
      applied = so_far.applied;
    })

pub loop-preserved : goal.loop-preserved
loop-preserved g c =
    let inv = c.loop.invariant in
    let layout : Layout = layout_of c.loop.scan.version in
    let goes_on = rw c.in-Batch.is at c.in_ok-entries.ensures.goes_on in
    record {
      looks = looks_on g.D.Disk.states g.D.Disk.failures g.D.Disk.honest 0 c.args.disk.now c.loop.disk c.next_frame.new.disk inv.looks c.in_ok-entries.ensures.looks;
      same = frame_on c.args.restoring.now c.loop.restoring c.apply.new.self inv.same c.in_ok-apply-in-Batch.ensures.same;
      some = λ some. c.in_ok-apply-in-Batch.ensures.some (inv.some some);
      version = goes_on.3 ∙ inv.version;
      generation = goes_on.0 ∙ inv.generation;
      called = let so_far = inv.called in let more = c.in_ok-entries.ensures.called in omega (arith, so_far, more);
      pieces = let next : pieces_in (end_of c.next_frame.new.self.reader) ≡ max (pieces_in (end_of c.loop.scan.reader)) (pieces_in (c.next_frame.new.self.gate + 1)) = rw c.in-Batch.is at c.in_ok-entries.ensures.pieces in
          next ∙ ap (λ (n : ℕ). max n (pieces_in (c.next_frame.new.self.gate + 1))) inv.pieces
          ∙ max_pieces (pieces_in (end_of c.args.scan.now.reader)) (c.loop.scan.gate + 1) (c.next_frame.new.self.gate + 1) (let forward = goes_on.2 in omega (arith, forward));
      read = λ honest low begun.
          let so_far = inv.read (c.in_ok-entries.ensures.looks.was_honest honest) low begun in
          let same = same_log g.D.Disk.states g.D.Disk.failures g.D.Disk.honest c.args.disk.now c.loop.disk inv.looks c.loop.scan c.args.generation inv.generation in
          let found = rw c.in-Batch.is at (c.in_ok-entries.ensures.found honest low so_far.batches (subst (λ content. HasRead layout low so_far.batches c.loop.scan content) (sym same) so_far.read)) in
          let more = batch_more layout low (log_bytes g.D.Disk.states c.args.disk.now c.args.generation) c.args.restoring.now c.loop.restoring c.apply.new.self c.loop.scan c.next_frame.new.self c.loop.counter
          c.in-Batch.entries.items inv.same so_far
          (subst (λ content. IsNextBatch layout low so_far.batches c.in-Batch.entries.items c.loop.scan c.next_frame.new.self content) same found)
          c.in_ok-apply-in-Batch.ensures.ok in
          subst (λ (v : Version). IsReading (layout_of v) low (log_bytes g.D.Disk.states c.args.disk.now c.args.generation) c.args.restoring.now c.next_frame.new.self (c.loop.counter + 1) c.apply.new.self) (sym goes_on.3) more;
    }

pub returns-clause-err : goal.returns-clause-err
returns-clause-err g c = inr (inr (λ honest low begun.
    let so_far = c.loop.invariant.read honest low begun in
    let many = so_far.many in
    let few = few_batches (layout_of c.loop.scan.version) low so_far.batches c.loop.scan (log_bytes g.D.Disk.states c.args.disk.now c.args.generation) so_far.read in
    let over = c.loop-test.false in
    let fits = c.damaged.ensures.fits in
    absurd (omega (arith, many, few, over, fits))))

pub returns-in-Ended-clause-called : goal.returns-in-Ended-clause-called
returns-in-Ended-clause-called g c = let so_far = c.loop.invariant.called in let more = c.in_ok-entries.ensures.called in omega (arith, so_far, more)

pub returns-in-Closed-clause-called : goal.returns-in-Closed-clause-called
returns-in-Closed-clause-called g c = let so_far = c.loop.invariant.called in let more = c.in_ok-entries.ensures.called in omega (arith, so_far, more)

pub returns-in-Ended-clause-pieces : goal.returns-in-Ended-clause-pieces
returns-in-Ended-clause-pieces g c =
    let gate : ℕ = c.loop.scan.gate in
    let stays = rw c.in-Ended.is at c.in_ok-entries.ensures.goes_on in
    let next : pieces_in (end_of c.next_frame.new.self.reader) ≡ max (pieces_in (end_of c.loop.scan.reader)) (pieces_in (gate + 14 + 1)) = rw c.in-Ended.is at c.in_ok-entries.ensures.pieces in
    next ∙ ap (λ (n : ℕ). max n (pieces_in (gate + 14 + 1))) c.loop.invariant.pieces
    ∙ max_pieces (pieces_in (end_of c.args.scan.now.reader)) (gate + 1) (gate + 14 + 1) (omega arith)
    ∙ ap (λ (n : ℕ). max (pieces_in (end_of c.args.scan.now.reader)) (pieces_in (n + 14 + 1))) (sym stays.gate)

pub returns-in-Closed-clause-pieces : goal.returns-in-Closed-clause-pieces
returns-in-Closed-clause-pieces g c =
    let gate : ℕ = c.loop.scan.gate in
    let stays = rw c.in-Closed.is at c.in_ok-entries.ensures.goes_on in
    let next : pieces_in (end_of c.next_frame.new.self.reader) ≡ max (pieces_in (end_of c.loop.scan.reader)) (pieces_in (gate + 1)) = rw c.in-Closed.is at c.in_ok-entries.ensures.pieces in
    next ∙ ap (λ (n : ℕ). max n (pieces_in (gate + 1))) c.loop.invariant.pieces
    ∙ max_pieces (pieces_in (end_of c.args.scan.now.reader)) (gate + 1) (gate + 1) (omega arith)
    ∙ ap (λ (n : ℕ). max (pieces_in (end_of c.args.scan.now.reader)) (pieces_in (n + 1))) (sym stays.gate)

pub returns-in_err-entries-clause-tried : goal.returns-in_err-entries-clause-tried
returns-in_err-entries-clause-tried g c = λ honest low last begun ends.
    let q = err_from_is_err_and c.from_residual.result c.from_residual.ensures.1 in
    let inv = c.loop.invariant in
    let layout : Layout = layout_of c.loop.scan.version in
    let content : List ℕ = log_bytes g.D.Disk.states c.args.disk.now c.args.generation in
    let so_far = inv.read (c.in_err-entries.ensures.looks.was_honest honest) low begun in
    let same = same_log g.D.Disk.states g.D.Disk.failures g.D.Disk.honest c.args.disk.now c.loop.disk inv.looks c.loop.scan c.args.generation inv.generation in
    let read = subst (λ (l : List ℕ). HasRead layout low so_far.batches c.loop.scan l) (sym same) so_far.read in
    let here = reads_inside layout (layout_room c.loop.scan.version) c.args.generation low so_far.batches c.loop.scan content last inv.generation so_far.read (subst (λ (v : Version). EndsAt (layout_of v) c.args.generation low content last) (sym inv.version) ends) in
    let reads = subst (λ (l : List ℕ). ReadsAtGate layout (drop c.loop.scan.gate l) here.size) (sym same) here.reads in
    let tried = c.in_err-entries.ensures.within honest low here.size so_far.batches read reads in
    rw q.1 (pieces_further (length (g.D.Disk.states c.args.disk.now)) (length (g.D.Disk.states c.loop.disk)) (length (g.D.Disk.states c.next_frame.new.disk))
    (end_of c.args.scan.now.reader) (end_of c.loop.scan.reader) c.loop.scan.gate here.size last inv.called inv.pieces here.some here.inside tried)

pub returns-in_err-apply-in-Batch-clause-tried : goal.returns-in_err-apply-in-Batch-clause-tried
returns-in_err-apply-in-Batch-clause-tried g c = λ honest low last begun ends.
    let q = err_from_is_err_and c.from_residual-in_err-apply-in-Batch.result c.from_residual-in_err-apply-in-Batch.ensures.1 in
    let inv = c.loop.invariant in
    let layout : Layout = layout_of c.loop.scan.version in
    let content : List ℕ = log_bytes g.D.Disk.states c.args.disk.now c.args.generation in
    let so_far = inv.read (c.in_ok-entries.ensures.looks.was_honest honest) low begun in
    let same = same_log g.D.Disk.states g.D.Disk.failures g.D.Disk.honest c.args.disk.now c.loop.disk inv.looks c.loop.scan c.args.generation inv.generation in
    let found = rw c.in-Batch.is at (c.in_ok-entries.ensures.found honest low so_far.batches (subst (λ (l : List ℕ). HasRead layout low so_far.batches c.loop.scan l) (sym same) so_far.read)) in
    let goes_on = rw c.in-Batch.is at c.in_ok-entries.ensures.goes_on in
    let next : pieces_in (end_of c.next_frame.new.self.reader) ≡ max (pieces_in (end_of c.loop.scan.reader)) (pieces_in (c.next_frame.new.self.gate + 1)) = rw c.in-Batch.is at c.in_ok-entries.ensures.pieces in
    let read = subst (λ (l : List ℕ). IsNextBatch layout low so_far.batches c.in-Batch.entries.items c.loop.scan c.next_frame.new.self l) same found in
    let here = reads_inside layout (layout_room c.loop.scan.version) c.args.generation low (so_far.batches ++ batch_of c.loop.scan.expected c.in-Batch.entries.items ∷ []) c.next_frame.new.self content last (goes_on.0 ∙ inv.generation) read.read (subst (λ (v : Version). EndsAt (layout_of v) c.args.generation low content last) (sym inv.version) ends) in
    rw q.1 (pieces_upto (length (g.D.Disk.states c.args.disk.now)) (length (g.D.Disk.states c.loop.disk)) (length (g.D.Disk.states c.next_frame.new.disk))
    (end_of c.args.scan.now.reader) (end_of c.loop.scan.reader) (end_of c.next_frame.new.self.reader) c.loop.scan.gate c.next_frame.new.self.gate here.size last
    inv.called inv.pieces c.in_ok-entries.ensures.called next goes_on.2 here.some here.inside)

pub returns-clause-tried : goal.returns-clause-tried
returns-clause-tried g c = λ honest low last begun ends.
    let so_far = c.loop.invariant.read honest low begun in
    let many = so_far.many in
    let few = few_batches (layout_of c.loop.scan.version) low so_far.batches c.loop.scan (log_bytes g.D.Disk.states c.args.disk.now c.args.generation) so_far.read in
    let over = c.loop-test.false in
    let fits = c.damaged.ensures.fits in
    absurd (omega (arith, many, few, over, fits))

pub returns-in_err-entries-clause-listed : goal.returns-in_err-entries-clause-listed
returns-in_err-entries-clause-listed g c =
    let q = err_from_is_err_and c.from_residual.result c.from_residual.ensures.1 in
    let r = c.in_err-entries.field-0.0 in
    rw (q.1, q.2) (subst (λ (n : ℕ). IsFileRefused (log_file n) r) c.loop.invariant.generation (gate_refused c.loop.scan.generation c.loop.scan.gate _ r c.in_err-entries.ensures.err))

pub returns-clause-listed : goal.returns-clause-listed
returns-clause-listed g c = inr (inr (inr (c.loop.scan.gate, c.damaged.ensures.value)))
