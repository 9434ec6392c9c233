use Rattle.disk_model.specs.Files.{now}
use Rattle.disk_model.specs.Fills.{after_stop, left_by}
use Rattle.disk_model.specs.Events.{states_of}
use Rattle.disk_model.proofs.FileLemmas.{now_coherent, coherent_at_rest}
use Rattle.disk_model.proofs.FillLemmas.{left_allowed}
use Rattle.disk_model.proofs.MemoryLemmas.{kept_bytes}
use Rattle.disk_model.proofs.memory.MemDisk.stop.Goals as goal

pub returns-clause-allowed : goal.returns-clause-allowed
returns-clause-allowed c = λ n low.
    let old = c.args.self.now in
    let files = now (states_of old.past.events) in
    let are = now_coherent (states_of old.past.events) old.coherent in
    left_allowed c.args.fill.now files n (are n low)
    (kept_bytes c.in_ok-self.field-0 (after_stop c.args.fill.now files) (c.in_ok-self.ensures files old.kept are) n low)

pub invariant_of-self : goal.invariant_of-self
invariant_of-self c =
    let old = c.args.self.now in
    let files = now (states_of old.past.events) in
    let are = now_coherent (states_of old.past.events) old.coherent in
    let left = c.in_ok-self.ensures files old.kept are in
    rw c.with-self.ensures (record {
      kept = left;
      coherent = (
        (λ n low. coherent_at_rest (left_by c.args.fill.now files n) (kept_bytes c.in_ok-self.field-0 (after_stop c.args.fill.now files) left n low)),
        old.coherent,
      );
    })
