use Rattle.std.proofs.Common.{[], arith}
use Rattle.disk_model.specs.Files.{empty_files}
use Rattle.disk_model.proofs.FileLemmas.{coherent_at_rest}
use Rattle.disk_model.proofs.MemoryLemmas.{four_kept}
use Rattle.disk_model.proofs.memory.MemDisk.new.Goals as goal

pub invariant_of-result : goal.invariant_of-result
invariant_of-result c =
    rw c.new-5.ensures (record {
      kept = four_kept c.new.result c.new-2.result c.new-3.result c.new-4.result empty_files c.new.ensures c.new-2.ensures c.new-3.ensures c.new-4.ensures;
      coherent = ((λ n low. coherent_at_rest [] (λ i. omega arith)), tt);
    })
