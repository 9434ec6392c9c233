use Rattle.std.proofs.Common.{List, length, take}
use Rattle.disk_model.specs.Files.{AllCoherent}
use Rattle.disk_model.specs.Events.{Event, states_from, failed, gave}
use Rattle.disk_model.proofs.EventLemmas.{after_look}
use Rattle.disk_model.proofs.FileLemmas.{now_coherent}
use Rattle.disk_model.proofs.dir.DirDiskDisk.read.Goals as goal

pub invariant_of-self : goal.invariant_of-self
invariant_of-self g c =
    let old = c.args.self.now in
    let states = states_from g.S.Start.files g.S.Start.left in
    let are = now_coherent (states old.calls.past.events) old.coherent in
    record {
      coherent = after_look (λ (es : List Event). AllCoherent (states es)) c.read.result
          (λ n. gave c.args.file c.args.at (length c.args.buf.now) (take n c.read.new.buf)) failed old.calls.past.events c.read.new.log.past.events
          c.read.ensures.ok c.read.ensures.err (λ n. (are, old.coherent)) (are, old.coherent);
      files = old.files;
    }
