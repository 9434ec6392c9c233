use Rattle.std.proofs.Common.{List}
use Rattle.disk_model.specs.Files.{AllCoherent, now, synced}
use Rattle.disk_model.specs.Events.{Event, states_from, failed, synced_file}
use Rattle.disk_model.proofs.EventLemmas.{after_act}
use Rattle.disk_model.proofs.FileLemmas.{now_coherent, coherent_with, coherent_at_rest}
use Rattle.disk_model.proofs.dir.DirDiskDisk.sync.Goals as goal

pub invariant_of-self : goal.invariant_of-self
invariant_of-self g c =
    let old = c.args.self.now in
    let states = states_from g.S.Start.files g.S.Start.left in
    let before = states old.calls.past.events in
    let are = now_coherent before old.coherent in
    let file = now before c.args.file in
    record {
      coherent = after_act (λ (es : List Event). AllCoherent (states es)) c.sync.result (synced_file c.args.file) failed old.calls.past.events c.sync.new.log.past.events
          c.sync.ensures.ok c.sync.ensures.err
          (coherent_with c.args.file (synced file) (now before) are (coherent_at_rest file.seen (are c.args.file c.requires).bytes), old.coherent)
          (are, old.coherent);
      files = old.files;
    }
