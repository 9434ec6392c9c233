use Rattle.disk_model.proofs.FileLemmas.{now_coherent}
use Rattle.disk_model.specs.Files.{now}
use Rattle.disk_model.specs.Events.{states_of}
use Rattle.disk_model.proofs.MemoryLemmas.{Holds, synced_holds, same_kept}
use Rattle.disk_model.proofs.memory.MemDiskDisk.sync.Goals as goal

pub invariant_of-self : goal.invariant_of-self
invariant_of-self c =
    let old = c.args.self.now in
    rw c.with-self.ensures (record { kept = old.kept; coherent = (now_coherent (states_of old.past.events) old.coherent, old.coherent) })

pub invariant_of-self-in-Ok : goal.invariant_of-self-in-Ok
invariant_of-self-in-Ok c =
    let old = c.args.self.now in
    let file = now (states_of old.past.events) c.args.file in
    let holds : Holds old.files old.past.events = record { are = old.kept; coherent = old.coherent } in
    let is = c.in-Ok.ensures.ok file (old.kept.each c.args.file c.index-self-file.result c.requires) in
    let next = synced_holds old.files old.past.events c.args.file c.settle.new.self c.requires holds c.with-self-in-Ok.result.events is c.with-self-in-Ok.ensures in
    record { kept = next.are; coherent = next.coherent }

pub invariant_of-self-in-Err : goal.invariant_of-self-in-Err
invariant_of-self-in-Err c =
    let old = c.args.self.now in
    let file = now (states_of old.past.events) c.args.file in
    let holds : Holds old.files old.past.events = record { are = old.kept; coherent = old.coherent } in
    let is = c.in-Err.ensures.err file (old.kept.each c.args.file c.index-self-file.result c.requires) in
    let same = same_kept old.files old.past.events c.args.file c.settle.new.self c.requires holds is in
    rw c.with-self-in-Err.ensures (record { kept = same; coherent = (now_coherent (states_of old.past.events) old.coherent, old.coherent) })
