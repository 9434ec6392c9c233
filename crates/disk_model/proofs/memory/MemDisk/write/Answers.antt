use Rattle.disk_model.specs.Files.{now}
use Rattle.disk_model.specs.Events.{states_of}
use Rattle.disk_model.proofs.MemoryLemmas.{Holds, wrote_holds}
use Rattle.disk_model.proofs.memory.MemDisk.write.Goals as goal

pub invariant_of-self : goal.invariant_of-self
invariant_of-self c =
    let old = c.args.self.now in
    let file = now (states_of old.past.events) c.args.file in
    let holds : Holds old.files old.past.events = record { are = old.kept; coherent = old.coherent } in
    let is = c.in-Ok.ensures.ok file (old.kept.each c.args.file c.index-self-file.result c.requires.file) in
    let next = wrote_holds old.files old.past.events c.args.file c.write.new.self c.requires.file holds c.args.at c.args.bytes.now c.with-self.result.events is c.with-self.ensures in
    record { kept = next.are; coherent = next.coherent }
