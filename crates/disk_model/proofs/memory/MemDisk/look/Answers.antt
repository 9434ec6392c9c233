use Rattle.disk_model.proofs.FileLemmas.{now_coherent}
use Rattle.disk_model.specs.Events.{states_of}
use Rattle.disk_model.proofs.memory.MemDisk.look.Goals as goal

pub invariant_of-self : goal.invariant_of-self
invariant_of-self c =
    let old = c.args.self.now in
    rw c.with-self.ensures (record { kept = old.kept; coherent = (now_coherent (states_of old.past.events) old.coherent, old.coherent) })

pub invariant_of-self-2 : goal.invariant_of-self-2
invariant_of-self-2 c =
    let old = c.args.self.now in
    rw c.with-self-2.ensures (record { kept = old.kept; coherent = (now_coherent (states_of old.past.events) old.coherent, old.coherent) })
