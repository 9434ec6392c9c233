use Rattle.std.proofs.Common.{ap, refl, List}
use Rattle.disk_model.specs.Files.{now}
use Rattle.disk_model.specs.Events.{Event, states_of, failures_of}
use Rattle.disk_model.proofs.FileLemmas.{coherent_lost}
use Rattle.disk_model.proofs.MemoryLemmas.{Holds, was_coherent, tore_seen, tore_holds}
use Rattle.disk_model.proofs.memory.MemDisk.lose.Goals as goal

pub invariant_of-self : goal.invariant_of-self
invariant_of-self c =
    let old = c.args.self.now in
    let file = now (states_of old.past.events) c.args.file in
    let holds : Holds old.files old.past.events = record { are = old.kept; coherent = old.coherent } in
    let is = c.touch.ensures.kept file (old.kept.each c.args.file c.index-self-file.result c.requires.file) in
    let noted = tore_seen old.files old.past.events c.args.file c.touch.new.self c.requires.file holds c.args.at c.args.bytes.now file.seen c.tore-self.result.events is c.tore-self.ensures in
    let next = tore_holds old.files old.past.events c.args.file c.touch.new.self c.requires.file holds c.args.at c.args.bytes.now file.seen c.tore-self.result.events is
    (coherent_lost c.args.at c.args.bytes.now file (was_coherent old.files old.past.events c.args.file c.touch.new.self c.requires.file holds)) noted in
    record { kept = next.are; coherent = next.coherent }

pub returns-clause-lost : goal.returns-clause-lost
returns-clause-lost c =
    let old = c.args.self.now in
    let file = now (states_of old.past.events) c.args.file in
    let holds : Holds old.files old.past.events = record { are = old.kept; coherent = old.coherent } in
    let is = c.touch.ensures.kept file (old.kept.each c.args.file c.index-self-file.result c.requires.file) in
    let noted = tore_seen old.files old.past.events c.args.file c.touch.new.self c.requires.file holds c.args.at c.args.bytes.now file.seen c.tore-self.result.events is c.tore-self.ensures in
    record { short = refl; state = ap (λ (es : List Event). states_of es) noted }

pub returns-clause-failures : goal.returns-clause-failures
returns-clause-failures c =
    let old = c.args.self.now in
    let file = now (states_of old.past.events) c.args.file in
    let holds : Holds old.files old.past.events = record { are = old.kept; coherent = old.coherent } in
    let is = c.touch.ensures.kept file (old.kept.each c.args.file c.index-self-file.result c.requires.file) in
    let noted = tore_seen old.files old.past.events c.args.file c.touch.new.self c.requires.file holds c.args.at c.args.bytes.now file.seen c.tore-self.result.events is c.tore-self.ensures in
    ap (λ (es : List Event). failures_of es) noted
