use Rattle.std.proofs.Common.{inr, refl, ap, subst, List, ℕ}
use Rattle.disk_model.specs.Files.{now, AreBytes}
use Rattle.disk_model.specs.Fills.{seen_torn}
use Rattle.disk_model.specs.Events.{Event, states_of, failures_of}
use Rattle.disk_model.proofs.FillLemmas.{coherent_torn}
use Rattle.disk_model.proofs.MemoryLemmas.{Holds, was_coherent, tore_seen, tore_holds}
use Rattle.disk_model.proofs.memory.MemDisk.tear.Goals as goal

pub invariant_of-self : goal.invariant_of-self
invariant_of-self c =
    let old = c.args.self.now in
    let events = old.past.events in
    let number = c.args.file in
    let file = now (states_of events) number in
    let one = c.tear.new.self in
    let holds : Holds old.files events = record { are = old.kept; coherent = old.coherent } in
    let is = c.in-Ok.ensures.ok file (old.kept.each number c.index-self-file.result c.requires.file) in
    let seen = seen_torn c.args.fill.now number c.args.at c.args.bytes.now file in
    let noted = tore_seen old.files events number one c.requires.file holds c.args.at c.args.bytes.now seen c.tore-self.result.events is c.tore-self.ensures in
    let are = subst (λ (l : List ℕ). AreBytes l) is.seen one.bytes in
    let next = tore_holds old.files events number one c.requires.file holds c.args.at c.args.bytes.now seen c.tore-self.result.events is
    (coherent_torn c.args.fill.now number c.args.at c.args.bytes.now file (was_coherent old.files events number one c.requires.file holds) are) noted in
    record { kept = next.are; coherent = next.coherent }

pub returns-in-Ok-clause-torn : goal.returns-in-Ok-clause-torn
returns-in-Ok-clause-torn c =
    let old = c.args.self.now in
    let events = old.past.events in
    let number = c.args.file in
    let file = now (states_of events) number in
    let one = c.tear.new.self in
    let holds : Holds old.files events = record { are = old.kept; coherent = old.coherent } in
    let is = c.in-Ok.ensures.ok file (old.kept.each number c.index-self-file.result c.requires.file) in
    let seen = seen_torn c.args.fill.now number c.args.at c.args.bytes.now file in
    let noted = tore_seen old.files events number one c.requires.file holds c.args.at c.args.bytes.now seen c.tore-self.result.events is c.tore-self.ensures in
    inr (refl, ap (λ (es : List Event). states_of es) noted)

pub returns-in-Ok-clause-failures : goal.returns-in-Ok-clause-failures
returns-in-Ok-clause-failures c =
    let old = c.args.self.now in
    let events = old.past.events in
    let number = c.args.file in
    let file = now (states_of events) number in
    let one = c.tear.new.self in
    let holds : Holds old.files events = record { are = old.kept; coherent = old.coherent } in
    let is = c.in-Ok.ensures.ok file (old.kept.each number c.index-self-file.result c.requires.file) in
    let seen = seen_torn c.args.fill.now number c.args.at c.args.bytes.now file in
    let noted = tore_seen old.files events number one c.requires.file holds c.args.at c.args.bytes.now seen c.tore-self.result.events is c.tore-self.ensures in
    ap (λ (es : List Event). failures_of es) noted
