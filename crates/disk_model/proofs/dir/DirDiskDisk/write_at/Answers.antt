use Rattle.std.proofs.Common.{ap, List, length, arith}
use Rattle.disk_model.specs.Files.{AllCoherent, AreBytes, now, written}
use Rattle.disk_model.specs.Fills.{torn}
use Rattle.disk_model.specs.Events.{Event, states_from, wrote, broke}
use Rattle.disk_model.proofs.EventLemmas.{after_act}
use Rattle.disk_model.proofs.FileLemmas.{now_coherent, coherent_with, coherent_written, bytes_overwritten}
use Rattle.disk_model.proofs.FillLemmas.{coherent_torn, torn_is_torn, bytes_seen_torn}
use Rattle.disk_model.proofs.dir.DirDiskDisk.write_at.Goals as goal

pub invariant_of-self : goal.invariant_of-self
invariant_of-self g c =
    let old = c.args.self.now in
    let events = old.calls.past.events in
    let states = states_from g.S.Start.files g.S.Start.left in
    let are = now_coherent (states events) old.coherent in
    let number = c.args.file in
    let at = c.args.at in
    let file = now (states events) number in
    let bytes = c.args.bytes.now in
    let fill = g.S.Start.left (length events) in
    let are_bytes : AreBytes bytes = λ i. omega (arith, c.type_inv.bytes i) in
    let h = are number c.requires.file in
    record {
      coherent = after_act (λ (es : List Event). AllCoherent (states es)) c.write.result (wrote number at bytes) (broke number at bytes) events c.write.new.log.past.events
          c.write.ensures.ok c.write.ensures.err
          (coherent_with number (written at bytes file) (now (states events)) are (coherent_written at bytes file h (bytes_overwritten at bytes file.seen are_bytes h.bytes)), old.coherent) (
            coherent_with number (torn fill number at bytes file) (now (states events)) are
                (coherent_torn fill number at bytes file h (bytes_seen_torn fill number at bytes file (g.S.Start.have_bytes (length events)) h are_bytes)),
            old.coherent,
          );
      files = old.files;
    }

pub returns-in-Err-clause-torn : goal.returns-in-Err-clause-torn
returns-in-Err-clause-torn g c =
    let events = c.args.self.now.calls.past.events in
    let states = states_from g.S.Start.files g.S.Start.left events in
    let file = now states c.args.file in
    let fill = g.S.Start.left (length events) in (
      torn fill c.args.file c.args.at c.args.bytes.now file,
      (λ inside. torn_is_torn fill c.args.file c.args.at c.args.bytes.now file inside),
      ap (λ (es : List Event). states_from g.S.Start.files g.S.Start.left es) c.in-Err.ensures.err,
    )
