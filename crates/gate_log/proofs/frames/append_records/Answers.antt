use Rattle.std.proofs.Common.{◌++◌, List, ℕ, take, sym, ap, ◌∙◌, arith, append_assoc}
use Rattle.log_records.specs.Layout.{layout_of}
use Rattle.log_records.specs.Spelling.{record_bytes}
use Rattle.store_layout.specs.Logs.{records_bytes}
use Rattle.gate_log.specs.States.{commands_of}
use Rattle.gate_log.proofs.RecordLemmas.{records_more, fits_more, within_at}
use Rattle.gate_log.proofs.frames.append_records.Goals as goal

pub encode-requires : goal.encode-requires
encode-requires c = record {
  within = within_at (layout_of c.args.version).key_limit c.args.entries.now c.loop-entry.entry-index c.entry-item.result (omega arith) c.entry-item.is c.requires.within;
}

pub loop-entry-preserved : goal.loop-entry-preserved
loop-entry-preserved c =
    let entries = c.args.entries.now in
    let i = c.loop-entry.entry-index in
    let entry = c.entry-item.result in
    let before = records_bytes (layout_of c.args.version) (commands_of (take i entries)) in (
      c.in_ok-encode.ensures.ok ∙ ap (λ (l : List ℕ). l ++ record_bytes (layout_of c.args.version) entry.command) c.loop-entry.invariant.0
          ∙ append_assoc c.args.out.now.items before (record_bytes (layout_of c.args.version) entry.command)
          ∙ ap (λ (l : List ℕ). c.args.out.now.items ++ l) (sym (records_more (layout_of c.args.version) entries i entry (omega arith) c.entry-item.is)),
      fits_more (layout_of c.args.version) entries i entry (omega arith) c.entry-item.is c.loop-entry.invariant.1 c.in_ok-encode.ensures.fits,
    )
