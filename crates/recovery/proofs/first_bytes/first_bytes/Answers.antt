use Rattle.std.proofs.Common.{◌∙◌}
use Rattle.log_records.specs.Layout.{layout_of}
use Rattle.recovery.proofs.FirstBytes.{first_bytes_are, renamed}
use Rattle.store_layout.specs.Logs.{new_layout}
use Rattle.recovery.proofs.first_bytes.first_bytes.Goals as goal

pub returns-clause-ok : goal.returns-clause-ok
returns-clause-ok c =
    let layout = layout_of c.args.version in
    rw (
      c.in_ok-extend_from_slice-2.ensures.items,
      c.in_ok-extend_from_slice.ensures.items,
      c.deref.ensures.value,
      c.header-header.ensures,
      c.byte.ensures,
      renamed new_layout layout 0 0 0 c.args.stripes.count c.len.result,
      c.new-bytes.ensures.items,
      c.len.ensures ∙ c.in_ok-sections.sections.ok.0,
      c.in_ok-sections.ensures.ok layout,
    )
    (first_bytes_are layout c.args.stripes.count)
