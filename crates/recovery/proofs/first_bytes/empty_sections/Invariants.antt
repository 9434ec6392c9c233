use Rattle.std.proofs.Common.{◌≡◌}
use Rattle.log_records.specs.Layout.{Layout}
use Rattle.recovery.proofs.FirstBytes.{Sections}
use Rattle.recovery.proofs.first_bytes.empty_sections.Given as goal

abbrev pub invariant-loop : goal.invariant-loop
invariant-loop l = (layout : Layout) → l.bytes.items ≡ Sections layout l.counter
