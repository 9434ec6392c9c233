use Rattle.std.proofs.Common.{ap, ◌∙◌, subst, sym}
use Rattle.std.specs.FinMap as finite
use Rattle.bin_table.specs.Chains.{HasDistinctKeys}
use Rattle.bulk_tasks.proofs.Apart.{distinct, united}
use Rattle.bulk_tasks.proofs.contents.View.new.Goals as goal

pub invariant_of-result : goal.invariant_of-result
invariant_of-result c =
    let parts = c.requires.parts in
    subst HasDistinctKeys (sym c.in_ok-marks.ensures.entries) (distinct parts.0 0 c.args.captured.items parts.1 parts.2)

pub returns-clause-map : goal.returns-clause-map
returns-clause-map c = λ n ms parts.
    ap (λ es. finite.from_entries es) (c.in_ok-marks.ensures.entries ∙ united n 0 c.args.captured.items ms parts)
