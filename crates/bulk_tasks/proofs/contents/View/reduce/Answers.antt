use Rattle.std.proofs.Common.{ap, ◌∙◌}
use Rattle.bulk_tasks.specs.ViewState.{ViewState}
use Rattle.bulk_tasks.specs.Tallies.{answer_of, tally_of_entries}
use Rattle.bulk_tasks.specs.Bulk.{reduction_of}
use Rattle.bulk_tasks.proofs.Joining.{reduces}
use Rattle.bulk_tasks.proofs.contents.View.reduce.Goals as goal

pub returns-clause-ok : goal.returns-clause-ok
returns-clause-ok g c =
    let es = c.self.inside.entries.items in
    let yes = c.can_reduce.ensures.yes c.if-not-can_reduce.false in (
      yes,
      c.answer.ensures
          ∙ ap answer_of (c.tally_of_all-tally.ensures ∙ ap (tally_of_entries c.args.func) c.as_slice.ensures.value)
          ∙ reduces c.args.func es c.self.invariant yes
          ∙ ap (λ (s : ViewState). reduction_of c.args.func s.map) c.self.view_is,
    )
