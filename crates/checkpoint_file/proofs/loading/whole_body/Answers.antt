use Rattle.std.proofs.Common.{ℕ, inr, refl, ap, ◌∙◌, arith}
use Rattle.map_types.specs.declared.refusals.Refusal.TheVariants.{Damaged}
use Rattle.log_records.specs.Layout.{layout_of}
use Rattle.checkpoint_file.specs.Loads.{seen_in}
use Rattle.checkpoint_file.proofs.WholeFiles.{fills, is_left_over}
use Rattle.checkpoint_file.proofs.loading.whole_body.Goals as goal

pub returns-then-behind-gt0-clause-err : goal.returns-then-behind-gt0-clause-err
returns-then-behind-gt0-clause-err g c =
    let behind = c.in_ok-sections.behind in
    inr (inr (
      behind.at,
      c.damaged.ensures ∙ ap (λ (n : ℕ). Damaged n behind.at) c.in_ok-sections.ensures.behind.file,
      λ honest rest is size.
          let found = c.in_ok-sections.ensures.ok honest rest is size in
          is_left_over (layout_of c.args.unread.version) c.args.stripes.count c.in_ok-sections.sections.items _ rest c.args.unread behind behind.at c.in_ok-sections.ensures.loaded c.in_ok-sections.ensures.many c.in_ok-sections.ensures.behind size found
          c.if-behind-gt0.true refl,
    ))

pub returns-clause-ok : goal.returns-clause-ok
returns-clause-ok g c = λ honest rest is size.
    let found = c.in_ok-sections.ensures.ok honest rest is size in
    fills (layout_of c.args.unread.version) c.args.stripes.count c.in_ok-sections.sections.items (seen_in g.D.Disk.states c.args.disk.now c.args.unread.file) rest c.args.unread c.in_ok-sections.behind
    c.in_ok-sections.ensures.loaded c.in_ok-sections.ensures.many found (let none = c.if-behind-gt0.false in omega (arith, none))
