use Rattle.std.proofs.Common.{◌≡◌, ◌∙◌, ℕ, List, inl, subst}
use Rattle.call_text.specs.Printing.{Prints}
use Rattle.cmd_directory.specs.Directory.{summary_text}
use Rattle.cmd_directory.proofs.directory.check_disk.Goals as goal

pub returns-in-Ok-text : goal.returns-in-Ok-text
returns-in-Ok-text g c =
    let text : c.as_str.result.now ≡ summary_text c.in-Ok.summary = c.as_str.ensures.value ∙ c.in-Ok-text.ensures in
    inl (
      c.in-Ok.summary,
      c.in-Ok.ensures.ok,
      subst (λ (t : List ℕ). Prints t (g.W.Write.contents c.args.output.now) (g.W.Write.contents c.print.new.output) c.print.result) text c.print.ensures,
    )
