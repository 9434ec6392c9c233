use Rattle.cmd_directory.proofs.summary.Summary.text.Goals as goal

pub returns : goal.returns
returns c = c.format.ensures.ok
