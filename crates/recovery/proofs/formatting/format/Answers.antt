use Rattle.recovery.proofs.formatting.format.Goals as goal

pub returns-clause-written : goal.returns-clause-written
returns-clause-written g c = c.format_as.ensures.written

pub returns-clause-read_in : goal.returns-clause-read_in
returns-clause-read_in g c = c.format_as.ensures.read_in

pub returns-clause-files : goal.returns-clause-files
returns-clause-files g c = c.format_as.ensures.files
