use Rattle.journal.proofs.laws.runs_were_taken.Goals as goal

pub returns-clause-taken : goal.returns-clause-taken
returns-clause-taken g c =
    let k = c.journal.invariant.kept in
    rw (← c.journal.view_is) (λ commands run. c.runs_were_taken.ensures _ k.0 _ k.1 commands run)
