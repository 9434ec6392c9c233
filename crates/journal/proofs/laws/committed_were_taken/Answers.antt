use Rattle.journal.proofs.laws.committed_were_taken.Goals as goal

pub returns-clause-each : goal.returns-clause-each
returns-clause-each g c =
    let k = c.journal.invariant.kept in
    rw (← c.journal.view_is) (λ e has below. c.committed_were_taken.ensures.each _ k.0 _ k.1 e has below)
