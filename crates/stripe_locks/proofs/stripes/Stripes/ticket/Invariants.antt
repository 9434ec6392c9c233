use Rattle.stripe_locks.proofs.stripes.Stripes.ticket.Given as goal

abbrev pub ghosts-ticket_as : goal.ghosts-ticket_as
ghosts-ticket_as a = record { change = a.command.now }
