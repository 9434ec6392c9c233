use Rattle.stripe_locks.proofs.stripes.Stripes.give.Given as goal

abbrev pub ghosts-give_as : goal.ghosts-give_as
ghosts-give_as a = record { purpose = a.purpose.now }
