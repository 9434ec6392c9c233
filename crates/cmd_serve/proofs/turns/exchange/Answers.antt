use Rattle.cmd_serve.proofs.turns.exchange.Goals as goal

pub returns-then-not-send-clause-owned : goal.returns-then-not-send-clause-owned
returns-then-not-send-clause-owned g c = rw c.send.ensures c.requires.owned

pub answers-init : goal.answers-init
answers-init g c = rw c.send.ensures (c.requires.owned, λ held p. p)
