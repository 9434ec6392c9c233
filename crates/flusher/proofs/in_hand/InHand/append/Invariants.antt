use Rattle.flusher.specs.HandSteps.{Gains}
use Rattle.flusher.proofs.in_hand.InHand.append.Given as goal

abbrev pub invariant-loop-entry : goal.invariant-loop-entry
invariant-loop-entry l = Gains l.initial.self l.yielded l.self
