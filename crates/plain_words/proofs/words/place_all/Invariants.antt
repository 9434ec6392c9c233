use Rattle.one_history.specs.SharedWords.{ArePlaced}
use Rattle.plain_words.proofs.words.place_all.Given as goal

abbrev pub invariant-loop-part : goal.invariant-loop-part
invariant-loop-part l = ArePlaced l.first l.yielded l.slots.items
